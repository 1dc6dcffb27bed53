-- The trees of one value are equal, whatever the order of its members.
use Rattle.std.proofs.Common.{◌≡◌, ◌<◌, ◌-◌, ◌∙◌, ◌^◌, ℕ, suc, ℤ, pos, negsuc, List, [], ◌∷◌, length, get_or, Bool, true, false, cond, Option, Some, None, refl, ap, sym, subst, arith, codes, encode_utf8_all, nat_eq}
use Rattle.std.specs.Prelude.{nat_lt, ◌-ℤ◌}
use Rattle.std.specs.Int.Signed.{mag}
use Rattle.std.specs.Char.Utf16.{has_unpaired_surrogate, utf16_lossy_chars}
use Rattle.std.specs.Cmp.Lexicographic.{pointwise}
use Rattle.std.specs.List.{All, AllByRecursion}
use Rattle.std.specs.Map.{lookup, keys_of}
use Rattle.std.proofs.lemmas.Slice.Eq.{bytes_eq-Decides}
use Rattle.json.specs.Lex.{tokens}
use Rattle.serde_json.specs.Data.{Data, string}
use Rattle.rb_tree.specs.Keys.{pairs, IsKey, IsPlain}
use Rattle.rb_tree.specs.Resource.{Resource, int, ints, binary, alias, table, Resources, no_trees, tree_and, no_entries, entry_and}
use Rattle.rb_tree.specs.Resource as tree
use Rattle.rb_tree.specs.Table.{NoRepeat}
use Rattle.rb_tree.proofs.Filled.{no_repeat}
use Rattle.rb_printer.specs.Sound as printed
use Rattle.rb_json.specs.Leaf.{signed_of, units_data, numbers_data}
use Rattle.rb_json.specs.Value.{value_of, items_value, members_value, tagged}
use Rattle.rb_json.specs.Sound.{AreBelow, IsSound, AreSound, EntriesSound}
use Rattle.rb_json.specs.Printed.{laid_out}
use Rattle.rb_json.specs.declared.layout.Layout.{Layout}
use Rattle.rb_json.proofs.SameValues.{trees_same}
use Rattle.rb_json_reader.specs.Arranged.{Arranges, ItemsArrange, EntriesArrange}
use Rattle.rb_json_reader.specs.Text.{IsJsonOf}
use Rattle.tests_files.proofs.JsonTexts.{HasIntegers, ItemsHaveIntegers, MembersHaveIntegers, data_same, text_tokens}

-- A sound tree whose tables may have their entries in any order.
abbrev mutual
  Good : Resource → Type 0
  Good (tree.string us) = AreBelow 65536 us
  Good (int n) = n < 2 ^ 28
  Good (ints zs) = AllByRecursion printed.IsNumber zs
  Good (binary bs) = AreBelow 256 bs
  Good (alias us) = AreBelow 65536 us
  Good (tree.array ts) = AreGood ts
  Good (table es) = EntriesGood es

  AreGood : Resources → Type 0
  AreGood no_trees = Unit {0}
  AreGood (tree_and t ts) = Good t × AreGood ts

  EntriesGood : tree.Members → Type 0
  EntriesGood no_entries = Unit {0}
  EntriesGood (entry_and k t es) = AreBelow 128 k × Good t × EntriesGood es

mutual
  sound : (t : Resource) → Good t → IsSound t
  sound (tree.string us) h = h
  sound (int n) h = h
  sound (ints zs) h = tt
  sound (binary bs) h = h
  sound (alias us) h = h
  sound (tree.array ts) h = items_sound ts h
  sound (table es) h = entries_sound es h

  items_sound : (ts : Resources) → AreGood ts → AreSound ts
  items_sound no_trees h = tt
  items_sound (tree_and t ts) h = (sound t h.0, items_sound ts h.1)

  entries_sound : (es : tree.Members) → EntriesGood es → EntriesSound es
  entries_sound no_entries h = tt
  entries_sound (entry_and k t es) h = (h.0, sound t h.1, entries_sound es h.2)

-- ---- a sound tree is good
below : (n : ℕ) (xs : List ℕ) → AllByRecursion (λ x. x < n) xs → AreBelow n xs
below n [] h = tt
below n (x ∷ xs) h = (h.0, below n xs h.1)

key_below : (k : List ℕ) → All IsPlain k → AreBelow 128 k
key_below [] h = tt
key_below (b ∷ bs) h = (omega (arith, (h 0 0 (omega arith)).1), key_below bs (λ i d l. h (suc i) d (omega arith)))

mutual
  good : (t : Resource) → printed.IsSound t → Good t
  good (tree.string us) h = below 65536 us h
  good (int n) h = h
  good (ints zs) h = h
  good (binary bs) h = below 256 bs h
  good (alias us) h = below 65536 us h
  good (tree.array ts) h = items_good ts h
  good (table es) h = entries_good es h.0.keys_ok h.1

  items_good : (ts : Resources) → printed.AreSound ts → AreGood ts
  items_good no_trees h = tt
  items_good (tree_and t ts) h = (good t h.0, items_good ts h.1)

  entries_good : (es : tree.Members) → All IsKey (keys_of (pairs es)) → printed.EachSound es → EntriesGood es
  entries_good no_entries keys h = tt
  entries_good (entry_and k t es) keys h =
      (key_below k (keys 0 [] (omega arith)).1, good t h.0, entries_good es (λ i d l. keys (suc i) d (omega arith)) h.1)

-- ---- what is arranged to a good tree is good
abbrev at : List ℕ → List (List ℕ × Resource) → Option Resource
at k ps = lookup (pointwise nat_eq k) ps

abbrev PairsGood : List (List ℕ × Resource) → Type 0
PairsGood [] = Unit {0}
PairsGood (p ∷ ps) = AreBelow 128 p.0 × Good p.1 × PairsGood ps

differ : (t : Resource) → ◌≡◌ {A = Option Resource} None (Some t) → ⊥
differ t e = cc

some_is : (t u : Resource) → ◌≡◌ {A = Option Resource} (Some t) (Some u) → t ≡ u
some_is t u h = cc

found_good : (es : tree.Members) → EntriesGood es → (k : List ℕ) (v : Resource) → at k (pairs es) ≡ Some v → AreBelow 128 k × Good v
found_good no_entries h k v e = absurd (differ v e)
found_good (entry_and l t es) h k v e = by (pointwise nat_eq k l) refl e (λ g. found_good es h.2 k v g)
  where
    by : (b : Bool) → pointwise nat_eq k l ≡ b → cond b (Some t) (at k (pairs es)) ≡ Some v → (at k (pairs es) ≡ Some v → AreBelow 128 k × Good v)
        → AreBelow 128 k × Good v
    by true f g rest = (subst (AreBelow 128) (sym ((bytes_eq-Decides k l).0 f)) h.0, subst Good (some_is t v g) h.1)
    by false f g rest = rest g

place : (k : List ℕ) (ps : List (List ℕ × Resource)) (v : Resource) → at k ps ≡ Some v
    → (j : ℕ) × (j < length (keys_of ps)) × (get_or (keys_of ps) j [] ≡ k)
place k [] v e = absurd (differ v e)
place k (p ∷ ps) v e = by (pointwise nat_eq k p.0) refl e (λ g. place k ps v g)
  where
    by : (b : Bool) → pointwise nat_eq k p.0 ≡ b → cond b (Some p.1) (at k ps) ≡ Some v
        → (at k ps ≡ Some v → (j : ℕ) × (j < length (keys_of ps)) × (get_or (keys_of ps) j [] ≡ k))
        → (j : ℕ) × (j < length (keys_of (p ∷ ps))) × (get_or (keys_of (p ∷ ps)) j [] ≡ k)
    by true f g rest = (0, omega arith, sym ((bytes_eq-Decides k p.0).0 f))
    by false f g rest = let w = rest g in (suc w.0, omega (arith, w.1), w.2)

pairs_good : (ps : List (List ℕ × Resource)) → NoRepeat (keys_of ps) → ((k : List ℕ) (v : Resource) → at k ps ≡ Some v → AreBelow 128 k × Good v) → PairsGood ps
pairs_good [] apart h = tt
pairs_good (p ∷ ps) apart h =
    let first = h p.0 p.1 (ap (λ (b : Bool). cond b (Some p.1) (at p.0 ps)) ((bytes_eq-Decides p.0 p.0).1 refl)) in
    (first.0, first.1, pairs_good ps (λ i j less within. apart (suc i) (suc j) (omega arith) (omega arith)) later)
  where
    later : (k : List ℕ) (v : Resource) → at k ps ≡ Some v → AreBelow 128 k × Good v
    later k v e = by (pointwise nat_eq k p.0) refl
      where
        by : (b : Bool) → pointwise nat_eq k p.0 ≡ b → AreBelow 128 k × Good v
        by true f =
            let w = place k ps v e in
            absurd (apart 0 (suc w.0) (omega arith) (omega (arith, w.1)) (sym (w.2 ∙ (bytes_eq-Decides k p.0).0 f)))
        by false f = h k v (ap (λ (b : Bool). cond b (Some p.1) (at k ps)) f ∙ e)

mutual
  arranged_good : (u t : Resource) → Arranges u t → Good t → Good u
  arranged_good (tree.string us) t a h = subst Good a h
  arranged_good (int n) t a h = subst Good a h
  arranged_good (ints zs) t a h = subst Good a h
  arranged_good (binary bs) t a h = subst Good a h
  arranged_good (alias us) t a h = subst Good a h
  arranged_good (tree.array us) t a h = items_arranged us a.0 a.2 (subst Good a.1 h)
  arranged_good (table es) t a h =
      let entries = a.3.entries in
      let held : EntriesGood entries = subst Good a.3.is h in
      entries_arranged es a.0 a.1 (pairs_good a.0 a.2 (λ k v e. found_good entries held k v (a.3.same k ∙ e)))

  items_arranged : (us ts : Resources) → ItemsArrange us ts → AreGood ts → AreGood us
  items_arranged no_trees ts a h = tt
  items_arranged (tree_and u us) ts a h =
      let held : AreGood (tree_and a.0 a.1) = subst AreGood a.2 h in
      (arranged_good u a.0 a.3 held.0, items_arranged us a.1 a.4 held.1)

  entries_arranged : (es : tree.Members) (ps : List (List ℕ × Resource)) → EntriesArrange es ps → PairsGood ps → EntriesGood es
  entries_arranged no_entries ps a h = tt
  entries_arranged (entry_and k u es) ps a h =
      let held : PairsGood ((k, a.0) ∷ a.1) = subst PairsGood a.2 h in
      (held.0, arranged_good u a.0 a.3 held.1, entries_arranged es a.1 a.4 held.2)

-- ---- a sound tree is its own arrangement
mutual
  own : (t : Resource) → printed.IsSound t → Arranges t t
  own (tree.string us) h = refl
  own (int n) h = refl
  own (ints zs) h = refl
  own (binary bs) h = refl
  own (alias us) h = refl
  own (tree.array ts) h = (ts, refl, items_own ts h)
  own (table es) h =
      (pairs es, entries_own es h.1, no_repeat (keys_of (pairs es)) h.0.ascend, record { entries = es; is = refl; ordered = h.0; same = λ k. refl })

  items_own : (ts : Resources) → printed.AreSound ts → ItemsArrange ts ts
  items_own no_trees h = refl
  items_own (tree_and t ts) h = (t, ts, refl, own t h.0, items_own ts h.1)

  entries_own : (es : tree.Members) → printed.EachSound es → EntriesArrange es (pairs es)
  entries_own no_entries h = refl
  entries_own (entry_and k t es) h = (t, pairs es, refl, own t h.0, entries_own es h.1)

-- ---- the value of a good tree has integers
small : (z : ℤ) → printed.IsNumber z → mag z < 2 ^ 63
small (pos n) h = omega arith
small (negsuc n) h = omega arith

signed_small : (n : ℕ) (b : Bool) → n < 2 ^ 28 → mag (cond b (pos n) (pos n -ℤ pos (2 ^ 28))) < 2 ^ 63
signed_small n true h = omega arith
signed_small n false h = by (nat_lt n (2 ^ 28))
  where
    by : (c : Bool) → mag (cond c (negsuc (2 ^ 28 - suc n)) (pos (n - 2 ^ 28))) < 2 ^ 63
    by true = omega arith
    by false = omega arith

units_integers : (us : List ℕ) → AreBelow 65536 us → HasIntegers (units_data us)
units_integers [] h = tt
units_integers (u ∷ us) h = ((pos u, refl, omega (arith, h.0)), units_integers us h.1)

numbers_integers : (zs : List ℤ) → AllByRecursion printed.IsNumber zs → HasIntegers (numbers_data zs)
numbers_integers [] h = tt
numbers_integers (z ∷ zs) h = ((z, refl, small z h.0), numbers_integers zs h.1)

text_integers : (b : Bool) (d : Data) (s : List ℕ) → HasIntegers d → HasIntegers (cond b d (string s))
text_integers true d s h = h
text_integers false d s h = tt

string_integers : (b : Bool) (d : Data) (s : List ℕ) → HasIntegers d → HasIntegers (cond b (tagged (codes ":units") d) (cond b d (string s)))
string_integers true d s h = (h, tt)
string_integers false d s h = tt

mutual
  integers : (t : Resource) → Good t → HasIntegers (value_of t)
  integers (tree.string us) h =
      string_integers (has_unpaired_surrogate us) (units_data us) (encode_utf8_all (utf16_lossy_chars us)) (units_integers us h)
  integers (int n) h = (signed_of n, refl, signed_small n (nat_lt n (2 ^ 27)) h)
  integers (ints zs) h = (numbers_integers zs h, tt)
  integers (binary bs) h = (tt, tt)
  integers (alias us) h =
      (text_integers (has_unpaired_surrogate us) (units_data us) (encode_utf8_all (utf16_lossy_chars us)) (units_integers us h), tt)
  integers (tree.array ts) h = items_integers ts h
  integers (table es) h = members_integers es h

  items_integers : (ts : Resources) → AreGood ts → ItemsHaveIntegers (items_value ts)
  items_integers no_trees h = tt
  items_integers (tree_and t ts) h = (integers t h.0, items_integers ts h.1)

  members_integers : (es : tree.Members) → EntriesGood es → MembersHaveIntegers (members_value es)
  members_integers no_entries h = tt
  members_integers (entry_and k t es) h = (integers t h.1, members_integers es h.2)

-- ---- what is read of a printed tree is that tree
pub tree_back : (layout : Layout) (text : List ℕ) (t read : Resource) → printed.IsSound t → printed.IsSound read
    → ((x y z : Resource) → Arranges x y → Arranges x z → y ≡ z) → text ≡ laid_out layout (value_of t) → IsJsonOf text read → read ≡ t
tree_back layout text t read s r one_arranged is h =
    let u = h.0 in
    let p : Good t = good t s in
    let q : Good u = arranged_good u read h.2 (good read r) in
    let same : value_of t ≡ value_of u =
    data_same (value_of t) (value_of u) (integers t p) (integers u q)
    (sym (text_tokens layout (value_of t) (integers t p)) ∙ ap tokens (sym is) ∙ h.1) in
    let one : u ≡ t = sym (trees_same t u (sound t p) (sound u q) same) in
    one_arranged t read t (subst (λ x. Arranges x read) one h.2) (own t s)
