-- Trees of one value are equal.
use Rattle.std.proofs.Common.{◌≡◌, ◌<◌, ◌+◌, ◌-◌, ◌*◌, ◌==◌, ◌&&◌, ◌||◌, ◌∙◌, ◌++◌, ℕ, zero, suc, ℤ, pos, negsuc, List, [], ◌∷◌, Bool, true, false, cond, Option, Some, None, Ok, Err, Result, refl, ap, sym, subst, arith, codes, map, length, length-append, encode_utf8, encode_utf8_all}
use Rattle.std.proofs.Math.IntN.{◌+ℤ◌, -ℤ-+ℤ_cancel}
use Rattle.std.specs.Prelude.{◌^◌, ◌-ℤ◌, nat_lt, nat_le, not, is_some, unwrap_or}
use Rattle.std.specs.List.{list_any}
use Rattle.std.specs.Char.{len_utf8}
use Rattle.std.specs.Char.Utf16.{utf16_chars, utf16_lossy_chars, has_unpaired_surrogate, lone_unit_char, surrogate_pair_char, is_high_surrogate, is_low_surrogate}
use Rattle.std.specs.Char.Escape.{encode_utf16}
use Rattle.std.proofs.lemmas.Str.{encode_ascii, encode_same, length-encode}
use Rattle.std.proofs.lemmas.Bool.{ltb-true, leb-true}
use Rattle.std.proofs.str.Utf16.{pair_units, one_unit}
use Rattle.hex.specs.Hex.{IsBytes, decode_of, encode_lower}
use Rattle.hex.specs.declared.error.FromHexError.{FromHexError}
use Rattle.hex.proofs.HexLemmas.{decode_of-encode_lower}
use Rattle.serde_json.specs.Data.{Data, null, boolean, number, string, array, object, no_members, member}
use Rattle.serde_json.specs.Find.{of_integer}
use Rattle.rb_tree.specs.Resource.{Resource, int, ints, binary, alias, table, Resources, no_trees, tree_and, no_entries, entry_and}
use Rattle.rb_tree.specs.Resource as tree
use Rattle.rb_json.specs.Leaf.{signed_of, units_data, numbers_data}
use Rattle.rb_json.specs.Value.{value_of, items_value, members_value, tagged, text_or_units, with_colon, key_text}
use Rattle.rb_json.specs.Sound.{AreBelow, IsSound, AreSound, EntriesSound}

-- ---- characters
some_bytes : (c : ℕ) → 0 < len_utf8 c
some_bytes c = grind arith

no_text : (c : ℕ) (bs : List ℕ) → [] ≡ encode_utf8 c ++ bs → ⊥
no_text c bs h =
    let long : 0 ≡ length (encode_utf8 c ++ bs) = ap length h in
    omega (arith, long, length-append (encode_utf8 c) bs, length-encode c, some_bytes c)

pub encoded : (cs ds : List ℕ) → encode_utf8_all cs ≡ encode_utf8_all ds → cs ≡ ds
encoded [] [] h = refl
encoded [] (d ∷ ds) h = absurd (no_text d (encode_utf8_all ds) h)
encoded (c ∷ cs) [] h = absurd (no_text c (encode_utf8_all cs) (sym h))
encoded (c ∷ cs) (d ∷ ds) h =
    let same = encode_same c d (encode_utf8_all cs) (encode_utf8_all ds) h in
    λ i. same.0 i ∷ encoded cs ds same.1 i

-- ---- units
abbrev pub units_for : List ℕ → List ℕ
units_for [] = []
units_for (c ∷ cs) = encode_utf16 c ++ units_for cs

abbrev lossy : Option ℕ → ℕ
lossy o = unwrap_or o 0xFFFD

abbrev lost : Option ℕ → Bool
lost o = not (is_some o)

either : (a b : Bool) → (a || b) ≡ false → (a ≡ false) × (b ≡ false)
either true b h = absurd cc
either false b h = (refl, h)

both : (a b : Bool) → (a && b) ≡ true → (a ≡ true) × (b ≡ true)
both true b h = (refl, h)
both false b h = absurd cc

chosen : (b : Bool) (u x : ℕ) → cond b None (Some u) ≡ Some x → u ≡ x
chosen true u x h = absurd cc
chosen false u x h = cc

lone_back : (u : ℕ) (o : Option ℕ) → lone_unit_char u ≡ o → lost o ≡ false → u < 65536 → encode_utf16 (lossy o) ≡ u ∷ []
lone_back u None is h below = absurd cc
lone_back u (Some x) is h below =
    let same : u ≡ x = chosen (nat_le 0xD800 u && nat_lt u 0xE000) u x is in
    ap encode_utf16 (sym same) ∙ one_unit u below

pair_back : (u v : ℕ) → (is_high_surrogate u && is_low_surrogate v) ≡ true → encode_utf16 (surrogate_pair_char u v) ≡ u ∷ v ∷ []
pair_back u v e =
    let parts = both (is_high_surrogate u) (is_low_surrogate v) e in
    let high = both (nat_le 0xD800 u) (nat_lt u 0xDC00) parts.0 in
    let low = both (nat_le 0xDC00 v) (nat_lt v 0xE000) parts.1 in
    let sum : surrogate_pair_char u v ≡ 0x1_0000 + ((u - 0xD800) * 0x400 + (v - 0xDC00)) = omega arith in
    ap encode_utf16 sum ∙ pair_units u v (leb-true 0xD800 u high.0) (leb-true 0xDC00 v low.0) (ltb-true v 0xE000 low.1)

chars_pair : (u v : ℕ) (us : List ℕ) → (is_high_surrogate u && is_low_surrogate v) ≡ true
    → utf16_chars (u ∷ v ∷ us) ≡ Some (surrogate_pair_char u v) ∷ utf16_chars us
unfolding utf16_chars
chars_pair u v us e = ap (λ (t : Bool). cond t (Some (surrogate_pair_char u v) ∷ utf16_chars us) (lone_unit_char u ∷ utf16_chars (v ∷ us))) e

chars_lone : (u v : ℕ) (us : List ℕ) → (is_high_surrogate u && is_low_surrogate v) ≡ false
    → utf16_chars (u ∷ v ∷ us) ≡ lone_unit_char u ∷ utf16_chars (v ∷ us)
unfolding utf16_chars
chars_lone u v us e = ap (λ (t : Bool). cond t (Some (surrogate_pair_char u v) ∷ utf16_chars us) (lone_unit_char u ∷ utf16_chars (v ∷ us))) e

chars_none : utf16_chars [] ≡ []
unfolding utf16_chars
chars_none = refl

chars_last : (u : ℕ) → utf16_chars (u ∷ []) ≡ lone_unit_char u ∷ []
unfolding utf16_chars
chars_last u = refl

-- what is read of the characters is what they were made of
abbrev Back : List ℕ → List (Option ℕ) → Type 0
Back us os = list_any lost os ≡ false → units_for (map lossy os) ≡ us

back_pair : (u v : ℕ) (us : List ℕ) (os : List (Option ℕ)) → (is_high_surrogate u && is_low_surrogate v) ≡ true → Back us os
    → Back (u ∷ v ∷ us) (Some (surrogate_pair_char u v) ∷ os)
back_pair u v us os e rest h =
    ap (λ (xs : List ℕ). xs ++ units_for (map lossy os)) (pair_back u v e) ∙ ap (λ (xs : List ℕ). u ∷ v ∷ xs) (rest h)

back_lone : (u : ℕ) (us : List ℕ) (os : List (Option ℕ)) → u < 65536 → Back us os → Back (u ∷ us) (lone_unit_char u ∷ os)
back_lone u us os below rest h =
    let parts = either (lost (lone_unit_char u)) (list_any lost os) h in
    ap (λ (xs : List ℕ). xs ++ units_for (map lossy os)) (lone_back u (lone_unit_char u) refl parts.0 below) ∙ ap (λ (xs : List ℕ). u ∷ xs) (rest parts.1)

back_by : (u v : ℕ) (us : List ℕ) (b : Bool) → (is_high_surrogate u && is_low_surrogate v) ≡ b → u < 65536
    → Back us (utf16_chars us) → Back (v ∷ us) (utf16_chars (v ∷ us)) → Back (u ∷ v ∷ us) (utf16_chars (u ∷ v ∷ us))
back_by u v us true e below far near = subst (Back (u ∷ v ∷ us)) (sym (chars_pair u v us e)) (back_pair u v us (utf16_chars us) e far)
back_by u v us false e below far near = subst (Back (u ∷ v ∷ us)) (sym (chars_lone u v us e)) (back_lone u (v ∷ us) (utf16_chars (v ∷ us)) below near)

back : (us : List ℕ) → AreBelow 65536 us → Back us (utf16_chars us)
back [] s = subst (Back []) (sym chars_none) (λ h. refl)
back (u ∷ []) s = subst (Back (u ∷ [])) (sym (chars_last u)) (back_lone u [] [] s.0 (λ h. refl))
back (u ∷ v ∷ us) s = back_by u v us (is_high_surrogate u && is_low_surrogate v) refl s.0 (back us s.1.1) (back (v ∷ us) s.1)

texts_same : (us vs : List ℕ) → AreBelow 65536 us → AreBelow 65536 vs → has_unpaired_surrogate us ≡ false → has_unpaired_surrogate vs ≡ false
    → encode_utf8_all (utf16_lossy_chars us) ≡ encode_utf8_all (utf16_lossy_chars vs) → us ≡ vs
texts_same us vs s r p q h =
    sym (back us s p) ∙ ap units_for (encoded (utf16_lossy_chars us) (utf16_lossy_chars vs) h) ∙ back vs r q

-- ---- numbers
integer_same : (y z : ℤ) → of_integer y ≡ of_integer z → y ≡ z
integer_same (pos m) (pos n) h = let same : m ≡ n = cc in ap pos same
integer_same (pos m) (negsuc n) h = absurd cc
integer_same (negsuc m) (pos n) h = absurd cc
integer_same (negsuc m) (negsuc n) h = cc

numbers_same : (ys zs : List ℤ) → numbers_data ys ≡ numbers_data zs → ys ≡ zs
numbers_same [] [] h = refl
numbers_same [] (z ∷ zs) h = absurd cc
numbers_same (y ∷ ys) [] h = absurd cc
numbers_same (y ∷ ys) (z ∷ zs) h =
    let first : of_integer y ≡ of_integer z = cc in
    let rest : numbers_data ys ≡ numbers_data zs = cc in
    λ i. integer_same y z first i ∷ numbers_same ys zs rest i

units_same : (us vs : List ℕ) → units_data us ≡ units_data vs → us ≡ vs
units_same [] [] h = refl
units_same [] (v ∷ vs) h = absurd cc
units_same (u ∷ us) [] h = absurd cc
units_same (u ∷ us) (v ∷ vs) h =
    let first : u ≡ v = cc in
    let rest : units_data us ≡ units_data vs = cc in
    λ i. first i ∷ units_same us vs rest i

below_at : (bs : List ℕ) → AreBelow 256 bs → IsBytes bs
below_at [] h i = omega arith
below_at (b ∷ bs) h zero = h.0
below_at (b ∷ bs) h (suc i) = below_at bs h.1 i

ok_same : (a b : List ℕ) (r : Result (List ℕ) FromHexError) → r ≡ Ok a → r ≡ Ok b → a ≡ b
ok_same a b (Ok x) h e = let first : x ≡ a = cc in let second : x ≡ b = cc in sym first ∙ second
ok_same a b (Err x) h e = absurd cc

bytes_same : (bs cs : List ℕ) → AreBelow 256 bs → AreBelow 256 cs → encode_lower bs ≡ encode_lower cs → bs ≡ cs
bytes_same bs cs p q h =
    ok_same bs cs (decode_of (encode_lower bs)) (decode_of-encode_lower bs (below_at bs p))
    (ap decode_of h ∙ decode_of-encode_lower cs (below_at cs q))

-- a number less 2^28 has the number back
wraps_back : (m : ℕ) (z : ℤ) → z ≡ pos m -ℤ pos (2 ^ 28) → z +ℤ pos (2 ^ 28) ≡ pos m
wraps_back m z h = ap (λ (y : ℤ). y +ℤ pos (2 ^ 28)) h ∙ -ℤ-+ℤ_cancel (pos m) (pos (2 ^ 28))

pos_same : (m n : ℕ) → pos m ≡ pos n → m ≡ n
pos_same m n h = cc

signs_apart : (m n : ℕ) → n < 2 ^ 28 → pos m ≡ pos n -ℤ pos (2 ^ 28) → ⊥
signs_apart m n q h =
    let sum : m + 2 ^ 28 ≡ n = pos_same (m + 2 ^ 28) n (wraps_back n (pos m) h) in
    omega (arith, sum, q)

int_by : (m n : ℕ) (a b : Bool) → m < 2 ^ 28 → n < 2 ^ 28
    → cond a (pos m) (pos m -ℤ pos (2 ^ 28)) ≡ cond b (pos n) (pos n -ℤ pos (2 ^ 28)) → m ≡ n
int_by m n true true p q h = pos_same m n h
int_by m n true false p q h = absurd (signs_apart m n q h)
int_by m n false true p q h = absurd (signs_apart n m p (sym h))
int_by m n false false p q h =
    pos_same m n (sym (wraps_back m (pos m -ℤ pos (2 ^ 28)) refl) ∙ wraps_back n (pos m -ℤ pos (2 ^ 28)) h)

int_same : (m n : ℕ) → m < 2 ^ 28 → n < 2 ^ 28 → signed_of m ≡ signed_of n → m ≡ n
int_same m n p q h = int_by m n (nat_lt m (2 ^ 27)) (nat_lt n (2 ^ 27)) p q h

-- ---- keys
ascii_text : (cs : List ℕ) → AreBelow 128 cs → encode_utf8_all cs ≡ cs
ascii_text [] h = refl
ascii_text (c ∷ cs) h = ap (λ (bs : List ℕ). bs ++ encode_utf8_all cs) (encode_ascii c h.0) ∙ ap (λ (bs : List ℕ). c ∷ bs) (ascii_text cs h.1)

abbrev without_colon : List ℕ → List ℕ
without_colon [] = []
without_colon (b ∷ bs) = cond (b == 58) bs (b ∷ bs)

key_step : (b : ℕ) (bs : List ℕ) (t : Bool) → (b == 58) ≡ t → without_colon (cond t (58 ∷ b ∷ bs) (b ∷ bs)) ≡ b ∷ bs
key_step b bs true e = refl
key_step b bs false e = ap (λ (t : Bool). cond t bs (b ∷ bs)) e

key_back : (k : List ℕ) → without_colon (with_colon k) ≡ k
key_back [] = refl
key_back (b ∷ bs) = key_step b bs (b == 58) refl

pub key_same : (k l : List ℕ) → key_text k ≡ key_text l → k ≡ l
key_same k l h = sym (key_back k) ∙ ap without_colon (encoded (with_colon k) (with_colon l) h) ∙ key_back l

-- ---- kinds: what the name of a first member says
abbrev tag_of : List ℕ → ℕ
tag_of [] = 6
tag_of (a ∷ []) = 6
tag_of (a ∷ b ∷ cs) =
    cond (b == 58) 6 (cond (a == 58) (cond (b == 117) 0 (cond (b == 105) 2 (cond (b == 98) 3 (cond (b == 97) 4 6)))) 6)

abbrev shape : Data → ℕ
shape null = 7
shape (boolean b) = 7
shape (number n) = 1
shape (string s) = 0
shape (array ds) = 5
shape (object no_members) = 6
shape (object (member k d ms)) = tag_of k

abbrev kind_number : Resource → ℕ
kind_number (tree.string us) = 0
kind_number (int n) = 1
kind_number (ints zs) = 2
kind_number (binary bs) = 3
kind_number (alias us) = 4
kind_number (tree.array ts) = 5
kind_number (table es) = 6

plain_by : (b c : ℕ) (cs : List ℕ) (t : Bool) → (c == 58) ≡ t → (b == 58) ≡ false → tag_of (b ∷ c ∷ cs) ≡ 6
plain_by b c cs true f e = ap (λ (t : Bool). cond t 6 (cond (b == 58) (cond (c == 117) 0 (cond (c == 105) 2 (cond (c == 98) 3 (cond (c == 97) 4 6)))) 6)) f
plain_by b c cs false f e =
    ap (λ (t : Bool). cond t 6 (cond (b == 58) (cond (c == 117) 0 (cond (c == 105) 2 (cond (c == 98) 3 (cond (c == 97) 4 6)))) 6)) f
    ∙ ap (λ (t : Bool). cond t (cond (c == 117) 0 (cond (c == 105) 2 (cond (c == 98) 3 (cond (c == 97) 4 6)))) 6) e

plain_tag : (b : ℕ) (bs : List ℕ) → (b == 58) ≡ false → tag_of (b ∷ bs) ≡ 6
plain_tag b [] e = refl
plain_tag b (c ∷ cs) e = plain_by b c cs (c == 58) refl e

colon_below : (b : ℕ) (bs : List ℕ) (t : Bool) → AreBelow 128 (b ∷ bs) → AreBelow 128 (cond t (58 ∷ b ∷ bs) (b ∷ bs))
colon_below b bs true h = (omega arith, h)
colon_below b bs false h = h

below_with : (k : List ℕ) → AreBelow 128 k → AreBelow 128 (with_colon k)
below_with [] h = h
below_with (b ∷ bs) h = colon_below b bs (b == 58) h

tag_step : (b : ℕ) (bs : List ℕ) (t : Bool) → (b == 58) ≡ t → tag_of (cond t (58 ∷ b ∷ bs) (b ∷ bs)) ≡ 6
tag_step b bs true e = ap (λ (t : Bool). cond t 6 (cond (b == 117) 0 (cond (b == 105) 2 (cond (b == 98) 3 (cond (b == 97) 4 6))))) e
tag_step b bs false e = plain_tag b bs e

key_tag : (k : List ℕ) → AreBelow 128 k → tag_of (key_text k) ≡ 6
key_tag [] h = refl
key_tag (b ∷ bs) h = ap tag_of (ascii_text (with_colon (b ∷ bs)) (below_with (b ∷ bs) h)) ∙ tag_step b bs (b == 58) refl

string_shape : (b : Bool) (d : Data) (s : List ℕ) → shape (cond b (tagged (codes ":units") d) (cond b d (string s))) ≡ 0
string_shape true d s = refl
string_shape false d s = refl

shape_is : (t : Resource) → IsSound t → shape (value_of t) ≡ kind_number t
shape_is (tree.string us) h = string_shape (has_unpaired_surrogate us) (units_data us) (encode_utf8_all (utf16_lossy_chars us))
shape_is (table (entry_and k t es)) h = key_tag k h.0
shape_is _ h = refl

shapes_same : (t u : Resource) → IsSound t → IsSound u → value_of t ≡ value_of u → kind_number t ≡ kind_number u
shapes_same t u s r h = sym (shape_is t s) ∙ ap shape h ∙ shape_is u r

-- ---- texts
text_by : (us vs : List ℕ) (a b : Bool) → has_unpaired_surrogate us ≡ a → has_unpaired_surrogate vs ≡ b → AreBelow 65536 us → AreBelow 65536 vs
    → cond a (units_data us) (string (encode_utf8_all (utf16_lossy_chars us))) ≡ cond b (units_data vs) (string (encode_utf8_all (utf16_lossy_chars vs)))
    → us ≡ vs
text_by us vs true true p q s r h = units_same us vs h
text_by us vs true false p q s r h = absurd cc
text_by us vs false true p q s r h = absurd cc
text_by us vs false false p q s r h =
    let e : encode_utf8_all (utf16_lossy_chars us) ≡ encode_utf8_all (utf16_lossy_chars vs) = cc in texts_same us vs s r p q e

string_by : (us vs : List ℕ) (a b : Bool) → has_unpaired_surrogate us ≡ a → has_unpaired_surrogate vs ≡ b → AreBelow 65536 us → AreBelow 65536 vs
    → cond a (tagged (codes ":units") (units_data us)) (cond a (units_data us) (string (encode_utf8_all (utf16_lossy_chars us))))
    ≡ cond b (tagged (codes ":units") (units_data vs)) (cond b (units_data vs) (string (encode_utf8_all (utf16_lossy_chars vs))))
    → us ≡ vs
string_by us vs true true p q s r h = let e : units_data us ≡ units_data vs = cc in units_same us vs e
string_by us vs true false p q s r h = absurd cc
string_by us vs false true p q s r h = absurd cc
string_by us vs false false p q s r h =
    let e : encode_utf8_all (utf16_lossy_chars us) ≡ encode_utf8_all (utf16_lossy_chars vs) = cc in texts_same us vs s r p q e

-- ---- trees
mutual
  pub trees_same : (t u : Resource) → IsSound t → IsSound u → value_of t ≡ value_of u → t ≡ u
  trees_same (tree.string us) (tree.string vs) s r h =
      ap tree.string (string_by us vs (has_unpaired_surrogate us) (has_unpaired_surrogate vs) refl refl s r h)
  trees_same (int m) (int n) s r h =
      let e : of_integer (signed_of m) ≡ of_integer (signed_of n) = cc in
      ap int (int_same m n s r (integer_same (signed_of m) (signed_of n) e))
  trees_same (ints ys) (ints zs) s r h = let e : numbers_data ys ≡ numbers_data zs = cc in ap ints (numbers_same ys zs e)
  trees_same (binary bs) (binary cs) s r h = let e : encode_lower bs ≡ encode_lower cs = cc in ap binary (bytes_same bs cs s r e)
  trees_same (alias us) (alias vs) s r h =
      let e : text_or_units us ≡ text_or_units vs = cc in
      ap alias (text_by us vs (has_unpaired_surrogate us) (has_unpaired_surrogate vs) refl refl s r e)
  trees_same (tree.array ts) (tree.array us) s r h = let e : items_value ts ≡ items_value us = cc in ap tree.array (items_same ts us s r e)
  trees_same (table es) (table fs) s r h = let e : members_value es ≡ members_value fs = cc in ap table (members_same es fs s r e)
  trees_same t u s r h = absurd (omega (arith, shapes_same t u s r h))

  items_same : (ts us : Resources) → AreSound ts → AreSound us → items_value ts ≡ items_value us → ts ≡ us
  items_same no_trees no_trees s r h = refl
  items_same no_trees (tree_and u us) s r h = absurd cc
  items_same (tree_and t ts) no_trees s r h = absurd cc
  items_same (tree_and t ts) (tree_and u us) s r h =
      let first : value_of t ≡ value_of u = cc in
      let rest : items_value ts ≡ items_value us = cc in
      λ i. tree_and (trees_same t u s.0 r.0 first i) (items_same ts us s.1 r.1 rest i)

  members_same : (es fs : tree.Members) → EntriesSound es → EntriesSound fs → members_value es ≡ members_value fs → es ≡ fs
  members_same no_entries no_entries s r h = refl
  members_same no_entries (entry_and l u fs) s r h = absurd cc
  members_same (entry_and k t es) no_entries s r h = absurd cc
  members_same (entry_and k t es) (entry_and l u fs) s r h =
      let name : key_text k ≡ key_text l = cc in
      let first : value_of t ≡ value_of u = cc in
      let rest : members_value es ≡ members_value fs = cc in
      λ i. entry_and (key_same k l name i) (trees_same t u s.1 r.1 first i) (members_same es fs s.2 r.2 rest i)
