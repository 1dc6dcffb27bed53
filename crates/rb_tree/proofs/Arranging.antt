-- Proves that pairs sorted by key make their table.
use Rattle.std.proofs.Common.{◌≡◌, ◌≢◌, ℕ, zero, suc, ◌+◌, ◌-◌, ◌<◌, ◌≤◌, List, [], ◌∷◌, ◌++◌, length, get_or, map, All, nat_eq, Some, None, Option, Bool, true, false, refl, ap, sym, ◌∙◌}
use Rattle.std.proofs.Common.{subst, arith, inl, inr, ◌⊎◌}
use Rattle.std.proofs.Math.Nat.{eq-or-lt_of_le}
use Rattle.std.proofs.lemmas.Cmp.{nat_list_cmp_total}
use Rattle.std.proofs.lemmas.List.{length-map, length_push, get_or_push, get_or_append_left, get_or-map, get_or_default, map-append, get_or-set_other}
use Rattle.std.proofs.Math.ListN.{set, length-set}
use Rattle.std.proofs.lemmas.Bool.{cases_order}
use Rattle.std.proofs.lemmas.Slice.Eq.{bytes_eq-Decides}
use Rattle.std.specs.BTreeMap.{is_at}
use Rattle.std.proofs.lemmas.List.Sorted.{All-permutation, Contains-permutation, length_permutation}
use Rattle.std.proofs.lemmas.Map.Keys.{sorted_from_all_adjacent}
use Rattle.std.specs.List.Sorted.{IsPermutation, IsStrictlySortedBy}
use Rattle.std.specs.Ordering.{nat_cmp}
use Rattle.std.specs.Cmp.Lexicographic.{slice_cmp, pointwise}
use Rattle.std.specs.declared.cmp.Ordering.TheVariants.{Less}
use Rattle.std.specs.Map.{lookup}
use Rattle.rb_tree.specs.Keys.{IsKey, IsTable, pairs}
use Rattle.rb_tree.specs.Table.{keys_in, seen_pairs, NoRepeat}
use Rattle.rb_tree.specs.View.{entries_of}
use Rattle.rb_tree.specs.inner.Arranged.{AreNumbered, Rise, IsOrder, AreArranged, pair_of}
use Rattle.rb_tree.specs.declared.arrange.Numbered.{Numbered}
use Rattle.rb_tree.specs.declared.tree.Tree.{Tree}
use Rattle.rb_tree.specs.declared.tree.Tree.TheVariants.{Int}
use Rattle.rb_tree.specs.declared.tree.Entry.{Entry}
use Rattle.rb_tree.proofs.Tables.{at_key, found, missing, key_same}
use Rattle.rb_tree.proofs.Filled.{lookup_at, no_repeat, table_of_map, children_of_map}

-- ---- keys with their indices

pub number_more : (ks : List (List ℕ)) (ns new : List Numbered) (n : Numbered) (i : ℕ) → length ns ≡ i
    → ((k : ℕ) (d : Numbered) → k < length ns → ((get_or ns k d).key.now ≡ get_or ks k []) × ((get_or ns k d).index ≡ k))
    → new ≡ ns ++ n ∷ [] → n.key.now ≡ get_or ks i [] → n.index ≡ i
    → (k : ℕ) (d : Numbered) → k < length new → ((get_or new k d).key.now ≡ get_or ks k []) × ((get_or new k d).index ≡ k)
number_more ks ns new n i len each is key index k d h =
    let in_range : k < length (ns ++ n ∷ []) = omega (arith, ap length is) in
    let both : ((get_or (ns ++ n ∷ []) k d).key.now ≡ get_or ks k []) × ((get_or (ns ++ n ∷ []) k d).index ≡ k) =
    by (eq-or-lt_of_le (let z : k ≤ length ns = omega (arith, length_push ns n) in z)) in
    subst (λ (l : List Numbered). ((get_or l k d).key.now ≡ get_or ks k []) × ((get_or l k d).index ≡ k)) (sym is) both
  where
    by : (k ≡ length ns) ⊎ (k < length ns) → ((get_or (ns ++ n ∷ []) k d).key.now ≡ get_or ks k []) × ((get_or (ns ++ n ∷ []) k d).index ≡ k)
    by (inl e) =
        let at : get_or (ns ++ n ∷ []) k d ≡ n = get_or_push ns n d k (sym e) in
        let here : k ≡ i = e ∙ len in
        (ap (λ (x : Numbered). x.key.now) at ∙ key ∙ ap (λ j. get_or ks j []) (sym here), ap (λ (x : Numbered). x.index) at ∙ index ∙ sym here)
    by (inr l) =
        let at : get_or (ns ++ n ∷ []) k d ≡ get_or ns k d = get_or_append_left ns (n ∷ []) d k l in
        let old = each k d l in
        (ap (λ (x : Numbered). x.key.now) at ∙ old.0, ap (λ (x : Numbered). x.index) at ∙ old.1)

pub rise_more : (ns : List Numbered) (i : ℕ) (e : Numbered)
    → ((k : ℕ) (d : Numbered) → suc k < i → slice_cmp nat_cmp (get_or ns k d).key.now (get_or ns (suc k) d).key.now ≡ Less)
    → 1 ≤ i → i < length ns → slice_cmp nat_cmp (get_or ns (i - 1) e).key.now (get_or ns i e).key.now ≡ Less
    → (k : ℕ) (d : Numbered) → suc k < i + 1 → slice_cmp nat_cmp (get_or ns k d).key.now (get_or ns (suc k) d).key.now ≡ Less
rise_more ns i e old some h less k d l = by (eq-or-lt_of_le (let z : suc k ≤ i = omega arith in z))
  where
    by : (suc k ≡ i) ⊎ (suc k < i) → slice_cmp nat_cmp (get_or ns k d).key.now (get_or ns (suc k) d).key.now ≡ Less
    by (inl s) =
        let before : k ≡ i - 1 = omega (arith, s) in
        let first : get_or ns k d ≡ get_or ns (i - 1) e = ap (λ j. get_or ns j d) before ∙ get_or_default ns (i - 1) d e (omega arith) in
        let second : get_or ns (suc k) d ≡ get_or ns i e = ap (λ j. get_or ns j d) s ∙ get_or_default ns i d e h in
        ap (λ (x : Numbered). slice_cmp nat_cmp x.key.now (get_or ns (suc k) d).key.now) first
        ∙ ap (λ (x : Numbered). slice_cmp nat_cmp (get_or ns (i - 1) e).key.now x.key.now) second ∙ less
    by (inr low) = old k d low

-- ---- the order of keys

abbrev Fits : List (List ℕ) → Numbered → Type 0
Fits ks n = (n.index < length ks) × (n.key.now ≡ get_or ks n.index [])

indices_within : (ks : List (List ℕ)) (ns : List Numbered) → All (Fits ks) ns → (k : ℕ) → k < length ns
    → get_or (map (λ (n : Numbered). n.index) ns) k 0 < length ks
indices_within ks [] a k h = absurd (omega arith)
indices_within ks (n ∷ ns) a zero h = (a 0 n (omega arith)).0
indices_within ks (n ∷ ns) a (suc k) h = indices_within ks ns (λ i d l. a (suc i) d (omega arith)) k (omega arith)

indices_rise : (ks : List (List ℕ)) (ns : List Numbered) → All (Fits ks) ns → Rise ns → (k : ℕ) → suc k < length ns
    → slice_cmp nat_cmp (get_or ks (get_or (map (λ (n : Numbered). n.index) ns) k 0) []) (get_or ks (get_or (map (λ (n : Numbered). n.index) ns) (suc k) 0) []) ≡ Less
indices_rise ks [] a r k h = absurd (omega arith)
indices_rise ks (n ∷ []) a r k h = absurd (omega arith)
indices_rise ks (n ∷ m ∷ ns) a r zero h =
    let x = (a 0 n (omega arith)).1 in
    let y = (a 1 n (omega arith)).1 in
    ap (λ (l : List ℕ). slice_cmp nat_cmp l (get_or ks m.index [])) (sym x) ∙ ap (slice_cmp nat_cmp n.key.now) (sym y) ∙ r 0 n (omega arith)
indices_rise ks (n ∷ m ∷ ns) a r (suc k) h =
    indices_rise ks (m ∷ ns) (λ i d l. a (suc i) d (omega arith)) (λ i d l. r (suc i) d (omega arith)) k (omega arith)

element : (ns : List Numbered) (i : ℕ) → i < length ns → (n : Numbered) × (get_or ns i n ≡ n)
element [] i h = absurd (omega arith)
element (n ∷ ns) zero h = (n, refl)
element (n ∷ ns) (suc i) h = element ns i (omega arith)

pub order_is : (ks : List (List ℕ)) (ns ys : List Numbered) (order : List ℕ) → AreNumbered ks ns → IsPermutation ns ys → Rise ys
    → order ≡ map (λ (n : Numbered). n.index) ys → IsOrder ks order
order_is ks ns ys order numbered moved r is = rw is (record {
  same_length = len ∙ length_permutation ns ys moved ∙ numbered.same_length;
  within = λ k h. indices_within ks ys fits k (omega (arith, len));
  onto = λ i h.
      let n = element ns i (omega (arith, numbered.same_length)) in
      let at : (j : ℕ) × (j < length ys) × (get_or ys j n.0 ≡ n.0) =
      Contains-permutation ns ys n.0 moved (i, omega (arith, numbered.same_length), n.1) in
      let index : n.0.index ≡ i = ap (λ (x : Numbered). x.index) (sym n.1) ∙ (numbered.each i n.0 (omega (arith, numbered.same_length))).1 in
      (at.0, omega (arith, len, at.1), get_or-map (λ (x : Numbered). x.index) ys at.0 n.0 0 at.1 ∙ ap (λ (x : Numbered). x.index) at.2 ∙ index);
  rise = λ k h. indices_rise ks ys fits r k (omega (arith, len));
})
  where
    len : length (map (λ (n : Numbered). n.index) ys) ≡ length ys
    len = length-map ys (λ (n : Numbered). n.index)

    each_fits : All (Fits ks) ns
    each_fits i d h =
        let e = numbered.each i d h in
        (omega (arith, e.1, numbered.same_length), e.0 ∙ ap (λ j. get_or ks j []) (sym e.1))

    fits : All (Fits ks) ys
    fits = All-permutation (Fits ks) ns ys moved each_fits

-- an order has no index twice
in_order_of : List (List ℕ) → List ℕ → List (List ℕ)
in_order_of ks order = map (λ i. get_or ks i []) order

in_order_at : (ks : List (List ℕ)) (order : List ℕ) (k : ℕ) → k < length order → get_or (in_order_of ks order) k [] ≡ get_or ks (get_or order k 0) []
unfolding in_order_of
in_order_at ks order k h = get_or-map (λ i. get_or ks i []) order k 0 [] h

in_order_len : (ks : List (List ℕ)) (order : List ℕ) → length (in_order_of ks order) ≡ length order
unfolding in_order_of
in_order_len ks order = length-map order (λ i. get_or ks i [])

in_order_rises : (ks : List (List ℕ)) (order : List ℕ) → IsOrder ks order → IsStrictlySortedBy (slice_cmp nat_cmp) (in_order_of ks order)
in_order_rises ks order o = sorted_from_all_adjacent nat_list_cmp_total (in_order_of ks order) [] (λ k h.
    let up : k + 1 ≡ suc k = omega arith in
    let low : suc k < length order = omega (arith, in_order_len ks order) in
    ap (λ (l : List ℕ). slice_cmp nat_cmp l (get_or (in_order_of ks order) (k + 1) [])) (in_order_at ks order k (omega arith))
    ∙ ap (slice_cmp nat_cmp (get_or ks (get_or order k 0) []))
    (ap (λ j. get_or (in_order_of ks order) j []) up ∙ in_order_at ks order (suc k) low) ∙ o.rise k low)

pub order_apart : (ks : List (List ℕ)) (order : List ℕ) → IsOrder ks order → (a b : ℕ) → a < b → b < length order → get_or order a 0 ≢ get_or order b 0
order_apart ks order o a b l h = λ e.
    no_repeat (in_order_of ks order) (in_order_rises ks order o) a b l (omega (arith, in_order_len ks order))
    (in_order_at ks order a (omega arith) ∙ ap (λ i. get_or ks i []) e ∙ sym (in_order_at ks order b h))

-- ---- pairs that are taken by their indices

-- what was taken of them, and what is left of them
pub record Taken (ps : List (List ℕ × Tree)) (order : List ℕ) (now : List (List ℕ × Tree)) (es : List Entry) (i : ℕ) : Type 0 where
  pub same_length : length now ≡ length ps
  pub count : length es ≡ i
  pub done : (k : ℕ) (d : List ℕ × Tree) → k < i → get_or (map pair_of es) k d ≡ get_or ps (get_or order k 0) d
  pub left : (k : ℕ) (d : List ℕ × Tree) → i ≤ k → k < length order → get_or now (get_or order k 0) d ≡ get_or ps (get_or order k 0) d

pub taken_more : (ps now next : List (List ℕ × Tree)) (order : List ℕ) (es new : List Entry) (i : ℕ) (x y : List ℕ × Tree) → IsOrder (keys_in ps) order
    → Taken ps order now es i → i < length order → x ≡ get_or now (get_or order i 0) x → next ≡ set now (get_or order i 0) y
    → new ≡ es ++ record { key = x.0; tree = x.1 } ∷ [] → Taken ps order next new (i + 1)
taken_more ps now next order es new i x y o t h at is new_is = rw (is, new_is) (record {
  same_length = length-set now (get_or order i 0) y ∙ t.same_length;
  count = omega (arith, length_push es e, t.count);
  done = λ k d l. by_done k d (eq-or-lt_of_le (let z : k ≤ i = omega arith in z));
  left = λ k d l g.
      get_or-set_other now (get_or order i 0) (get_or order k 0) y d (λ s. order_apart (keys_in ps) order o i k (omega arith) g (sym s))
      ∙ t.left k d (omega arith) g;
})
  where
    e : Entry
    e = record { key = x.0; tree = x.1 }

    pushed : map pair_of (es ++ record { key = x.0; tree = x.1 } ∷ []) ≡ map pair_of es ++ x ∷ []
    pushed = map-append pair_of es (record { key = x.0; tree = x.1 } ∷ [])

    low : get_or order i 0 < length now
    low = omega (arith, o.within i h, t.same_length, length-map ps (λ (p : List ℕ × Tree). p.0))

    by_done : (k : ℕ) (d : List ℕ × Tree) → (k ≡ i) ⊎ (k < i)
        → get_or (map pair_of (es ++ record { key = x.0; tree = x.1 } ∷ [])) k d ≡ get_or ps (get_or order k 0) d
    by_done k d (inl s) =
        ap (λ (l : List (List ℕ × Tree)). get_or l k d) pushed
        ∙ get_or_push (map pair_of es) x d k (omega (arith, length-map es pair_of, t.count, s))
        ∙ at ∙ get_or_default now (get_or order i 0) x d low ∙ t.left i d (omega arith) h ∙ ap (λ j. get_or ps (get_or order j 0) d) (sym s)
    by_done k d (inr l) =
        ap (λ (l : List (List ℕ × Tree)). get_or l k d) pushed
        ∙ get_or_append_left (map pair_of es) (x ∷ []) d k (omega (arith, length-map es pair_of, t.count)) ∙ t.done k d l

-- ---- the table

-- a pair whose key is there once is found
not_same : (q k : List ℕ) → q ≢ k → pointwise nat_eq q k ≡ false
not_same q k other = by (pointwise nat_eq q k) refl
  where
    by : (b : Bool) → pointwise nat_eq q k ≡ b → pointwise nat_eq q k ≡ false
    by true e = absurd (other ((bytes_eq-Decides q k).0 e))
    by false e = e

at_index : (xs : List (List ℕ × Tree)) (i : ℕ) (d : List ℕ × Tree) → NoRepeat (keys_in xs) → i < length xs
    → at_key (get_or xs i d).0 xs ≡ Some (get_or xs i d).1
at_index [] i d apart h = absurd (omega arith)
at_index (x ∷ xs) zero d apart h = rw (key_same x.0 x.0 refl) refl
at_index (x ∷ xs) (suc i) d apart h =
    let key : get_or (keys_in xs) i [] ≡ (get_or xs i d).0 = get_or-map (λ (y : List ℕ × Tree). y.0) xs i d [] (omega arith) in
    let differ : (get_or xs i d).0 ≢ x.0 = λ e. apart 0 (suc i) (omega arith) (omega (arith, length-map xs (λ (y : List ℕ × Tree). y.0))) (sym e ∙ sym key) in
    rw (not_same (get_or xs i d).0 x.0 differ) (at_index xs i d (λ a b l g. apart (suc a) (suc b) (omega arith) (omega arith)) (omega arith))

module _ (ps : List (List ℕ × Tree)) (order : List ℕ) (es : List Entry) (o : IsOrder (keys_in ps) order) (r : AreArranged ps order es) where
  keys_len : length (keys_in ps) ≡ length ps
  keys_len = length-map ps (λ x. x.0)

  made_len : length (keys_in (map pair_of es)) ≡ length order
  made_len = length-map (map pair_of es) (λ x. x.0) ∙ length-map es pair_of ∙ r.same_length

  key_of : (k : ℕ) → k < length order → get_or (keys_in (map pair_of es)) k [] ≡ get_or (keys_in ps) (get_or order k 0) []
  key_of k h =
      get_or-map (λ (x : List ℕ × Tree). x.0) (map pair_of es) k ([], Int 0) [] (omega (arith, length-map es pair_of, r.same_length))
      ∙ ap (λ (x : List ℕ × Tree). x.0) (r.each k ([], Int 0) h)
      ∙ sym (get_or-map (λ (x : List ℕ × Tree). x.0) ps (get_or order k 0) ([], Int 0) [] (omega (arith, o.within k h, keys_len)))

  sorted : IsStrictlySortedBy (slice_cmp nat_cmp) (keys_in (map pair_of es))
  sorted = sorted_from_all_adjacent nat_list_cmp_total (keys_in (map pair_of es)) [] (λ k h.
      let up : k + 1 ≡ suc k = omega arith in
      let low : suc k < length order = omega (arith, made_len) in
      ap (λ (l : List ℕ). slice_cmp nat_cmp l (get_or (keys_in (map pair_of es)) (k + 1) [])) (key_of k (omega arith))
      ∙ ap (slice_cmp nat_cmp (get_or (keys_in ps) (get_or order k 0) [])) (ap (λ j. get_or (keys_in (map pair_of es)) j []) up ∙ key_of (suc k) low)
      ∙ o.rise k low)

  apart : NoRepeat (keys_in (map pair_of es))
  apart = no_repeat (keys_in (map pair_of es)) sorted

  pub apart_pairs : NoRepeat (keys_in ps)
  apart_pairs i j l h = λ e.
      let a = o.onto i (omega arith) in
      let b = o.onto j h in
      let same : get_or (keys_in (map pair_of es)) a.0 [] ≡ get_or (keys_in (map pair_of es)) b.0 [] =
      key_of a.0 a.1 ∙ ap (λ k. get_or (keys_in ps) k []) a.2 ∙ e ∙ sym (key_of b.0 b.1 ∙ ap (λ k. get_or (keys_in ps) k []) b.2) in
      by a.0 b.0 a.1 b.1 a.2 b.2 same (cases_order a.0 b.0)
    where
      by : (m n : ℕ) → m < length order → n < length order → get_or order m 0 ≡ i → get_or order n 0 ≡ j
          → get_or (keys_in (map pair_of es)) m [] ≡ get_or (keys_in (map pair_of es)) n [] → (m ≡ n) ⊎ ((m < n) ⊎ (n < m)) → ⊥
      by m n p q at_i at_j same (inl x) = let z : i ≡ j = sym at_i ∙ ap (λ k. get_or order k 0) x ∙ at_j in omega (arith, z)
      by m n p q at_i at_j same (inr (inl x)) = apart m n x (omega (arith, made_len)) same
      by m n p q at_i at_j same (inr (inr x)) = apart n m x (omega (arith, made_len)) (sym same)

  pair_at : (k : ℕ) → k < length order → (i : ℕ) → get_or order k 0 ≡ i → get_or (map pair_of es) k ([], Int 0) ≡ get_or ps i ([], Int 0)
  pair_at k h i e = r.each k ([], Int 0) h ∙ ap (λ j. get_or ps j ([], Int 0)) e

  same_at : (q : List ℕ) → at_key q (map pair_of es) ≡ at_key q ps
  same_at q = by (at_key q ps) refl
    where
      none_made : at_key q ps ≡ None → (o : Option Tree) → at_key q (map pair_of es) ≡ o → at_key q (map pair_of es) ≡ None
      none_made absent None is = is
      none_made absent (Some t) is =
          let k = found q (map pair_of es) t is in
          let low : k.0 < length order = omega (arith, k.1, length-map es pair_of, r.same_length) in
          absurd (missing q ps absent (get_or order k.0 0) (omega (arith, o.within k.0 low, keys_len)) (sym (key_of k.0 low) ∙ k.2))

      by : (o : Option Tree) → at_key q ps ≡ o → at_key q (map pair_of es) ≡ at_key q ps
      by None is = none_made is (at_key q (map pair_of es)) refl ∙ sym is
      by (Some t) is =
          let j = found q ps t is in
          let k = o.onto j.0 (omega (arith, j.1, keys_len)) in
          let key : (get_or ps j.0 ([], Int 0)).0 ≡ q = sym (get_or-map (λ (x : List ℕ × Tree). x.0) ps j.0 ([], Int 0) [] j.1) ∙ j.2 in
          let same : get_or (map pair_of es) k.0 ([], Int 0) ≡ get_or ps j.0 ([], Int 0) = pair_at k.0 k.1 j.0 k.2 in
          let here = at_index ps j.0 ([], Int 0) apart_pairs j.1 in
          let there = at_index (map pair_of es) k.0 ([], Int 0) apart (omega (arith, k.1, length-map es pair_of, r.same_length)) in
          subst (λ (l : List ℕ). at_key l (map pair_of es) ≡ at_key l ps) key
          (subst (λ (x : List ℕ × Tree). at_key x.0 (map pair_of es) ≡ Some x.1) same there ∙ sym here)

  at_both : (q : List ℕ) → lookup (is_at (slice_cmp nat_cmp q)) (map pair_of es) ≡ at_key q ps
  at_both q = lookup_at q (map pair_of es) ∙ same_at q

  pub arranged_table : All IsKey (keys_in ps) → IsTable (entries_of es)
  arranged_table ok = table_of_map es (map pair_of es) ps refl sorted at_both ok

  pub arranged_same : (q : List ℕ) → lookup (pointwise nat_eq q) (pairs (entries_of es)) ≡ lookup (pointwise nat_eq q) (seen_pairs ps)
  arranged_same = children_of_map es (map pair_of es) ps refl at_both
