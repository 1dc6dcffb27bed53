-- The keys of a tree, gathered.
use Rattle.std.proofs.Common.{◌≡◌, ℕ, zero, suc, ◌+◌, ◌<◌, ◌≤◌, List, [], ◌∷◌, ◌++◌, length, drop, map, Some, refl, ap, arith, Bor, inl, inr, ◌⊎◌, subst, sym, ◌∙◌}
use Rattle.std.proofs.lemmas.Bool.{cases_eq}
use Rattle.std.proofs.lemmas.List.{map-append}
use Rattle.std.specs.Prelude.{slice_get, All, Contains}
use Rattle.std.proofs.lemmas.List.Elements.{Contains-append_left, Contains-append_right, Contains-append_cases}
use Rattle.rb_writer.specs.KeyList.{all_keys, entries_keys}
use Rattle.std.specs.Map.{keys_of, values_of}
use Rattle.rb_tree.specs.Resource.{Resource, string, int, ints, binary, alias, array, table, Resources}
use Rattle.rb_tree.specs.Resource.{no_trees, tree_and, Members, no_entries, entry_and, weight, trees_weight, entries_weight}
use Rattle.rb_tree.specs.Keys.{items, pairs, IsKey}
use Rattle.rb_tree.specs.View.{view_of}
use Rattle.rb_tree.specs.declared.tree.Tree.{Tree}
use Rattle.rb_tree.specs.declared.tree.Tree.TheVariants as trees
use Rattle.rb_writer.specs.KeyList as listed
use Rattle.rb_writer.specs.inner.Most.{keys_most, trees_keys, members_keys, data_most, trees_most, members_most}
use Rattle.rb_writer.specs.inner.Places.{EachKey, EachKeyIn, EachKeyOf}
use Rattle.rb_writer.specs.inner.Collected.{keys_size, size_of, Has, Gains, Gathers}

-- data and keys together take no more than the weight
mutual
  pub most_weight : (t : Resource) → data_most t + keys_most t ≤ weight t
  most_weight (string us) = omega arith
  most_weight (int n) = omega arith
  most_weight (ints zs) = omega arith
  most_weight (binary bs) = omega arith
  most_weight (alias us) = omega arith
  most_weight (array ts) = omega (arith, trees_weight_most ts)
  most_weight (table es) = omega (arith, members_weight_most es)

  trees_weight_most : (ts : Resources) → trees_most ts + trees_keys ts ≤ trees_weight ts
  trees_weight_most no_trees = omega arith
  trees_weight_most (tree_and t ts) = omega (arith, most_weight t, trees_weight_most ts)

  pub members_weight_most : (es : Members) → members_most es + members_keys es ≤ entries_weight es
  members_weight_most no_entries = omega arith
  members_weight_most (entry_and k t es) = omega (arith, most_weight t, members_weight_most es)

-- a table leaves four bytes for the padding after the keys
pub table_weight : (es : Members) → data_most (table es) + keys_most (table es) + 4 ≤ weight (table es)
table_weight es = omega (arith, members_weight_most es)

-- what a key takes
size_append : (xs ys : List (List ℕ)) → keys_size (xs ++ ys) ≡ keys_size xs + keys_size ys
size_append [] ys = omega arith
size_append (x ∷ xs) ys = omega (arith, size_append xs ys)

pub size_push : (old : List (Bor (List ℕ))) (r : Bor (List ℕ)) → size_of (old ++ r ∷ []) ≡ size_of old + (1 + length r.now)
size_push old r = ap keys_size (map-append (λ (q : Bor (List ℕ)). q.now) old (r ∷ [])) ∙ size_append (map (λ q. q.now) old) (r.now ∷ []) ∙ omega arith

key_size : (ks : List (List ℕ)) (i : ℕ) (k : List ℕ) → Some k ≡ slice_get ks i → keys_size (drop i ks) ≡ 1 + length k + keys_size (drop (suc i) ks)
key_size [] i k e = cc
key_size (q ∷ ks) zero k e = let s : q ≡ k = cc in ap (λ (x : List ℕ). 1 + length x + keys_size ks) s
key_size (q ∷ ks) (suc i) k e = key_size ks i k e

-- what each key of a tree has, each still has
mutual
  pub each_still : (P Q : List ℕ → Type 0) → ((k : List ℕ) → P k → Q k) → (t : Resource) → EachKey P t → EachKey Q t
  each_still P Q f (array ts) h = in_still P Q f ts h
  each_still P Q f (table es) h = of_still P Q f es h
  each_still P Q f _ h = tt

  in_still : (P Q : List ℕ → Type 0) → ((k : List ℕ) → P k → Q k) → (ts : Resources) → EachKeyIn P ts → EachKeyIn Q ts
  in_still P Q f no_trees h = tt
  in_still P Q f (tree_and t ts) h = (each_still P Q f t h.0, in_still P Q f ts h.1)

  of_still : (P Q : List ℕ → Type 0) → ((k : List ℕ) → P k → Q k) → (es : Members) → EachKeyOf P es → EachKeyOf Q es
  of_still P Q f no_entries h = tt
  of_still P Q f (entry_and k t es) h = (f k h.0, each_still P Q f t h.1, of_still P Q f es h.2)

-- what the keys of trees take
abbrev pub trees_size : List Resource → ℕ
trees_size [] = 0
trees_size (t ∷ ts) = keys_most t + trees_size ts

trees_turn : (ts : List Resource) (i : ℕ) (u : Resource) → Some u ≡ slice_get ts i → trees_size (drop i ts) ≡ keys_most u + trees_size (drop (suc i) ts)
trees_turn [] i u e = cc
trees_turn (t ∷ ts) zero u e = let s : t ≡ u = cc in ap (λ (v : Resource). keys_most v + trees_size ts) s
trees_turn (t ∷ ts) (suc i) u e = trees_turn ts i u e

items_size : (ts : Resources) → trees_size (items ts) ≡ trees_keys ts
items_size no_trees = refl
items_size (tree_and t ts) = ap (λ n. keys_most t + n) (items_size ts)

pairs_size : (es : Members) → trees_size (values_of (pairs es)) + keys_size (keys_of (pairs es)) ≡ members_keys es
pairs_size no_entries = refl
pairs_size (entry_and k t es) = omega (arith, pairs_size es)

-- ---- the loops that gather

-- a key of one of these trees
abbrev pub IsOfOne : List Resource → List ℕ → Type 0
IsOfOne ts q = (j : ℕ) × (u : Resource) × (Some u ≡ slice_get ts j) × Contains (all_keys u) q

-- the keys of the first i of these trees were added
pub record Values (old cur : List (Bor (List ℕ))) (ts : List Resource) (i : ℕ) : Type 0 where
  pub covered : (j : ℕ) (u : Resource) → j < i → Some u ≡ slice_get ts j → EachKey (λ k. Has cur k) u
  pub stay : (q : List ℕ) → Has old q → Has cur q
  pub little : size_of cur + trees_size (drop i ts) ≤ size_of old + trees_size ts
  pub is_key : All (λ r. IsKey r.now) old → All (λ r. IsKey r.now) cur
  pub only : (q : List ℕ) → Has cur q → Has old q ⊎ IsOfOne ts q

-- the keys of a table's values were added, and its first j own keys
pub record Owned (old cur : List (Bor (List ℕ))) (es : Members) (j : ℕ) : Type 0 where
  pub values : (i : ℕ) (u : Resource) → Some u ≡ slice_get (values_of (pairs es)) i → EachKey (λ k. Has cur k) u
  pub keys : (i : ℕ) (k : List ℕ) → i < j → Some k ≡ slice_get (keys_of (pairs es)) i → Has cur k
  pub stay : (q : List ℕ) → Has old q → Has cur q
  pub little : size_of cur + keys_size (drop j (keys_of (pairs es))) ≤ size_of old + members_keys es
  pub is_key : All (λ r. IsKey r.now) old → All (λ r. IsKey r.now) cur
  pub only : (q : List ℕ) → Has cur q → Has old q ⊎ Contains (entries_keys es) q

pub values_more : (old cur new : List (Bor (List ℕ))) (ts : List Resource) (i : ℕ) (u : Resource) → Values old cur ts i → Some u ≡ slice_get ts i
    → Gathers u cur new → Values old new ts (i + 1)
values_more old cur new ts i u v e g =
    let up : i + 1 ≡ suc i = omega arith in
    let a = v.little in let b = g.little in
    record {
      covered = λ j w h f. elim (cases_eq j i) [
        | inl same ↦
            let some : Some w ≡ Some u = f ∙ ap (slice_get ts) same ∙ sym e in
            let is : w ≡ u = cc in
            subst (EachKey (λ k. Has new k)) (sym is) g.covered
        | inr other ↦ each_still (λ k. Has cur k) (λ k. Has new k) g.stay w (v.covered j w (omega arith) f)
      ];
      stay = λ q h. g.stay q (v.stay q h);
      little = rw up (omega (arith, trees_turn ts i u e));
      is_key = λ h. g.is_key (v.is_key h);
      only = λ q h. elim (g.only q h) [
        | inl before ↦ v.only q before
        | inr now ↦ inr (i, u, e, now)
      ];
    }

-- keys of parts are keys of the whole
item_keys : (ts : Resources) (j : ℕ) (u : Resource) (q : List ℕ) → Some u ≡ slice_get (items ts) j → Contains (all_keys u) q → Contains (listed.trees_keys ts) q
item_keys no_trees j u q e h = cc
item_keys (tree_and t ts) zero u q e h = let s : u ≡ t = cc in
    Contains-append_left (all_keys t) (listed.trees_keys ts) q (subst (λ (v : Resource). Contains (all_keys v) q) s h)
item_keys (tree_and t ts) (suc j) u q e h = Contains-append_right (all_keys t) (listed.trees_keys ts) q (item_keys ts j u q e h)

value_keys : (es : Members) (j : ℕ) (u : Resource) (q : List ℕ) → Some u ≡ slice_get (values_of (pairs es)) j → Contains (all_keys u) q
    → Contains (entries_keys es) q
value_keys no_entries j u q e h = cc
value_keys (entry_and k t es) zero u q e h = let s : u ≡ t = cc in
    Contains-append_right (k ∷ []) (all_keys t ++ entries_keys es) q
    (Contains-append_left (all_keys t) (entries_keys es) q (subst (λ (v : Resource). Contains (all_keys v) q) s h))
value_keys (entry_and k t es) (suc j) u q e h =
    Contains-append_right (k ∷ []) (all_keys t ++ entries_keys es) q (Contains-append_right (all_keys t) (entries_keys es) q (value_keys es j u q e h))

own_key : (es : Members) (j : ℕ) (k : List ℕ) → Some k ≡ slice_get (keys_of (pairs es)) j → Contains (entries_keys es) k
own_key no_entries j k e = cc
own_key (entry_and q t es) zero k e = let s : k ≡ q = cc in
    Contains-append_left (q ∷ []) (all_keys t ++ entries_keys es) k (subst (Contains (q ∷ [])) (sym s) (0, omega arith, refl))
own_key (entry_and q t es) (suc j) k e =
    Contains-append_right (q ∷ []) (all_keys t ++ entries_keys es) k (Contains-append_right (all_keys t) (entries_keys es) k (own_key es j k e))

only_one : (k q : List ℕ) → Contains (k ∷ []) q → k ≡ q
only_one k q (zero, h, e) = e
only_one k q (suc i, h, e) = absurd (omega arith)

-- each key of a tree has what each has
mutual
  pub each_has : (P : List ℕ → Type 0) (t : Resource) (q : List ℕ) → EachKey P t → Contains (all_keys t) q → P q
  each_has P (array ts) q h c = in_has P ts q h c
  each_has P (table es) q h c = of_has P es q h c
  each_has P _ q h c = let low = c.1 in absurd (omega arith)

  in_has : (P : List ℕ → Type 0) (ts : Resources) (q : List ℕ) → EachKeyIn P ts → Contains (listed.trees_keys ts) q → P q
  in_has P no_trees q h c = let low = c.1 in absurd (omega arith)
  in_has P (tree_and t ts) q h c = elim (Contains-append_cases (all_keys t) (listed.trees_keys ts) q c) [
    | inl own ↦ each_has P t q h.0 own
    | inr rest ↦ in_has P ts q h.1 rest
  ]

  of_has : (P : List ℕ → Type 0) (es : Members) (q : List ℕ) → EachKeyOf P es → Contains (entries_keys es) q → P q
  of_has P no_entries q h c = let low = c.1 in absurd (omega arith)
  of_has P (entry_and k t es) q h c = elim (Contains-append_cases (k ∷ []) (all_keys t ++ entries_keys es) q c) [
    | inl own ↦ subst P (only_one k q own) h.0
    | inr rest ↦ elim (Contains-append_cases (all_keys t) (entries_keys es) q rest) [
      | inl value ↦ each_has P t q h.1 value
      | inr others ↦ of_has P es q h.2 others
    ]
  ]

tree_low : (ts : List Resource) (i : ℕ) (u : Resource) → Some u ≡ slice_get ts i → i < length ts
tree_low [] i u e = cc
tree_low (t ∷ ts) zero u e = omega arith
tree_low (t ∷ ts) (suc i) u e = omega (arith, tree_low ts i u e)

value_low : (ps : List (List ℕ × Resource)) (i : ℕ) (u : Resource) → Some u ≡ slice_get (values_of ps) i → i < length ps
value_low [] i u e = cc
value_low (p ∷ ps) zero u e = omega arith
value_low (p ∷ ps) (suc i) u e = omega (arith, value_low ps i u e)

key_low : (ps : List (List ℕ × Resource)) (i : ℕ) (k : List ℕ) → Some k ≡ slice_get (keys_of ps) i → i < length ps
key_low [] i k e = cc
key_low (p ∷ ps) zero k e = omega arith
key_low (p ∷ ps) (suc i) k e = omega (arith, key_low ps i k e)

pub owned_none : (old cur : List (Bor (List ℕ))) (es : Members) (n : ℕ) → Values old cur (values_of (pairs es)) n → length (pairs es) ≤ n
    → Owned old cur es 0
owned_none old cur es n v h =
    let a = v.little in
    record {
      values = λ i u e. v.covered i u (omega (arith, value_low (pairs es) i u e)) e;
      keys = λ i k g e. absurd (omega arith);
      stay = v.stay;
      little = omega (arith, pairs_size es);
      is_key = v.is_key;
      only = λ q g. elim (v.only q g) [
        | inl before ↦ inl before
        | inr one ↦ inr (value_keys es one.0 one.1 q one.2 one.3)
      ];
    }

pub owned_more : (old cur new : List (Bor (List ℕ))) (es : Members) (j : ℕ) (k : List ℕ) → Owned old cur es j → Some k ≡ slice_get (keys_of (pairs es)) j
    → IsKey k → Gains k cur new → Owned old new es (j + 1)
owned_more old cur new es j k o e is_key g =
    let up : j + 1 ≡ suc j = omega arith in
    let a = o.little in let b = g.little in
    record {
      values = λ i u f. each_still (λ q. Has cur q) (λ q. Has new q) g.stay u (o.values i u f);
      keys = λ i q h f. elim (cases_eq i j) [
        | inl same ↦
            let some : Some q ≡ Some k = f ∙ ap (slice_get (keys_of (pairs es))) same ∙ sym e in
            let is : q ≡ k = cc in
            subst (λ (x : List ℕ). Has new x) (sym is) g.here
        | inr other ↦ g.stay q (o.keys i q (omega arith) f)
      ];
      stay = λ q h. g.stay q (o.stay q h);
      little = rw up (omega (arith, key_size (keys_of (pairs es)) j k e));
      is_key = λ h. g.is_key is_key (o.is_key h);
      only = λ q h. elim (g.only q h) [
        | inl before ↦ o.only q before
        | inr now ↦ inr (subst (Contains (entries_keys es)) (sym now) (own_key es j k e))
      ];
    }

trees_covered : (P : List ℕ → Type 0) (ts : Resources) → ((i : ℕ) (u : Resource) → Some u ≡ slice_get (items ts) i → EachKey P u) → EachKeyIn P ts
trees_covered P no_trees h = tt
trees_covered P (tree_and t ts) h = (h 0 t refl, trees_covered P ts (λ i u e. h (suc i) u e))

members_covered : (P : List ℕ → Type 0) (es : Members) → ((i : ℕ) (k : List ℕ) → Some k ≡ slice_get (keys_of (pairs es)) i → P k)
    → ((i : ℕ) (u : Resource) → Some u ≡ slice_get (values_of (pairs es)) i → EachKey P u) → EachKeyOf P es
members_covered P no_entries f h = tt
members_covered P (entry_and k t es) f h = (f 0 k refl, h 0 t refl, members_covered P es (λ i q e. f (suc i) q e) (λ i u e. h (suc i) u e))

pub array_gathered : (old cur : List (Bor (List ℕ))) (ts : Resources) (n : ℕ) (t : Tree) → t ≡ trees.Array ts → Values old cur (items ts) n
    → length (items ts) ≤ n → Gathers (view_of t) old cur
array_gathered old cur ts n t eq v h =
    let a = v.little in
    rw eq (record {
      covered = trees_covered (λ k. Has cur k) ts (λ i u e. v.covered i u (omega (arith, tree_low (items ts) i u e)) e);
      stay = v.stay;
      little = omega (arith, items_size ts);
      is_key = v.is_key;
      only = λ q g. elim (v.only q g) [
        | inl before ↦ inl before
        | inr one ↦ inr (item_keys ts one.0 one.1 q one.2 one.3)
      ];
    })

pub table_gathered : (old cur : List (Bor (List ℕ))) (es : Members) (n : ℕ) (t : Tree) → t ≡ trees.Table es → Owned old cur es n → length (pairs es) ≤ n
    → Gathers (view_of t) old cur
table_gathered old cur es n t eq o h =
    let a = o.little in
    rw eq (record {
      covered = members_covered (λ k. Has cur k) es (λ i k e. o.keys i k (omega (arith, key_low (pairs es) i k e)) e) o.values;
      stay = o.stay;
      little = omega arith;
      is_key = o.is_key;
      only = o.only;
    })
