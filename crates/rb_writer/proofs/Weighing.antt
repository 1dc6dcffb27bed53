-- The weight of a tree, child by child.
use Rattle.std.proofs.Common.{◌≡◌, ℕ, zero, suc, ◌+◌, ◌-◌, ◌^◌, ◌≤◌, min, ap, List, [], ◌∷◌, length, drop, Some, refl, arith}
use Rattle.std.specs.Prelude.{slice_get}
use Rattle.std.proofs.lemmas.List.{drop_all}
use Rattle.std.specs.Map.{keys_of, values_of}
use Rattle.rb_tree.specs.Resource.{Resource, Resources, no_trees, tree_and, Members, no_entries, entry_and, weight, trees_weight, entries_weight}
use Rattle.rb_tree.specs.Keys.{items, pairs}

-- ---- the items of an array

abbrev pub weight_in : List Resource → ℕ
weight_in [] = 0
weight_in (t ∷ ts) = 4 + weight t + weight_in ts

pub weight_items : (ts : Resources) → weight_in (items ts) ≡ trees_weight ts
weight_items no_trees = refl
weight_items (tree_and t ts) = ap (λ n. 4 + weight t + n) (weight_items ts)

weight_turn : (ts : List Resource) (i : ℕ) (u : Resource) → Some u ≡ slice_get ts i → weight_in (drop i ts) ≡ 4 + weight u + weight_in (drop (suc i) ts)
weight_turn [] i u e = cc
weight_turn (t ∷ ts) zero u e = let s : t ≡ u = cc in ap (λ (v : Resource). 4 + weight v + weight_in ts) s
weight_turn (t ∷ ts) (suc i) u e = weight_turn ts i u e

-- one more item
pub weight_turned : (ts : List Resource) (i m k n : ℕ) (u : Resource) (all : ℕ) → k ≡ min (m + 4) (2 ^ 64 - 1) → n ≡ min (k + weight u) (2 ^ 64 - 1)
    → Some u ≡ slice_get ts i → min (m + weight_in (drop i ts)) (2 ^ 64 - 1) ≡ all → min (n + weight_in (drop (i + 1) ts)) (2 ^ 64 - 1) ≡ all
weight_turned ts i m k n u all e f g h =
    let up : i + 1 ≡ suc i = omega arith in
    let turn = weight_turn ts i u g in
    rw up (omega arith)

-- ---- the entries of a table

abbrev pub weight_of_pairs : List (List ℕ × Resource) → ℕ
weight_of_pairs [] = 0
weight_of_pairs (p ∷ ps) = 9 + length p.0 + weight p.1 + weight_of_pairs ps

pub weight_pairs : (es : Members) → weight_of_pairs (pairs es) ≡ entries_weight es
weight_pairs no_entries = refl
weight_pairs (entry_and k t es) = ap (λ n. 9 + length k + weight t + n) (weight_pairs es)

pair_turn : (ps : List (List ℕ × Resource)) (i : ℕ) (k : List ℕ) (u : Resource) → Some k ≡ slice_get (keys_of ps) i → Some u ≡ slice_get (values_of ps) i
    → weight_of_pairs (drop i ps) ≡ 9 + length k + weight u + weight_of_pairs (drop (suc i) ps)
pair_turn [] i k u e f = cc
pair_turn (p ∷ ps) zero k u e f =
    let s : p.0 ≡ k = cc in
    let t : p.1 ≡ u = cc in
    rw (s, t) refl
pair_turn (p ∷ ps) (suc i) k u e f = pair_turn ps i k u e f

-- one more entry
pub pair_turned : (ps : List (List ℕ × Resource)) (i m j n : ℕ) (k : List ℕ) (u : Resource) (all : ℕ) → j ≡ min (m + (9 + length k)) (2 ^ 64 - 1)
    → n ≡ min (j + weight u) (2 ^ 64 - 1) → Some k ≡ slice_get (keys_of ps) i → Some u ≡ slice_get (values_of ps) i
    → min (m + weight_of_pairs (drop i ps)) (2 ^ 64 - 1) ≡ all → min (n + weight_of_pairs (drop (i + 1) ps)) (2 ^ 64 - 1) ≡ all
pair_turned ps i m j n k u all e f g h a =
    let up : i + 1 ≡ suc i = omega arith in
    let turn = pair_turn ps i k u g h in
    rw up (omega arith)

pub pair_end : (ps : List (List ℕ × Resource)) (i m all : ℕ) → m ≤ 2 ^ 64 - 1 → min (m + weight_of_pairs (drop i ps)) (2 ^ 64 - 1) ≡ all → length ps ≤ i
    → m ≡ all
pair_end ps i m all h e l = let none = ap weight_of_pairs (drop_all i ps l) in omega arith
