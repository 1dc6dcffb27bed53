-- The arrays and tables of a tree that have items, child by child.
use Rattle.std.proofs.Common.{◌≡◌, ℕ, zero, suc, ◌+◌, ◌-◌, ◌^◌, ◌≤◌, min, ap, List, [], ◌∷◌, length, drop, Some, refl, arith}
use Rattle.std.specs.Prelude.{slice_get}
use Rattle.std.proofs.lemmas.List.{drop_all}
use Rattle.std.specs.Map.{values_of}
use Rattle.rb_tree.specs.Resource.{Resource, string, int, ints, binary, alias, array, table, Resources}
use Rattle.rb_tree.specs.Resource.{no_trees, tree_and, Members, no_entries, entry_and, weight, trees_weight, entries_weight}
use Rattle.rb_tree.specs.Keys.{items, pairs}
use Rattle.rb_writer.specs.Containers.{one_if_any, containers, containers_of_trees, containers_of_entries}

abbrev pub containers_in : List Resource → ℕ
containers_in [] = 0
containers_in (t ∷ ts) = containers t + containers_in ts

pub one_is : {A : Type 0} (xs : List A) → one_if_any xs ≡ min 1 (length xs)
one_is [] = refl
one_is (x ∷ xs) = omega arith

pub one_of_items : (ts : Resources) → one_if_any (items ts) ≡ min 1 (length (items ts))
one_of_items ts = one_is (items ts)

pub one_of_pairs : (es : Members) → one_if_any (pairs es) ≡ min 1 (length (pairs es))
one_of_pairs es = one_is (pairs es)

pub count_items : (ts : Resources) → containers_in (items ts) ≡ containers_of_trees ts
count_items no_trees = refl
count_items (tree_and t ts) = ap (λ n. containers t + n) (count_items ts)

pub count_values : (es : Members) → containers_in (values_of (pairs es)) ≡ containers_of_entries es
count_values no_entries = refl
count_values (entry_and k t es) = ap (λ n. containers t + n) (count_values es)

count_turn : (ts : List Resource) (i : ℕ) (u : Resource) → Some u ≡ slice_get ts i → containers_in (drop i ts) ≡ containers u + containers_in (drop (suc i) ts)
count_turn [] i u e = cc
count_turn (t ∷ ts) zero u e = let s : t ≡ u = cc in ap (λ (v : Resource). containers v + containers_in ts) s
count_turn (t ∷ ts) (suc i) u e = count_turn ts i u e

-- one more child
pub count_turned : (ts : List Resource) (i m n : ℕ) (u : Resource) (all : ℕ) → n ≡ min (m + containers u) (2 ^ 64 - 1) → Some u ≡ slice_get ts i
    → min (m + containers_in (drop i ts)) (2 ^ 64 - 1) ≡ all → min (n + containers_in (drop (i + 1) ts)) (2 ^ 64 - 1) ≡ all
count_turned ts i m n u all e f g =
    let up : i + 1 ≡ suc i = omega arith in
    let turn = count_turn ts i u f in
    rw up (omega arith)

pub count_end : (ts : List Resource) (i m all : ℕ) → m ≤ 2 ^ 64 - 1 → min (m + containers_in (drop i ts)) (2 ^ 64 - 1) ≡ all → length ts ≤ i → m ≡ all
count_end ts i m all h e l = let none = ap containers_in (drop_all i ts l) in omega arith

-- each array and each table weighs something
mutual
  pub containers_light : (t : Resource) → containers t ≤ weight t
  containers_light (string us) = omega arith
  containers_light (int n) = omega arith
  containers_light (ints zs) = omega arith
  containers_light (binary bs) = omega arith
  containers_light (alias us) = omega arith
  containers_light (array ts) = omega (arith, trees_light ts, one_of_items ts)
  containers_light (table es) = omega (arith, entries_light es, one_of_pairs es)

  trees_light : (ts : Resources) → containers_of_trees ts ≤ trees_weight ts
  trees_light no_trees = omega arith
  trees_light (tree_and t ts) = omega (arith, containers_light t, trees_light ts)

  entries_light : (es : Members) → containers_of_entries es ≤ entries_weight es
  entries_light no_entries = omega arith
  entries_light (entry_and k t es) = omega (arith, containers_light t, entries_light es)

-- a light tree has few
pub count_exact : (t : Resource) (n w : ℕ) → n ≡ min (containers t) (2 ^ 64 - 1) → w ≡ min (weight t) (2 ^ 64 - 1) → w ≤ 33554432
    → (n ≡ containers t) × (n ≤ 33554432)
count_exact t n w e f h = let l = containers_light t in (omega arith, omega arith)
