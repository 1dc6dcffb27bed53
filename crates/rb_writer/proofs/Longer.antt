-- The longest table, child by child.
use Rattle.std.proofs.Common.{◌≡◌, ℕ, zero, suc, ◌+◌, ◌≤◌, max, ap, List, [], ◌∷◌, length, drop, Some, refl, arith}
use Rattle.std.specs.Prelude.{slice_get}
use Rattle.std.proofs.lemmas.List.{drop_all}
use Rattle.std.specs.Map.{values_of}
use Rattle.rb_tree.specs.Resource.{Resource, string, int, ints, binary, alias, array, table, Resources}
use Rattle.rb_tree.specs.Resource.{no_trees, tree_and, Members, no_entries, entry_and, weight, trees_weight, entries_weight}
use Rattle.rb_tree.specs.Keys.{items, pairs}
use Rattle.rb_writer.specs.Longest.{longest, longest_of_trees, longest_of_entries}

abbrev pub longest_in : List Resource → ℕ
longest_in [] = 0
longest_in (t ∷ ts) = max (longest t) (longest_in ts)

pub longest_items : (ts : Resources) → longest_in (items ts) ≡ longest_of_trees ts
longest_items no_trees = refl
longest_items (tree_and t ts) = ap (max (longest t)) (longest_items ts)

pub longest_values : (es : Members) → longest_in (values_of (pairs es)) ≡ longest_of_entries es
longest_values no_entries = refl
longest_values (entry_and k t es) = ap (max (longest t)) (longest_values es)

longest_turn : (ts : List Resource) (i : ℕ) (u : Resource) → Some u ≡ slice_get ts i → longest_in (drop i ts) ≡ max (longest u) (longest_in (drop (suc i) ts))
longest_turn [] i u e = cc
longest_turn (t ∷ ts) zero u e = let s : t ≡ u = cc in ap (λ (v : Resource). max (longest v) (longest_in ts)) s
longest_turn (t ∷ ts) (suc i) u e = longest_turn ts i u e

-- one more child, and the longest so far
pub longest_turned : (ts : List Resource) (i m n : ℕ) (u : Resource) (all : ℕ) → n ≡ max m (longest u) → Some u ≡ slice_get ts i
    → max m (longest_in (drop i ts)) ≡ all → max n (longest_in (drop (i + 1) ts)) ≡ all
longest_turned ts i m n u all e f g =
    let up : i + 1 ≡ suc i = omega arith in
    let turn = longest_turn ts i u f in
    rw up (omega arith)

pub longest_end : (ts : List Resource) (i m all : ℕ) → max m (longest_in (drop i ts)) ≡ all → length ts ≤ i → m ≡ all
longest_end ts i m all e h = let none = ap longest_in (drop_all i ts h) in omega arith

-- a table takes eight bytes for each entry at least
mutual
  pub longest_weight : (t : Resource) → longest t ≤ weight t
  longest_weight (string us) = omega arith
  longest_weight (int n) = omega arith
  longest_weight (ints zs) = omega arith
  longest_weight (binary bs) = omega arith
  longest_weight (alias us) = omega arith
  longest_weight (array ts) = omega (arith, longest_trees ts)
  longest_weight (table es) = omega (arith, longest_entries es)

  longest_trees : (ts : Resources) → longest_of_trees ts ≤ trees_weight ts
  longest_trees no_trees = omega arith
  longest_trees (tree_and t ts) = omega (arith, longest_weight t, longest_trees ts)

  longest_entries : (es : Members) → max (length (pairs es)) (longest_of_entries es) ≤ entries_weight es
  longest_entries no_entries = omega arith
  longest_entries (entry_and k t es) = omega (arith, longest_weight t, longest_entries es)
