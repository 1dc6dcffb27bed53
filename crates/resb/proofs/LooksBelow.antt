-- What a look at each item of a tree counts for, child by child.
use Rattle.std.proofs.Common.{◌≡◌, ◌∙◌, ◌<◌, ◌≤◌, ◌+◌, ℕ, List, Some, length, take, ap, sym, refl, arith}
use Rattle.std.specs.Prelude.{slice_get, sum_by}
use Rattle.std.specs.Map.{values_of}
use Rattle.std.proofs.lemmas.List.{take_all}
use Rattle.std.proofs.lemmas.List.Sums.{sum_by-cons, sum_by_more, sum_by-take-drop}
use Rattle.std.proofs.lemmas.Option.{get_or_from_slice_get, slice_get_within}
use Rattle.rb_tree.specs.Keys.{items, pairs}
use Rattle.rb_tree.specs.Parts.{children_of}
use Rattle.rb_tree.specs.Resource.{Resource, string, int, ints, binary, alias, array, table, Resources, no_trees, tree_and}
use Rattle.rb_tree.specs.Resource.{Members, no_entries, entry_and}
use Rattle.resb.specs.Icu.{cost_of, looks, trees_looks, entries_looks}

trees_are : (ts : Resources) → trees_looks ts ≡ sum_by looks (items ts)
trees_are no_trees = refl
trees_are (tree_and t ts) = ap (λ (n : ℕ). looks t + n) (trees_are ts) ∙ sym (sum_by-cons looks t (items ts))

entries_are : (es : Members) → entries_looks es ≡ sum_by looks (values_of (pairs es))
entries_are no_entries = refl
entries_are (entry_and k t es) = ap (λ (n : ℕ). looks t + n) (entries_are es) ∙ sym (sum_by-cons looks t (values_of (pairs es)))

looks_are : (t : Resource) → looks t ≡ cost_of t + sum_by looks (children_of t)
looks_are (string us) = refl
looks_are (int n) = refl
looks_are (ints zs) = refl
looks_are (binary bs) = refl
looks_are (alias us) = omega arith
looks_are (array ts) = ap (λ (n : ℕ). 1 + n) (trees_are ts)
looks_are (table es) = ap (λ (n : ℕ). 1 + n) (entries_are es)

-- an item alone counts for no more than its tree
pub cost_within : (t : Resource) (limit : ℕ) → limit < cost_of t → limit < looks t
cost_within t limit h = let whole = looks_are t in omega (arith, whole, h)

-- one child more
sum_more : (t child : Resource) (i : ℕ) → Some child ≡ slice_get (children_of t) i
    → sum_by looks (take (i + 1) (children_of t)) ≡ sum_by looks (take i (children_of t)) + looks child
sum_more t child i e =
    let cs = children_of t in
    sum_by_more looks cs i child (slice_get_within cs i child (sym e))
    ∙ ap (λ (u : Resource). sum_by looks (take i cs) + looks u) (get_or_from_slice_get cs i child child (sym e))

pub left_more : (t child : Resource) (i left rest limit : ℕ) → Some child ≡ slice_get (children_of t) i → rest + looks child ≡ left
    → left + cost_of t + sum_by looks (take i (children_of t)) ≡ limit
    → rest + cost_of t + sum_by looks (take (i + 1) (children_of t)) ≡ limit
left_more t child i left rest limit e r so = let more = sum_more t child i e in omega (arith, more, r, so)

-- all children
pub left_all : (t : Resource) (i left limit : ℕ) → length (children_of t) ≤ i
    → left + cost_of t + sum_by looks (take i (children_of t)) ≡ limit → left + looks t ≡ limit
left_all t i left limit past so =
    let whole = looks_are t in
    let all : sum_by looks (take i (children_of t)) ≡ sum_by looks (children_of t) =
    ap (λ (us : List Resource). sum_by looks us) (take_all i (children_of t) past) in
    omega (arith, whole, all, so)

-- a child that counts for too much
pub too_many : (t child : Resource) (i left limit : ℕ) → Some child ≡ slice_get (children_of t) i → left < looks child
    → left + cost_of t + sum_by looks (take i (children_of t)) ≡ limit → limit < looks t
too_many t child i left limit e over so =
    let whole = looks_are t in
    let more = sum_more t child i e in
    let parts = sum_by-take-drop looks (children_of t) (i + 1) in
    omega (arith, whole, more, parts, over, so)
