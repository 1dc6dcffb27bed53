-- Proves how the parts of a tree charge the budget.
use Rattle.std.proofs.Common.{◌≡◌, ℕ, zero, suc, ◌+◌, ◌*◌, ◌<◌, ◌≤◌, length, Option, Some, None, refl, sym, subst, ap, add-one}
use Rattle.std.specs.Prelude.{slice_get}
use Rattle.std.specs.Map.{values_of}
use Rattle.rb_tree.specs.Resource.{Resource, Resources, Members, no_entries, entry_and, array}
use Rattle.rb_tree.specs.Keys.{items, pairs}
use Rattle.rb_tree.specs.Parts.{kind_of}
use Rattle.rb_tree.specs.declared.kind.Kind.TheVariants as Kinds
use Rattle.rb_printer.specs.Page.{items_of}
use Rattle.rb_printer.specs.inner.Least.{item_lead, frame, items_frame, entries_frame, Takes}
use Rattle.rb_printer.proofs.Trees.{drop_trees, drop_members, tree_there, trees_out, members_out}

pub items_next : (level : ℕ) (ts : Resources) (i : ℕ) (u : Resource) → Some u ≡ slice_get (items ts) i
    → items_frame level (drop_trees i ts) ≡ item_lead level u + frame level u + items_frame level (drop_trees (i + 1) ts)
items_next level ts i u e = ap (items_frame level) (tree_there ts i u e)

entry_next : (level : ℕ) (es : Members) (i : ℕ) (u : Resource) → Some u ≡ slice_get (values_of (pairs es)) i
    → entries_frame level (drop_members i es) ≡ 4 * level + frame level u + entries_frame level (drop_members (suc i) es)
entry_next level no_entries i u f = absurd cc
entry_next level (entry_and k t es) zero u f =
    let same : t ≡ u = cc in ap (λ (x : Resource). 4 * level + frame level x + entries_frame level es) same
entry_next level (entry_and k t es) (suc i) u f = entry_next level es i u f

pub entries_next : (level : ℕ) (es : Members) (i : ℕ) (u : Resource) → Some u ≡ slice_get (values_of (pairs es)) i
    → entries_frame level (drop_members i es) ≡ 4 * level + frame level u + entries_frame level (drop_members (i + 1) es)
entries_next level es i u f = rw add-one (entry_next level es i u f)

pub items_last : (level : ℕ) (ts : Resources) (i : ℕ) → length (items ts) ≤ i → items_frame level (drop_trees i ts) ≡ 0
items_last level ts i h = ap (items_frame level) (trees_out ts i h)

pub entries_last : (level : ℕ) (es : Members) (i : ℕ) → length (pairs es) ≤ i → entries_frame level (drop_members i es) ≡ 0
entries_last level es i h = ap (entries_frame level) (members_out es i h)

pub array_frame : (level : ℕ) (t : Resource) → kind_of t ≡ Kinds.Array → frame level t ≡ 2 + items_frame (level + 1) (items_of t)
array_frame level (array ts) k = refl
array_frame level _ k = absurd cc

-- too little is left
pub none_left : (budget n : ℕ) (r : Option ℕ) → r ≡ None → budget < n → Takes budget n r
none_left budget n r e h = subst (Takes budget n) (sym e) h
