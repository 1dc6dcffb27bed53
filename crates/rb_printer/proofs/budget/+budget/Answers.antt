use Rattle.std.proofs.Common.{◌≡◌, ◌+◌, ◌*◌, ◌<◌, ℕ, List, Some, subst, sym, arith}
use Rattle.std.specs.Prelude.{slice_get}
use Rattle.rb_tree.specs.Resource.{Resource, height}
use Rattle.rb_tree.specs.inner.Lower.{child_lower}
use Rattle.rb_tree.specs.Parts.{kind_of, children_of}
use Rattle.rb_tree.specs.declared.kind.Kind.TheVariants as Kinds
use Rattle.rb_printer.specs.Page.{items_of, members_of}
use Rattle.rb_printer.specs.inner.Least.{item_lead, frame, items_frame, entries_frame}
use Rattle.rb_printer.proofs.Trees.{array_children, array_len, table_children, table_len, drop_trees, drop_members}
use Rattle.rb_printer.proofs.Budgets.{array_frame, items_next, entries_next, items_last, entries_last, none_left}
use Rattle.rb_printer.proofs.budget.+budget.Goals as goal

-- what the items from the present one on need
items_need : (level i : ℕ) (t u : Resource) → kind_of t ≡ Kinds.Array → Some u ≡ slice_get (children_of t) i
    → items_frame level (drop_trees i (items_of t)) ≡ item_lead level u + frame level u + items_frame level (drop_trees (i + 1) (items_of t))
items_need level i t u k e = items_next level (items_of t) i u (subst (λ (xs : List Resource). Some u ≡ slice_get xs i) (array_children t k) e)

entries_need : (level i : ℕ) (t u : Resource) → kind_of t ≡ Kinds.Table → Some u ≡ slice_get (children_of t) i
    → entries_frame level (drop_members i (members_of t)) ≡ 4 * level + frame level u + entries_frame level (drop_members (i + 1) (members_of t))
entries_need level i t u k f =
    entries_next level (members_of t) i u (subst (λ (xs : List Resource). Some u ≡ slice_get xs i) (table_children t k) f)

pub charge_body-returns-in_err-budget-in-Array : goal.charge_body-returns-in_err-budget-in-Array
charge_body-returns-in_err-budget-in-Array g t c =
    let tree = g.N.Node.tree c.args.node in
    let array : kind_of tree ≡ Kinds.Array = sym c.in-Array.ensures in
    let need = items_need (c.args.level + 1) c.loop-i.i tree (g.N.Node.tree c.at-child.result) array c.at-child.ensures in
    none_left _ _ c.from_residual-in_err-budget-in-Array.result c.from_residual-in_err-budget-in-Array.ensures
    (omega (arith, array_frame c.args.level tree array, need, c.in_err-budget-in-Array.ensures, c.loop-i.invariant))

pub charge_body-charge_body-requires : goal.charge_body-charge_body-requires
charge_body-charge_body-requires g t c κs within =
    let tree = g.N.Node.tree in
    let lower : height (tree c.at-child.result) < height (tree c.args.node) =
    child_lower (tree c.args.node) (tree c.at-child.result) c.loop-i.i c.at-child.ensures in
    (omega (arith, lower, c.decreases), (within, omega (arith, lower, c.requires)))

pub charge_body-returns-in_err-left-in-Array-2 : goal.charge_body-returns-in_err-left-in-Array-2
charge_body-returns-in_err-left-in-Array-2 g t c =
    let tree = g.N.Node.tree c.args.node in
    let array : kind_of tree ≡ Kinds.Array = sym c.in-Array.ensures in
    let need = items_need (c.args.level + 1) c.loop-i.i tree (g.N.Node.tree c.at-child.result) array c.at-child.ensures in
    none_left _ _ c.from_residual-in_err-left-in-Array-2.result c.from_residual-in_err-left-in-Array-2.ensures
    (omega (arith, array_frame c.args.level tree array, need, c.in_ok-budget-in-Array.ensures, c.in_err-left-in-Array-2.ensures, c.loop-i.invariant))

pub charge_body-loop-i-preserved : goal.charge_body-loop-i-preserved
charge_body-loop-i-preserved g t c =
    let tree = g.N.Node.tree c.args.node in
    let array : kind_of tree ≡ Kinds.Array = sym c.in-Array.ensures in
    omega (arith, items_need (c.args.level + 1) c.loop-i.i tree (g.N.Node.tree c.at-child.result) array c.at-child.ensures, c.in_ok-budget-in-Array.ensures, c.in_ok-left-in-Array-2.ensures, c.loop-i.invariant)

pub charge_body-returns-after-loop-i : goal.charge_body-returns-after-loop-i
charge_body-returns-after-loop-i g t c =
    let tree = g.N.Node.tree c.args.node in
    let array : kind_of tree ≡ Kinds.Array = sym c.in-Array.ensures in
    let last = items_last (c.args.level + 1) (items_of tree) c.loop-i.i (omega (arith, array_len tree array, c.len-i-end.ensures)) in
    omega (arith, array_frame c.args.level tree array, last, c.loop-i.invariant)

pub charge_entries-returns-in_err-budget : goal.charge_entries-returns-in_err-budget
charge_entries-returns-in_err-budget g t c =
    let tree = g.N.Node.tree in
    let need = entries_need c.args.level c.loop-i.i (tree c.args.node) (tree c.at-child.result) c.requires.table c.at-child.ensures in
    none_left _ _ c.from_residual.result c.from_residual.ensures (omega (arith, need, c.in_err-budget.ensures, c.loop-i.invariant))

pub charge_entries-charge_body-requires : goal.charge_entries-charge_body-requires
charge_entries-charge_body-requires g t c κs within =
    let tree = g.N.Node.tree in
    let lower : height (tree c.at-child.result) < height (tree c.args.node) =
    child_lower (tree c.args.node) (tree c.at-child.result) c.loop-i.i c.at-child.ensures in
    (omega (arith, lower, c.decreases), (within, omega (arith, lower, c.requires.low)))

pub charge_entries-returns-in_err-left : goal.charge_entries-returns-in_err-left
charge_entries-returns-in_err-left g t c =
    let tree = g.N.Node.tree in
    let need = entries_need c.args.level c.loop-i.i (tree c.args.node) (tree c.at-child.result) c.requires.table c.at-child.ensures in
    none_left _ _ c.from_residual-in_err-left.result c.from_residual-in_err-left.ensures
    (omega (arith, need, c.in_ok-budget.ensures, c.in_err-left.ensures, c.loop-i.invariant))

pub charge_entries-loop-i-preserved : goal.charge_entries-loop-i-preserved
charge_entries-loop-i-preserved g t c =
    let tree = g.N.Node.tree in
    omega (
      arith,
      entries_need c.args.level c.loop-i.i (tree c.args.node) (tree c.at-child.result) c.requires.table c.at-child.ensures,
      c.in_ok-budget.ensures,
      c.in_ok-left.ensures,
      c.loop-i.invariant,
    )

pub charge_entries-returns : goal.charge_entries-returns
charge_entries-returns g t c =
    let tree = g.N.Node.tree in
    let len = table_len (tree c.args.node) c.requires.table in
    omega (arith, entries_last c.args.level (members_of (tree c.args.node)) c.loop-i.i (omega (arith, len, c.len-i-end.ensures)), c.loop-i.invariant)
