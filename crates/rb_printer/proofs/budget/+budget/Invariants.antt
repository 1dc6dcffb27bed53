use Rattle.std.proofs.Common.{◌≡◌, ◌+◌, ◌*◌}
use Rattle.rb_tree.specs.Resource.{height}
use Rattle.rb_printer.specs.Page.{items_of, members_of}
use Rattle.rb_printer.specs.inner.Least.{items_frame, entries_frame}
use Rattle.rb_printer.proofs.Trees.{drop_trees, drop_members}
use Rattle.rb_printer.proofs.budget.+budget.Given as goal

abbrev pub decreases-charge_body : goal.decreases-charge_body
decreases-charge_body g l = 2 * height (g.N.Node.tree l.node) + 1

abbrev pub decreases-charge_entries : goal.decreases-charge_entries
decreases-charge_entries g l = 2 * height (g.N.Node.tree l.node)

abbrev pub invariant-charge_body-loop-i : goal.invariant-charge_body-loop-i
invariant-charge_body-loop-i g l =
    let ts = items_of (g.N.Node.tree l.node) in
    l.left + (2 + items_frame (l.level + 1) ts) ≡ l.fn.budget + items_frame (l.level + 1) (drop_trees l.i ts)

abbrev pub invariant-charge_entries-loop-i : goal.invariant-charge_entries-loop-i
invariant-charge_entries-loop-i g l =
    let es = members_of (g.N.Node.tree l.node) in l.left + entries_frame l.level es ≡ l.fn.budget + entries_frame l.level (drop_members l.i es)
