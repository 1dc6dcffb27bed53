use Rattle.std.proofs.Common.{◌+◌, ◌*◌}
use Rattle.rb_tree.specs.Resource.{height}
use Rattle.rb_printer.proofs.Trees.{ItemsPut, EntriesPut}
use Rattle.rb_printer.proofs.tree.+tree.Given as goal

abbrev pub decreases-put_body : goal.decreases-put_body
decreases-put_body g l = 3 * height (g.N.Node.tree l.node) + 1

abbrev pub decreases-put_item : goal.decreases-put_item
decreases-put_item g l = 3 * height (g.N.Node.tree l.node) + 2

abbrev pub decreases-put_entries : goal.decreases-put_entries
decreases-put_entries g l = 3 * height (g.N.Node.tree l.node)

abbrev pub invariant-put_body-loop-i : goal.invariant-put_body-loop-i
invariant-put_body-loop-i g l = ItemsPut l.fn.out.items l.out.items l.level (g.N.Node.tree l.node) l.remaining l.i

abbrev pub invariant-put_entries-loop-i : goal.invariant-put_entries-loop-i
invariant-put_entries-loop-i g l = EntriesPut l.fn.out.items l.out.items l.level (g.N.Node.tree l.node) l.i
