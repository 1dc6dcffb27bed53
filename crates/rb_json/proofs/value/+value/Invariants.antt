use Rattle.std.proofs.Common.{◌+◌, ◌*◌, take}
use Rattle.rb_tree.specs.Parts.{children_of, pairs_of}
use Rattle.rb_tree.specs.Resource.{height}
use Rattle.rb_json.specs.inner.Lines.{entry_at, tree_at}
use Rattle.rb_json.specs.inner.Listed.{listed}
use Rattle.rb_json.proofs.value.+value.Given as goal

abbrev pub decreases-put_entries : goal.decreases-put_entries
decreases-put_entries g l = 2 * height (g.N.Node.tree l.node)

abbrev pub decreases-put_items : goal.decreases-put_items
decreases-put_items g l = 2 * height (g.N.Node.tree l.node)

abbrev pub decreases-put_tree : goal.decreases-put_tree
decreases-put_tree g l = 2 * height (g.N.Node.tree l.node) + 1

abbrev pub invariant-put_entries-loop-i : goal.invariant-put_entries-loop-i
invariant-put_entries-loop-i g l =
    g.O.Outlet.takes l.fn.out l.out (listed (entry_at l.layout l.depth) (take l.i (pairs_of (g.N.Node.tree l.node))))

abbrev pub invariant-put_items-loop-i : goal.invariant-put_items-loop-i
invariant-put_items-loop-i g l =
    g.O.Outlet.takes l.fn.out l.out (listed (tree_at l.layout l.depth) (take l.i (children_of (g.N.Node.tree l.node))))
