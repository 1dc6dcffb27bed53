use Rattle.std.proofs.Common.{◌+◌, ◌*◌}
use Rattle.rb_tree.specs.Resource.{height}
use Rattle.rb_tree.specs.Parts.{children_of}
use Rattle.rb_tree.specs.View.{view_of}
use Rattle.rb_writer.specs.inner.Standing.{ChildrenStand, EachLaid}
use Rattle.rb_writer.proofs.tree.+write.Given as goal

abbrev pub decreases-write_value : goal.decreases-write_value
decreases-write_value l = 2 * height (view_of l.tree.now) + 1

abbrev pub decreases-write_children : goal.decreases-write_children
decreases-write_children l = 2 * height (view_of l.tree.now)

abbrev pub invariant-write_children-loop-i : goal.invariant-write_children-loop-i
invariant-write_children-loop-i l = ChildrenStand l.keys.area l.fn.out l.out (children_of (view_of l.tree)) l.items.items l.i
    × EachLaid l.keys l.fn.out l.out (children_of (view_of l.tree)) l.items.items l.i
