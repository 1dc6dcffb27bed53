use Rattle.std.proofs.Common.{◌≡◌, drop, map}
use Rattle.rb_tree.specs.Parts.{children_of, units_of}
use Rattle.rb_tree.specs.View.{view_of}
use Rattle.rb_parents.specs.inner.Entries.{put_children}
use Rattle.rb_parents.specs.Family.{parent_of}
use Rattle.rb_parents.proofs.parents.Parents.put_value.Given as goal

abbrev pub invariant-loop-i : goal.invariant-loop-i
invariant-loop-i l =
    put_children l.parent (map units_of (drop l.i (children_of (view_of l.value)))) (parent_of l.self)
    ≡ put_children l.parent (map units_of (children_of (view_of l.value))) (parent_of l.initial.self)
