use Rattle.std.proofs.Common.{◌-◌, ◌+◌, ◌≤◌, length}
use Rattle.rb_inherit.specs.inner.Paths.{AreFilled, steps_of}
use Rattle.rb_inherit.proofs.Walks.{Reached}
use Rattle.rb_inherit.proofs.path.walk_on.Given as goal

abbrev pub invariant-segments : goal.invariant-segments
invariant-segments g l = record {
  near : l.at ≤ length l.path + 1;
  reached : AreFilled (steps_of l.path) → Reached (g.N.Node.tree l.fn.node) l.path (g.N.Node.tree l.here) l.at;
}

abbrev pub decreases-segments : goal.decreases-segments
decreases-segments g l = length l.path + 1 - l.at
