use Rattle.rb_validator.specs.inner.Leaves.{AreLeaves}
use Rattle.rb_validator.proofs.spans.leaves.count_leaves.Given as goal

abbrev pub invariant-loop-unit : goal.invariant-loop-unit
invariant-loop-unit l = AreLeaves l.body.layout.now l.body.bytes.now l.leaves.items
