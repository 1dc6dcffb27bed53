use Rattle.std.proofs.Common.{ℕ, ◌*◌, ◌≤◌, ◌<◌}
use Rattle.rb_format.specs.Place.{word_at}
use Rattle.rb_validator.specs.inner.Leaves.{IsLeaf}
use Rattle.rb_validator.proofs.spans.leaves.is_leaf_unit.Given as goal

abbrev pub invariant-loop-word : goal.invariant-loop-word
invariant-loop-word l = (w : ℕ) → 32 * l.unit ≤ w → w < l.word
    → IsLeaf l.body.layout.now l.body.bytes.now (word_at l.body.bytes.now w)
