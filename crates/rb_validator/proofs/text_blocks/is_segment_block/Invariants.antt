use Rattle.std.proofs.Common.{◌≡◌, ◌*◌, ◌≤◌, ◌<◌, ℕ, true}
use Rattle.rb_tree.specs.Path as path
use Rattle.rb_format.specs.Place as fields
use Rattle.rb_validator.proofs.text_blocks.is_segment_block.Given as goal

abbrev pub invariant-loop-half : goal.invariant-loop-half
invariant-loop-half l = (h : ℕ) → 1024 * l.block ≤ h → h < l.half → path.is_segment_unit (fields.half_at l.body h) ≡ true
