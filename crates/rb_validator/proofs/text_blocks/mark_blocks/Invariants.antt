use Rattle.std.proofs.Common.{◌≡◌, length}
use Rattle.rb_validator.specs.TextBlocks.{AreSegmentBlocks}
use Rattle.rb_validator.proofs.text_blocks.mark_blocks.Given as goal

abbrev pub invariant-loop-block : goal.invariant-loop-block
invariant-loop-block l = (length l.blocks.items ≡ l.block) × AreSegmentBlocks l.body l.blocks.items
