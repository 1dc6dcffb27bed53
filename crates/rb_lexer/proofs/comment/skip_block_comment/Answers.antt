use Rattle.std.proofs.Common.{rules, arith}
use Rattle.rb_lexer.proofs.Comments.{block_more, block_ends, block_open}
use Rattle.rb_lexer.proofs.comment.skip_block_comment.Goals as goal

pub returns-in-Some-block_end-clause-taken : goal.returns-in-Some-block_end-clause-taken
returns-in-Some-block_end-clause-taken c = block_ends _ _ c.block.invariant.so_far _ c.in-Some-block_end.ensures.taken

pub block-preserved : goal.block-preserved
block-preserved c = record {
  text = search rules;
  so_far = block_more _ _ c.block.invariant.so_far _ _ c.in-Some.ensures.taken c.in_default-block_end.ensures.taken;
  no_longer = omega (arith, c.in-Some.ensures.shorter);
}

pub returns-clause-taken : goal.returns-clause-taken
returns-clause-taken c = block_open _ _ c.block.invariant.so_far c.in_default.ensures.taken
