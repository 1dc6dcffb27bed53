use Rattle.std.proofs.Common.{rules, sym, ◌∙◌, arith}
use Rattle.rb_lexer.proofs.Comments.{line_more, line_ends, line_over}
use Rattle.rb_lexer.proofs.comment.skip_line_comment.Goals as goal

pub returns-then-ends_line-clause-taken : goal.returns-then-ends_line-clause-taken
returns-then-ends_line-clause-taken c =
    line_ends _ _ c.line.invariant.so_far c.in-Some.c _ c.in-Some.ensures.taken (sym c.ends_line.ensures ∙ c.if-ends_line.true)

pub line-preserved : goal.line-preserved
line-preserved c = record {
  text = search rules;
  so_far = line_more _ _ c.line.invariant.so_far c.in-Some.c _ c.in-Some.ensures.taken (sym c.ends_line.ensures ∙ c.if-ends_line.false);
  no_longer = omega (arith, c.in-Some.ensures.shorter);
}

pub returns-clause-taken : goal.returns-clause-taken
returns-clause-taken c = line_over _ _ c.line.invariant.so_far c.in_default.ensures.taken
