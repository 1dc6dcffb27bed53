use Rattle.std.proofs.Common.{rules, arith, sym, ◌∙◌}
use Rattle.std.specs.Str.{chars}
use Rattle.rb_lexer.specs.Pieces.{ends_run}
use Rattle.rb_lexer.proofs.Passed.{passes_more}
use Rattle.rb_lexer.proofs.pieces.skip_run.Goals as goal

pub parts-preserved : goal.parts-preserved
parts-preserved c = record {
  text = search rules;
  so_far = passes_more ends_run _ _ c.parts.invariant.so_far c.in-Some.part (chars c.in-Some.after.now) c.in-Some.ensures.taken
      (sym c.ends_run.ensures ∙ c.if-ends_run.false);
  no_longer = omega (arith, c.in-Some.ensures.shorter, c.parts.invariant.no_longer);
}
