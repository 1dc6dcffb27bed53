use Rattle.std.proofs.Common.{rules, arith, [], sym, ◌∙◌}
use Rattle.std.specs.Str.{chars}
use Rattle.rb_lexer.specs.Pieces.{closes}
use Rattle.rb_lexer.proofs.Passed.{passes_more, closes_alike}
use Rattle.rb_lexer.proofs.pieces.skip_quoted.Goals as goal

pub parts-preserved : goal.parts-preserved
parts-preserved c = record {
  text = search rules;
  so_far = passes_more closes _ _ c.parts.invariant.so_far c.in-Some.part (chars c.in-Some.after.now) c.in-Some.ensures.taken
      (closes_alike c.in-Some.part (chars c.in-Some.after.now) [] ∙ sym c.closes.ensures ∙ c.if-closes.false);
  no_longer = omega (arith, c.in-Some.ensures.shorter, c.parts.invariant.no_longer);
}
