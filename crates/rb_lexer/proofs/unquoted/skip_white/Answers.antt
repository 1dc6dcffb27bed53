use Rattle.std.proofs.Common.{[], rules, refl, sym, ◌∙◌, arith}
use Rattle.std.specs.Str.{chars}
use Rattle.rb_lexer.proofs.Blanks.{white_more}
use Rattle.rb_lexer.proofs.unquoted.skip_white.Goals as goal

pub returns-then-not-is_white-clause-taken : goal.returns-then-not-is_white-clause-taken
returns-then-not-is_white-clause-taken c = c.white.invariant.so_far [] (chars c.white.rest.now) refl tt

pub white-preserved : goal.white-preserved
white-preserved c = record {
  text = search rules;
  so_far = white_more _ _ c.white.invariant.so_far c.in-Some.c _ c.in-Some.ensures.taken (sym c.is_white.ensures ∙ c.if-not-is_white.false);
  no_longer = omega (arith, c.in-Some.ensures.shorter, c.white.invariant.no_longer);
}

pub returns-clause-taken : goal.returns-clause-taken
returns-clause-taken c = c.white.invariant.so_far [] (chars c.white.rest.now) refl tt
