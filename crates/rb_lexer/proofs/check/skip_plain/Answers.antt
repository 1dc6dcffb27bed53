use Rattle.std.proofs.Common.{[], rules, refl, arith}
use Rattle.std.specs.Str.{chars}
use Rattle.rb_lexer.proofs.Passes.{plain_more}
use Rattle.rb_lexer.proofs.check.skip_plain.Goals as goal

pub returns-then-c-eq34-clause-taken : goal.returns-then-c-eq34-clause-taken
returns-then-c-eq34-clause-taken c = c.plain.invariant.so_far [] (chars c.plain.rest.now) refl tt

pub plain-preserved : goal.plain-preserved
plain-preserved c = record {
  text = search rules;
  so_far = plain_more _ _ c.plain.invariant.so_far c.in-Some.c _ c.in-Some.ensures.taken c.if-c-eq34.false c.if-c-eq92.false c.if-c-eq47.false;
  no_longer = omega (arith, c.in-Some.ensures.shorter, c.plain.invariant.no_longer);
}

pub returns-clause-taken : goal.returns-clause-taken
returns-clause-taken c = c.plain.invariant.so_far [] (chars c.plain.rest.now) refl tt
