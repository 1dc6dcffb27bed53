use Rattle.std.proofs.Common.{◌≡◌, min, ◌+◌, ◌*◌, get_or, take, sym, ap, ◌∙◌, arith}
use Rattle.std.specs.Char.{digit_value}
use Rattle.std.specs.Str.Parse.{digits_value}
use Rattle.std.proofs.lemmas.Int.Digits.{digits_more, digits_value_more}
use Rattle.rb_grammar.specs.declared.number.TheConstants.{CEILING}
use Rattle.rb_grammar.proofs.Digits.{digit_at, min_step}
use Rattle.rb_grammar.proofs.number.digits.Goals as goal

pub returns-then-next-radix : goal.returns-then-next-radix
returns-then-next-radix c = λ all.
    let below = digit_at c.args.radix c.args.units.now c.loop-unit.unit-index (grind arith) all in
    grind (arith, below)

pub loop-unit-preserved : goal.loop-unit-preserved
loop-unit-preserved c =
    let us = c.args.units.now in
    let i = c.loop-unit.unit-index in
    let next : c.digit-next.result ≡ digit_value (get_or us i 0) = c.digit-next.ensures.value in
    let more = digits_value_more c.args.radix us i (grind arith) in (
      digits_more c.args.radix us i (grind arith) c.loop-unit.invariant.0 (grind (arith, next)),
      c.min-value.ensures ∙ ap (λ v. min (v * c.args.radix + c.digit-next.result) CEILING) c.loop-unit.invariant.1
          ∙ ap (λ v. min (min (digits_value c.args.radix (take i us)) CEILING * c.args.radix + v) CEILING) next
          ∙ min_step (digits_value c.args.radix (take i us)) c.args.radix (digit_value (get_or us i 0)) CEILING c.requires.least
          ∙ ap (λ v. min v CEILING) (sym more),
    )
