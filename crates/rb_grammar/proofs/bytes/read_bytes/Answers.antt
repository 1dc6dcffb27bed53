use Rattle.std.proofs.Common.{◌≡◌, ◌+◌, ◌*◌, ◌<◌, ◌≤◌, false, get_or, take, sym, ◌∙◌, subst, refl}
use Rattle.std.specs.Char.{digit_value}
use Rattle.rb_grammar.specs.Numeral.{is_gap}
use Rattle.rb_grammar.proofs.HexBytes.{SoFar, past_first, past_second, left_over, no_digit}
use Rattle.rb_grammar.proofs.bytes.read_bytes.Goals.{in-None, in-Some+in_ok-push-in-Some}
use Rattle.rb_grammar.proofs.bytes.read_bytes.Goals as goal

pub returns-then-low-ge16 : goal.returns-then-low-ge16
returns-then-low-ge16 c =
    let us = c.args.units.now in
    let i = c.loop-unit.unit-index in
    let gap : is_gap (get_or us i 0) ≡ false = sym c.is_gap.ensures ∙ c.if-is_gap.false in
    let large : 16 ≤ digit_value (get_or us i 0) = subst (λ n. 16 ≤ n) c.digit-low.ensures.value c.if-low-ge16.true in
    no_digit us i c.loop-unit-test.true gap large

pub loop-unit-preserved : goal.loop-unit-preserved
loop-unit-preserved c =
    let us = c.args.units.now in
    let i = c.loop-unit.unit-index in
    let gap : is_gap (get_or us i 0) ≡ false = sym c.is_gap.ensures ∙ c.if-is_gap.false in
    let small : digit_value (get_or us i 0) < 16 = subst (λ n. n < 16) c.digit-low.ensures.value c.if-low-ge16.false in
    let before : SoFar (take i us) c.loop-unit.bytes.items c.loop-unit.first_digit = c.loop-unit.invariant in
    elim c.match-first_digit.branch [
      | in-None w ↦ rw (w.bytes-is, w.first_digit-is) (past_first us i c.loop-unit-test.true c.loop-unit.bytes.items gap small
          (subst (SoFar (take i us) c.loop-unit.bytes.items) w.in-None.is before))
      | in-Some+in_ok-push-in-Some w ↦
          let high = w.in-Some.high in
          let byte : 16 * w.digit.result + c.digit-low.result ≡ 16 * digit_value high + digit_value (get_or us i 0) =
          rw (w.digit.ensures.value, c.digit-low.ensures.value) refl in
          rw (w.bytes-is, w.first_digit-is, w.in_ok-push-in-Some.ensures.items)
          (past_second us i c.loop-unit-test.true c.loop-unit.bytes.items high (16 * w.digit.result + c.digit-low.result) gap small byte
          (subst (SoFar (take i us) c.loop-unit.bytes.items) w.in-Some.is before))
    ]

pub returns-then-is_some : goal.returns-then-is_some
returns-then-is_some c =
    left_over c.args.units.now c.loop-unit.unit-index c.loop-unit.bytes.items c.loop-unit.first_digit c.loop-unit-test.false
    (sym c.is_some.ensures ∙ c.if-is_some.true) c.loop-unit.invariant
