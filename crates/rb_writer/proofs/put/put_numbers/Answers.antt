use Rattle.std.proofs.Common.{◌≡◌, ℤ, pos, get_or, arith, rules, to_z-of_z}
use Rattle.std.specs.Int.{cast_signed, w32}
use Rattle.rb_writer.proofs.Puts.{numbers_more, get_or_any}
use Rattle.rb_writer.proofs.put.put_numbers.Goals as goal

pub loop-number-preserved : goal.loop-number-preserved
loop-number-preserved c =
    let z : ℤ = get_or c.args.numbers.now c.loop-number.number-index (pos 0) in
    let t : cast_signed w32 c.cast_unsigned.result ≡ z = grind (arith, to_z-of_z) in
    numbers_more c.args.out.now c.loop-number.out c.put_word.new.out c.args.numbers.now z _ c.loop-number.number-index c.loop-number.invariant
    c.in_ok-put_word.ensures t (search rules) (get_or_any c.args.numbers.now c.loop-number.number-index (pos 0) z c.loop-number-test.true) c.loop-number-test.true
