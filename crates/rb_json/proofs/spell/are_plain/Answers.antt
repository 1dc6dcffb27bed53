use Rattle.std.proofs.Common.{arith, refl}
use Rattle.rb_json.proofs.Plain.{more_plain}
use Rattle.rb_json.proofs.spell.are_plain.Goals as goal

pub loop-i-preserved : goal.loop-i-preserved
loop-i-preserved c =
    let test = c.if-not-is_plain_ascii.ensures in
    more_plain c.args.bytes.now c.loop-i.i c.loop-i.invariant (omega arith) (test.ascii refl) (test.plain refl)
