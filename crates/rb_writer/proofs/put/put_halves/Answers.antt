use Rattle.std.proofs.Common.{rules}
use Rattle.rb_writer.proofs.Puts.{halves_more}
use Rattle.rb_writer.proofs.put.put_halves.Goals as goal

pub loop-half-preserved : goal.loop-half-preserved
loop-half-preserved c = halves_more c.args.out.now c.loop-half.out c.put_half.new.out c.args.halves.now _ c.loop-half.half-index c.loop-half.invariant
    c.in_ok-put_half.ensures (search rules) c.loop-half-test.true
