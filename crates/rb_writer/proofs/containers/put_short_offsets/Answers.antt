use Rattle.std.proofs.Common.{rules}
use Rattle.rb_writer.proofs.Puts.{halves_more}
use Rattle.rb_writer.proofs.containers.put_short_offsets.Goals as goal

pub loop-offset-preserved : goal.loop-offset-preserved
loop-offset-preserved c = halves_more c.args.out.now c.loop-offset.out c.put_half.new.out c.args.offsets.now _ c.loop-offset.offset-index
    c.loop-offset.invariant c.in_ok-put_half.ensures (search rules) c.loop-offset-test.true
