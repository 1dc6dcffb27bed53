use Rattle.std.proofs.Common.{rules, []}
use Rattle.rb_writer.proofs.Placing.{not_more}
use Rattle.rb_writer.proofs.keys.search.Goals as goal

pub loop-pair-preserved : goal.loop-pair-preserved
loop-pair-preserved c = not_more c.args.known.now c.loop-pair.pair-index c.args.key.now (record { ref_ptr = (0, 0); now = [] }, 0) c.loop-pair.invariant
    c.loop-pair-test.true (λ e. search rules)
