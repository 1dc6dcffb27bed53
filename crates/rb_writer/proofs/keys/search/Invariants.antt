use Rattle.rb_writer.proofs.Placing.{NotAmong}
use Rattle.rb_writer.proofs.keys.search.Given as goal

abbrev pub invariant-loop-pair : goal.invariant-loop-pair
invariant-loop-pair l = NotAmong l.known l.pair-index l.key
