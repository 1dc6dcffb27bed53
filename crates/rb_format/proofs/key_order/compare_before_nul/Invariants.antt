use Rattle.rb_format.proofs.KeyOrder.{AgreeSoFar}
use Rattle.rb_format.proofs.key_order.compare_before_nul.Given as goal

abbrev pub invariant-loop-i : goal.invariant-loop-i
invariant-loop-i l = AgreeSoFar l.key l.run l.i
