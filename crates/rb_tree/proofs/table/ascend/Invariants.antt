use Rattle.rb_tree.proofs.Filled.{Ascend}
use Rattle.rb_tree.proofs.table.ascend.Given as goal

abbrev pub invariant-loop-i : goal.invariant-loop-i
invariant-loop-i l = Ascend l.pairs l.i
