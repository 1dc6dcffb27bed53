use Rattle.rb_tree.proofs.Arranging.{Taken}
use Rattle.rb_tree.proofs.arrange.arranged.Given as goal

abbrev pub invariant-loop-index : goal.invariant-loop-index
invariant-loop-index l = Taken l.fn.pairs.items l.order l.pairs.items l.entries.items l.index-index
