use Rattle.std.proofs.Common.{rules}
use Rattle.rb_tree.proofs.Filled.{ascend_more, ascends}
use Rattle.rb_tree.proofs.table.ascend.Goals as goal

pub loop-i-preserved : goal.loop-i-preserved
loop-i-preserved c = ascend_more c.args.pairs.now c.loop-i.i c.index-pairs-i.result c.index-pairs-i-in-loop-i.result c.loop-i.invariant
    (search rules) (search rules) (search rules) (search rules) (search rules)

pub returns : goal.returns
returns c = λ _. ascends c.args.pairs.now c.loop-i.i c.loop-i.invariant (search rules)
