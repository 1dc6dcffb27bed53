use Rattle.std.proofs.Common.{rules, arith, sym, ◌∙◌}
use Rattle.rb_tree.proofs.Arranging.{rise_more}
use Rattle.rb_tree.proofs.arrange.rise.Goals as goal

pub loop-i-preserved : goal.loop-i-preserved
loop-i-preserved c = rise_more c.args.keys.now c.loop-i.i _ c.loop-i.invariant (search rules) (search rules) (sym c.cmp.ensures ∙ c.in-Less.is)

pub returns : goal.returns
returns c = λ _ k d h. c.loop-i.invariant k d (omega arith)
