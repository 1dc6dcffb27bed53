use Rattle.rb_inherit.proofs.OneTree.{one_tree}
use Rattle.rb_inherit.proofs.laws.there_is_one_tree.Goals as goal

pub returns : goal.returns
returns c = one_tree
