use Rattle.rb_inherit.proofs.Shown.{all_shown}
use Rattle.rb_inherit.proofs.laws.a_tree_has_each_leaf.Goals as goal

pub returns : goal.returns
returns c = all_shown
