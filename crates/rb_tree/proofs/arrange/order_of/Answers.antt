use Rattle.std.proofs.Common.{rules}
use Rattle.rb_tree.proofs.Arranging.{order_is}
use Rattle.rb_tree.proofs.arrange.order_of.Goals as goal

pub returns : goal.returns
returns c = order_is _ c.in_ok-keys.keys.items c.sort_unstable.new.self.items _ c.in_ok-keys.ensures c.sort_unstable.ensures.permutation (search rules) (search rules)
