use Rattle.std.proofs.Common.{sym, ◌∙◌}
use Rattle.rb_views.proofs.Contents.{int_there}
use Rattle.rb_views.proofs.node.ItemNode.int.Goals as goal

pub returns : goal.returns
returns c = let s = c.args.self in c.item_offset.ensures ∙ sym (int_there s.body.now s.word s.stands c.requires)
