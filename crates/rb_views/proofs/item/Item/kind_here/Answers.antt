use Rattle.std.proofs.Common.{sym, ◌∙◌}
use Rattle.rb_views.proofs.TreeKinds.{tree_kind}
use Rattle.rb_views.proofs.item.Item.kind_here.Goals as goal

pub returns : goal.returns
returns c = let s = c.args.self in c.kind_named.ensures ∙ sym (tree_kind s.body.now s.word c.item_kind.result s.stands c.item_kind.ensures)
