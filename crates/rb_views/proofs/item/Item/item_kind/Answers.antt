use Rattle.std.proofs.Common.{sym, ◌∙◌}
use Rattle.rb_views.proofs.Readings.{no_kind}
use Rattle.rb_views.proofs.item.Item.item_kind.Goals as goal

pub unreachable-requires : goal.unreachable-requires
unreachable-requires c = let s = c.args.self in no_kind s.body.now s.word s.stands (sym c.item_kind.ensures ∙ c.in-None.is)
