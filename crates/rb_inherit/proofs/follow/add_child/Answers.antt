use Rattle.std.proofs.Common.{◌∙◌, length, refl, sym}
use Rattle.rb_inherit.proofs.Earliest.{item_adds, long_adds, ok_alias_adds, ok_table_adds}
use Rattle.rb_inherit.proofs.follow.add_child.Goals as goal

pub returns-then-is_long-clause-adds : goal.returns-then-is_long-clause-adds
returns-then-is_long-clause-adds g c =
    long_adds g.T.N.Node.tree (length c.args.place.now.keys.items) c.args.node c.args.level c.args.found c.args.place.now.layers.items c.with_error.result
    (sym c.is_long.ensures ∙ c.if-is_long.true) c.requires c.with_error.ensures.is

pub returns-in-Table-clause-adds : goal.returns-in-Table-clause-adds
returns-in-Table-clause-adds g c =
    ok_table_adds g.T.N.Node.tree (length c.args.place.now.keys.items) c.args.node c.args.level c.args.found c.args.place.now.layers.items c.add_table.result
    c.add_table.new.self.layers.items (sym c.is_long.ensures ∙ c.if-is_long.false) (sym c.kind.ensures ∙ c.in-Table.is) c.requires c.add_table.ensures.is c.add_table.ensures.layers

pub returns-in-Alias-clause-adds : goal.returns-in-Alias-clause-adds
returns-in-Alias-clause-adds g c =
    ok_alias_adds g.T.N.Node.tree (length c.args.place.now.keys.items) c.args.node c.args.level c.args.found c.args.place.now.layers.items c.add_after.result
    c.add_after.new.place.layers.items (sym c.is_long.ensures ∙ c.if-is_long.false) (sym c.kind.ensures ∙ c.in-Alias.is) c.requires
    c.add_after.ensures.stays c.add_after.ensures.closed c.add_after.ensures.layers c.add_after.ensures.refuses

pub returns-in_default : goal.returns-in_default
returns-in_default g c = record {
  adds = item_adds g.T.N.Node.tree (length c.args.place.now.keys.items) c.args.node c.args.level c.args.found c.args.place.now.layers.items c.with_item.result
      (sym c.is_long.ensures ∙ c.if-is_long.false) (λ h. c.in_default.not-Table (c.kind.ensures ∙ h)) (λ h. c.in_default.not-Alias (c.kind.ensures ∙ h)) c.requires
      c.with_item.ensures.is;
  keys = refl;
}
