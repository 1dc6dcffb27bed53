use Rattle.std.proofs.Common.{◌∙◌, length, refl, sym}
use Rattle.rb_inherit.proofs.Earliest.{grows_itself, item_adds, ok_table_adds}
use Rattle.rb_inherit.proofs.place.Place.add.Goals as goal

pub returns-in-Table-clause-adds : goal.returns-in-Table-clause-adds
returns-in-Table-clause-adds g c = λ x.
    ok_table_adds g.N.Node.tree (length c.args.self.now.keys.items) c.args.node c.args.level c.args.found c.args.self.now.layers.items c.add_table.result
    c.add_table.new.self.layers.items x.is.short (sym c.kind.ensures ∙ c.in-Table.is) x.is.is_open c.add_table.ensures.is c.add_table.ensures.layers

pub returns-in_default : goal.returns-in_default
returns-in_default g c = record {
  stays = c.with_item.ensures.stays;
  layers = grows_itself c.args.self.now.layers.items;
  keys = refl;
  rest = refl;
  adds = λ x.
      item_adds g.N.Node.tree (length c.args.self.now.keys.items) c.args.node c.args.level c.args.found c.args.self.now.layers.items c.with_item.result
      x.is.short (λ h. c.in_default.not-Table (c.kind.ensures ∙ h)) x.no_alias x.is.is_open c.with_item.ensures.is;
}
