use Rattle.std.proofs.Common.{refl}
use Rattle.rb_inherit.proofs.place.Place.add_table.Goals as goal

pub returns-in-Ok-clause-layers : goal.returns-in-Ok-clause-layers
returns-in-Ok-clause-layers g c = record {
  layer = c.of.result;
  layers = c.in-Ok.ensures.items;
  is = rw (c.of.ensures.node, c.of.ensures.at, c.of.ensures.level) refl;
}
