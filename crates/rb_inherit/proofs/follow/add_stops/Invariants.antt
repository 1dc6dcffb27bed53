use Rattle.std.proofs.Common.{◌≡◌, length}
use Rattle.rb_inherit.specs.inner.AtPath.{CanAsk, path_in}
use Rattle.rb_inherit.specs.inner.Earlier.{Grows, Stays}
use Rattle.rb_inherit.specs.inner.Paths.{steps_of}
use Rattle.rb_inherit.proofs.AtPath.{Asked}
use Rattle.rb_inherit.proofs.follow.add_stops.Given as goal

abbrev pub invariant-loop-i : goal.invariant-loop-i
invariant-loop-i g l = record {
  stays : Stays l.fn.before l.found;
  layers : Grows l.fn.place.layers.items l.place.layers.items;
  rest : l.place ≡ record l.fn.place { layers = l.place.layers };
  asked : CanAsk (length l.fn.place.keys.items) l.fn.place.paths.items l.level l.fn.before
      → Asked g.N.Node.tree (length l.fn.place.keys.items) l.level.keys_most (steps_of (path_in l.fn.place.paths.items l.level))
      l.fn.place.trail.roots.items l.fn.before l.fn.place.layers.items l.i l.found l.is_missing l.place.layers.items;
}
