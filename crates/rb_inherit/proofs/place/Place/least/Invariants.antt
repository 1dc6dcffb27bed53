use Rattle.rb_inherit.specs.inner.Merging.{IsLeast, key_in}
use Rattle.rb_inherit.proofs.place.Place.least.Given as goal

abbrev pub invariant-loop-i : goal.invariant-loop-i
invariant-loop-i g l = IsLeast (key_in g.N.Node.tree l.self.layers.items) l.from l.i l.least
