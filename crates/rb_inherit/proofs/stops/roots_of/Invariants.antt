use Rattle.std.proofs.Common.{◌≡◌, ℕ, List, Some, map, slice_get, take}
use Rattle.rb_inherit.specs.inner.Trails.{trees_in}
use Rattle.rb_inherit.proofs.stops.roots_of.Given as goal

abbrev pub invariant-loop-i : goal.invariant-loop-i
invariant-loop-i g l =
    (ns : List (List ℕ)) → map (slice_get l.route.names.items) l.route.stops.items ≡ map Some ns
    → map g.T.N.Node.tree l.roots.items ≡ trees_in (g.T.Stops.bundles l.shelves l.icudata) (take l.i ns)
