use Rattle.std.proofs.Common.{◌≡◌, ℕ, List, drop}
use Rattle.rb_tree.specs.Path.{segments}
use Rattle.rb_parents.specs.Trail.{Bundles, stops}
use Rattle.rb_fallback.specs.Search.{decide}
use Rattle.rb_fallback.specs.Stops.{stop_among}
use Rattle.rb_fallback.proofs.stops.first_ending.Given as goal

abbrev pub invariant-loop-i : goal.invariant-loop-i
invariant-loop-i g l =
    (b : Bundles) (ns : List (List ℕ)) → ((i : ℕ) → g.T.Stops.stop l.given i ≡ stop_among b ns i)
    → decide b (stops b ns) (segments l.path) ≡ decide b (drop l.i (stops b ns)) (segments l.path)
