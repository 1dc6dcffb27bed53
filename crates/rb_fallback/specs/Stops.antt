-- Defines the stops of a name's trail (locale inheritance of UTS #35), each with the tree of its bundle, by their
-- indices.
use Rattle.std.specs.Prelude.{◌≡◌, ℕ, List, IfSome, Option, option_and_then, option_map}
use Rattle.std.specs.List.{slice_get}
use Rattle.rb_tree.specs.Resource.{Resource}
use Rattle.rb_parents.specs.Trail.{Bundles, ParentsOf, names, stop_tree, stops, trail}
use Rattle.rb_fallback.specs.Search.{first_stop}
use Rattle.rb_fallback.specs.Steps.{trail_length}
use Rattle.rb_fallback.specs.declared.steps.TrailNames.{TrailNames}

-- a stop with the tree of its bundle
abbrev pub with_tree : Bundles → List ℕ → Option (List ℕ × Resource)
with_tree bundles n = option_map (λ t. (n, t)) (stop_tree (bundles n))

-- the stop at an index among those of the names of a trail
abbrev pub stop_among : Bundles → List (List ℕ) → ℕ → Option (List ℕ × Resource)
stop_among bundles ns i = option_and_then (with_tree bundles) (slice_get (stops bundles ns) i)

-- a name has a trail, and `stop` gives the stops of that trail
pub record AreStopsOf (stop : ℕ → Option (List ℕ × Resource)) (bundles : Bundles) (parents : ParentsOf) (n : List ℕ)
    : Type 0 where
  pub ns : List (List ℕ)
  pub trail : trail bundles parents n ≡ names ns
  pub stops : (i : ℕ) → stop i ≡ stop_among bundles ns i

-- these are the numbers of names of a name's trail, and of the trail of its first stop, which is the end of that one
pub record CountsTrail (counts : TrailNames) (bundles : Bundles) (parents : ParentsOf) (n : List ℕ) : Type 0 where
  pub all : counts.all ≡ trail_length (trail bundles parents n)
  pub from_valid : IfSome (first_stop bundles parents n)
      (λ v. counts.from_valid ≡ trail_length (trail bundles parents v))
