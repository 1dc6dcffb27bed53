use Rattle.std.proofs.Common.{◌≡◌, ◌-◌, ℕ, List, length}
use Rattle.rb_parents.specs.Family.{parent_of}
use Rattle.rb_parents.specs.Trail.{trail, trail_within, stops}
use Rattle.rb_parents.specs.declared.limits.TheConstants.{TRAIL_LIMIT}
use Rattle.rb_parents.proofs.Trails.{all_begin}
use Rattle.rb_fallback.specs.inner.LevelResult.{IsLevelState}
use Rattle.rb_fallback.proofs.level.level.Given as goal

abbrev pub invariant-loop-i : goal.invariant-loop-i
invariant-loop-i g l =
    let bundles = g.S.Shelf.bundles l.shelf in
    (ns : List (List ℕ))
    × (all_begin ns (trail_within (TRAIL_LIMIT - l.i) bundles (parent_of l.parents) l.here) ≡ trail bundles (parent_of l.parents) l.name)
    × IsLevelState g.S.N.Node.tree bundles l.path l.state (stops bundles ns)
    × (length ns ≡ l.i)
    × (l.names ≡ 0)
