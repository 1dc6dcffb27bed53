use Rattle.std.proofs.Common.{◌≡◌, ◌≤◌, ◌-◌, ℕ, List, length}
use Rattle.rb_parents.specs.Family.{parent_of}
use Rattle.rb_parents.specs.Trail.{trail, trail_within}
use Rattle.rb_parents.specs.declared.limits.TheConstants.{TRAIL_LIMIT}
use Rattle.rb_parents.proofs.Trails.{all_begin}
use Rattle.rb_fallback.proofs.SameStops.{from_stop}
use Rattle.rb_packages.specs.Lent.{bundles_lent, files_in}
use Rattle.rb_engine.specs.inner.Opening.{HasStops}
use Rattle.rb_engine.proofs.open_locale.read_stops.Given as goal

abbrev pub invariant-loop-i : goal.invariant-loop-i
invariant-loop-i l =
    let bundles = bundles_lent l.own in
    (ns : List (List ℕ))
    × (all_begin ns (trail_within (TRAIL_LIMIT - l.i) bundles (parent_of l.parents) l.here) ≡ trail bundles (parent_of l.parents) l.name)
    × HasStops l.opened (files_in l.own) ns
    × (length ns ≡ l.i)
    × (l.opened.count ≤ l.i)
    × (l.opened.version ≡ l.version)
    × (l.opened.from_valid ≡ length (from_stop bundles ns))
