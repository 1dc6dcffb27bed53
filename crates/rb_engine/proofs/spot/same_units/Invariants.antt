use Rattle.std.proofs.Common.{◌≡◌, ◌<◌, ℕ}
use Rattle.std.specs.List.{slice_get}
use Rattle.rb_views.specs.Seen.{units_seen}
use Rattle.rb_engine.proofs.spot.same_units.Given as goal

abbrev pub invariant-loop-i : goal.invariant-loop-i
invariant-loop-i l = (j : ℕ) → j < l.i → slice_get (units_seen l.fn.a) j ≡ slice_get (units_seen l.fn.b) j
