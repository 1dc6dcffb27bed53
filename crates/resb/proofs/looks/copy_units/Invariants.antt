use Rattle.std.proofs.Common.{◌≡◌, take}
use Rattle.rb_views.specs.Seen.{units_seen}
use Rattle.resb.proofs.looks.copy_units.Given as goal

abbrev pub invariant-loop-i : goal.invariant-loop-i
invariant-loop-i l = take l.i l.out ≡ take l.i (units_seen l.units)
