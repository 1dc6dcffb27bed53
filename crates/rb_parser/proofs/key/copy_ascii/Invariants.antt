use Rattle.std.proofs.Common.{◌≡◌, take}
use Rattle.rb_parser.proofs.key.copy_ascii.Given as goal

abbrev pub invariant-loop-i : goal.invariant-loop-i
invariant-loop-i l = take l.i l.bytes ≡ take l.i l.units
