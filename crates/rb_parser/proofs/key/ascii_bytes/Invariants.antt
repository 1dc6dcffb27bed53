use Rattle.std.proofs.Common.{◌≡◌, take}
use Rattle.rb_parser.proofs.key.ascii_bytes.Given as goal

abbrev pub invariant-loop-unit : goal.invariant-loop-unit
invariant-loop-unit l = l.bytes.items ≡ take l.unit-index l.units
