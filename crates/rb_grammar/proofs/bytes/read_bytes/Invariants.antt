use Rattle.std.proofs.Common.{take}
use Rattle.rb_grammar.proofs.HexBytes.{SoFar}
use Rattle.rb_grammar.proofs.bytes.read_bytes.Given as goal

abbrev pub invariant-loop-unit : goal.invariant-loop-unit
invariant-loop-unit l = SoFar (take l.unit-index l.units) l.bytes.items l.first_digit
