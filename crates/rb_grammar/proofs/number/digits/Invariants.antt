use Rattle.std.proofs.Common.{◌≡◌, min, take}
use Rattle.std.specs.Str.Parse.{digits_value, AllDigits}
use Rattle.rb_grammar.specs.declared.number.TheConstants.{CEILING}
use Rattle.rb_grammar.proofs.number.digits.Given as goal

abbrev pub invariant-loop-unit : goal.invariant-loop-unit
invariant-loop-unit l = AllDigits l.radix (take l.unit-index l.units) × (l.value ≡ min (digits_value l.radix (take l.unit-index l.units)) CEILING)
