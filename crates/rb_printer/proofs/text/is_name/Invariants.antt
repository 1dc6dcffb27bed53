use Rattle.std.proofs.Common.{◌≡◌, true, take}
use Rattle.std.specs.List.{list_all}
use Rattle.rb_printer.specs.Sign.{is_name_unit}
use Rattle.rb_printer.proofs.text.is_name.Given as goal

abbrev pub invariant-loop-unit : goal.invariant-loop-unit
invariant-loop-unit l = list_all is_name_unit (take l.unit-index l.units) ≡ true
