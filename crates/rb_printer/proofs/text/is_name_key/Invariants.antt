use Rattle.std.proofs.Common.{◌≡◌, true, take}
use Rattle.std.specs.List.{list_all}
use Rattle.rb_printer.specs.Sign.{is_name_unit}
use Rattle.rb_printer.proofs.text.is_name_key.Given as goal

abbrev pub invariant-loop-byte : goal.invariant-loop-byte
invariant-loop-byte l = list_all is_name_unit (take l.byte-index l.key) ≡ true
