use Rattle.std.proofs.Common.{◌≡◌, ◌++◌, map}
use Rattle.std.specs.Prelude.{string_bytes}
use Rattle.resb.specs.Lists.{zero_ended}
use Rattle.resb.proofs.alias_targets.joined.Given as goal

abbrev pub invariant-loop-name : goal.invariant-loop-name
invariant-loop-name l = l.out.items ++ zero_ended (map string_bytes l.name-iterator) ≡ zero_ended (map string_bytes l.names.keys)
