use Rattle.std.proofs.Common.{◌≡◌, take}
use Rattle.resb.specs.Lists.{zero_ended}
use Rattle.resb.proofs.lists.joined.Given as goal

abbrev pub invariant-loop-i : goal.invariant-loop-i
invariant-loop-i l = l.out.items ≡ zero_ended (take l.i l.names)
