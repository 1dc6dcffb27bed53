use Rattle.std.proofs.Common.{take}
use Rattle.resb.specs.Start.{AreEntries}
use Rattle.resb.proofs.start.entries_of.Given as goal

abbrev pub invariant-loop-i : goal.invariant-loop-i
invariant-loop-i l = AreEntries (take l.i l.given) l.entries.items
