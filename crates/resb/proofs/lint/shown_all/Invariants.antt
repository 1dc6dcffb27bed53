use Rattle.std.proofs.Common.{take}
use Rattle.std.specs.List.{AllZip}
use Rattle.resb.specs.Lint.{Shows}
use Rattle.resb.proofs.lint.shown_all.Given as goal

abbrev pub invariant-loop-finding : goal.invariant-loop-finding
invariant-loop-finding l = AllZip Shows (take l.finding-index l.report.findings.items) l.all.items
