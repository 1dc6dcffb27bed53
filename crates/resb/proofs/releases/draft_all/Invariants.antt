use Rattle.resb.proofs.Releasing.{SoFar}
use Rattle.resb.proofs.releases.draft_all.Given as goal

abbrev pub invariant-loop-i : goal.invariant-loop-i
invariant-loop-i l = SoFar l.fn.draft l.fn.edits l.i l.draft l.edits
