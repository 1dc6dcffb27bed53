use Rattle.resb.proofs.icu.resb_check_for_icu.Goals as goal
use Rattle.resb.proofs.icu.resb_check_for_icu.Goals.{in-Ok, in-Err}

pub returns : goal.returns
returns c =
    elim c.match-checked_for_icu.branch [
      | in-Ok w ↦ rw w.result-is w.in-Ok.ensures.good
      | in-Err w ↦ rw w.result-is w.in-Err.ensures.bad
    ]
