use Rattle.std.proofs.Common.{◌≡◌, ◌∙◌, length, refl, arith}
use Rattle.rb_requests.proofs.Releasing.{edits_all, push_or, refuse_or, seen_count}
use Rattle.rb_requests.proofs.release.draft_all.Goals as goal

pub loop-i-init : goal.loop-i-init
loop-i-init c = (refl, omega arith, λ files cs e none is. (rw none tt, is))

pub loop-i-preserved : goal.loop-i-preserved
loop-i-preserved c = (
  c.draft_at.ensures.app ∙ c.loop-i.invariant.0,
  omega (arith, c.in-Ok.ensures.few),
  λ files cs e none is. push_or c.args.limits.now c.args.app.now files c.args.changes.now cs c.loop-i.i _ c.loop-i.draft c.draft_at.new.draft e
      c.loop-i-test.true (c.loop-i.invariant.2 files cs e none is) c.in-Ok.ensures.edits,
)

pub returns-in-Err-clause-edits : goal.returns-in-Err-clause-edits
returns-in-Err-clause-edits c files cs e none is =
    refuse_or c.args.limits.now c.args.app.now files c.args.changes.now cs c.loop-i.i _ c.loop-i.draft c.in-Err.unmade e c.loop-i-test.true
    (c.loop-i.invariant.2 files cs e none is) c.in-Err.ensures.edits

pub returns-clause-edits : goal.returns-clause-edits
returns-clause-edits c files cs e none is =
    let all : c.loop-i.i ≡ length c.args.changes.now = omega arith in
    let count = seen_count c.args.changes.now cs e in
    let so_far = rw all at c.loop-i.invariant.2 files cs e none is in (
      edits_all c.args.limits.now c.args.app.now files c.args.changes.now cs _ e so_far.0,
      so_far.1,
      omega (arith, count),
    )
