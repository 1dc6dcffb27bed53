use Rattle.std.proofs.Common.{◌≤◌, ◌<◌, ◌∙◌, ℕ, List, Some, ap, arith}
use Rattle.rb_requests.specs.Refused.{only}
use Rattle.rb_requests.proofs.Releasing.{full_at, not_full_at}
use Rattle.rb_requests.proofs.release.draft_at.Goals as goal

pub returns-in-Err-clause-edits : goal.returns-in-Err-clause-edits
returns-in-Err-clause-edits c change e =
    let below : c.args.index < 4096 = omega arith in
    not_full_at c.args.limits.now c.args.app.now c.args.draft.now c.args.index change c.in-Err.unmade c.at-in-Err.result below (c.in-Err.ensures.edits change e)
    c.at-in-Err.ensures

pub returns-then-index-ge-BUNDLE_LIMIT-clause-edits : goal.returns-then-index-ge-BUNDLE_LIMIT-clause-edits
returns-then-index-ge-BUNDLE_LIMIT-clause-edits c change e =
    let above : 4096 ≤ c.args.index = omega arith in
    full_at c.args.limits.now c.args.app.now c.args.draft.now c.args.index change c.plain.result c.at.result above
    (c.plain.ensures ∙ ap (λ (word : List ℕ). Some (only word)) c.word.ensures) c.at.ensures
