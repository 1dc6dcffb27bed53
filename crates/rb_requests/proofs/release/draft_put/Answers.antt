use Rattle.rb_engine.specs.Source.{payload_of}
use Rattle.rb_requests.proofs.Releasing.{put_drafts, unread_drafts}
use Rattle.rb_requests.proofs.release.draft_put.Goals as goal

pub returns-in-Ok-clause-edits : goal.returns-in-Ok-clause-edits
returns-in-Ok-clause-edits c =
    let read = c.in-Ok.ensures in
    put_drafts c.args.limits.now c.args.app.now c.args.locale.now (payload_of c.args.source) c.in-Ok.incoming c.args.draft.now
    c.add_incoming.new.draft c.add_incoming.result read.0 read.1 read.2 c.add_incoming.ensures.added c.add_incoming.ensures.refused

pub returns-in-Err-clause-edits : goal.returns-in-Err-clause-edits
returns-in-Err-clause-edits c =
    unread_drafts c.args.limits.now c.args.app.now c.args.locale.now (payload_of c.args.source) c.args.draft.now c.args.draft.now c.in-Err.unmade
    c.in-Err.ensures
