use Rattle.std.proofs.Common.{[], Some, rules, subst, append-nil}
use Rattle.rb_fallback.specs.Answers.{hit_of}
use Rattle.rb_engine.specs.Answer.{Finds}
use Rattle.rb_replies.specs.Replied.{reply_line}
use Rattle.rb_views.specs.Seen.{tree_seen}
use Rattle.rb_requests.specs.inner.Putting.{Broke, writer_of}
use Rattle.rb_requests.proofs.Putting.{PutSoFar, at_start}
use Rattle.rb_requests.proofs.stream.put_found.Goals as goal

-- the stream was all that held the sink
pub returns-else-failed-clause-put : goal.returns-else-failed-clause-put
returns-else-failed-clause-put g c =
    let before = writer_of g.S.Sink c.args.sink.now in
    let found = c.args.found.now in
    let line = reply_line (Some (Finds (hit_of tree_seen found) found.valid)) in
    let begun = c.put_found_line.ensures.2 before [] (rw (c.in_ok-reserve.ensures.items, c.take_memory-held.ensures) (at_start before)) in
    subst (λ sink. PutSoFar before (writer_of g.S.Sink sink) [] line) (search rules)
    (rw (c.if-failed.false, c.pass_on.ensures.empty, append-nil line) at (c.pass_on.ensures.takes before line begun))

pub returns-then-failed-clause-put : goal.returns-then-failed-clause-put
returns-then-failed-clause-put g c =
    let before = writer_of g.S.Sink c.args.sink.now in
    let found = c.args.found.now in
    let line = reply_line (Some (Finds (hit_of tree_seen found) found.valid)) in
    let begun = c.put_found_line.ensures.2 before [] (rw (c.in_ok-reserve.ensures.items, c.take_memory-held.ensures) (at_start before)) in
    subst (λ sink. Broke before (writer_of g.S.Sink sink) line) (search rules)
    (rw (c.if-failed.true, append-nil line) at (c.pass_on.ensures.takes before line begun))
