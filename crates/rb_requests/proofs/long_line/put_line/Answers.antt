use Rattle.std.proofs.Common.{[], rules, subst, append-nil}
use Rattle.rb_requests.specs.inner.LongLines.{long_line}
use Rattle.rb_requests.specs.inner.Putting.{Broke, writer_of}
use Rattle.rb_requests.proofs.Putting.{PutSoFar, at_start}
use Rattle.rb_requests.proofs.long_line.put_line.Goals as goal

-- the stream was all that held the sink
pub returns-clause-put : goal.returns-clause-put
returns-clause-put g c =
    let before = writer_of g.S.Sink c.args.sink.now in
    let line = long_line c.args.line in
    let begun = c.put.ensures.2 before [] (rw c.in_ok-held.ensures.items (at_start before)) in
    subst (λ sink. PutSoFar before (writer_of g.S.Sink sink) [] line) (search rules)
    (rw (c.if-stream.false, c.pass_on.ensures.empty, append-nil line) at (c.pass_on.ensures.takes before line begun))

pub returns-then-stream-clause-put : goal.returns-then-stream-clause-put
returns-then-stream-clause-put g c =
    let before = writer_of g.S.Sink c.args.sink.now in
    let line = long_line c.args.line in
    let begun = c.put.ensures.2 before [] (rw c.in_ok-held.ensures.items (at_start before)) in
    subst (λ sink. Broke before (writer_of g.S.Sink sink) line) (search rules)
    (rw (c.if-stream.true, append-nil line) at (c.pass_on.ensures.takes before line begun))
