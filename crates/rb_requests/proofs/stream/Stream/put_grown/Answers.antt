use Rattle.std.proofs.Common.{◌++◌, [], append-nil}
use Rattle.rb_requests.proofs.Putting.{held_more}
use Rattle.rb_requests.proofs.stream.Stream.put_grown.Goals as goal

pub returns-clause-takes : goal.returns-clause-takes
returns-clause-takes g c =
    let first = c.if-hold.ensures in
    let second = c.if-hold-2.ensures in
    let bytes = c.args.bytes.now in
    let passed = rw (first.failed, first.sink, first.held) at c.pass_on.ensures.takes in
    let last = rw (second.failed, second.sink) at c.pass-self.ensures in
    λ before text h. rw (second.held, c.pass_on.ensures.empty)
    (last before (text ++ bytes) (held_more c.pass_on.new.self.failed before _ [] text bytes (rw (append-nil text, c.pass_on.ensures.empty) at (passed before text h))))
