use Rattle.std.proofs.Common.{◌≡◌}
use Rattle.rb_requests.specs.Served.{at}
use Rattle.rb_requests.specs.Within.{longest_kept, longest_read}
use Rattle.rb_requests.specs.inner.Protocols.{LineReplyBy}
use Rattle.rb_requests.proofs.Serving.{ServedSoFar}
use Rattle.rb_requests.proofs.lines.serve_by.Given as goal

abbrev pub invariant-lines : goal.invariant-lines
invariant-lines g l =
    ServedSoFar (LineReplyBy l.protocol (longest_kept l.limits) l.limits) (longest_read l.limits)
    (at l.fn.engine (g.F.Feed.left l.fn.feed) (g.S.Sink.written l.fn.sink) (g.S.Sink.settled l.fn.sink))
    (at l.engine (g.F.Feed.left l.feed) (g.S.Sink.written l.sink) (g.S.Sink.settled l.sink)) l.lines
    × (g.F.Feed.faults l.feed ≡ g.F.Feed.faults l.fn.feed) × (g.S.Sink.faults l.sink ≡ g.S.Sink.faults l.fn.sink)
