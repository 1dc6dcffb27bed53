use Rattle.std.proofs.Common.{length}
use Rattle.rb_requests.proofs.Putting.{PutSoFar, writer}
use Rattle.rb_requests.proofs.lines.put_all.Given as goal

abbrev pub invariant-loop-rest : goal.invariant-loop-rest
invariant-loop-rest g l =
    PutSoFar (writer (g.S.Sink.written l.fn.sink) (g.S.Sink.faults l.fn.sink) (g.S.Sink.settled l.fn.sink))
    (writer (g.S.Sink.written l.sink) (g.S.Sink.faults l.sink) (g.S.Sink.settled l.sink)) l.rest l.bytes

abbrev pub decreases-loop-rest : goal.decreases-loop-rest
decreases-loop-rest g l = length l.rest
