use Rattle.rb_requests.proofs.Putting.{writer, passed, broken}
use Rattle.rb_requests.proofs.stream.pass.Goals as goal

pub returns-in-Ok : goal.returns-in-Ok
returns-in-Ok g c =
    let sink = c.put_all.new.sink in
    let then = writer (g.S.Sink.written sink) (g.S.Sink.faults sink) (g.S.Sink.settled sink) in
    let put = c.in-Ok.ensures in
    λ before text h. passed before _ then c.args.bytes.now text (rw c.if-failed.false at h) put.bytes put.count put.settled

pub returns-in-Err : goal.returns-in-Err
returns-in-Err g c =
    let sink = c.put_all.new.sink in
    let then = writer (g.S.Sink.written sink) (g.S.Sink.faults sink) (g.S.Sink.settled sink) in
    let put = c.in-Err.ensures in
    λ before text h. broken before _ then c.args.bytes.now text (rw c.if-failed.false at h) put.fault put.count put.settled
