use Rattle.std.proofs.Common.{◌≡◌, ◌≤◌, take, length, min, arith}
use Rattle.std.proofs.lemmas.List.{take-take, length-take}
use Rattle.rb_requests.proofs.Putting.{writer, put_more}
use Rattle.rb_requests.proofs.lines.put_all.Goals as goal

pub loop-rest-preserved : goal.loop-rest-preserved
loop-rest-preserved g c =
    let sink = c.put.new.self in
    let then = writer (g.S.Sink.written sink) (g.S.Sink.faults sink) (g.S.Sink.settled sink) in
    let put = c.in-Ok.ensures in
    let rest = c.loop-rest.rest.now in
    let n = c.in-Ok.taken in
    let size = min (length rest) 65536 in
    let within : n ≤ size = omega (arith, rw c.piece.ensures at put.most, length-take size rest) in
    let same : take n (take size rest) ≡ take n rest = take-take n size rest within in
    rw c.after-rest.ensures (put_more _ _ then _ _ n c.loop-rest.invariant (rw (c.piece.ensures, same) at put.bytes) put.count put.settled)
