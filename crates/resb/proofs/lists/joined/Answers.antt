use Rattle.std.proofs.Common.{◌∙◌, ◌<◌, length, arith}
use Rattle.resb.proofs.ZeroEnded.{one_more}
use Rattle.resb.proofs.lists.joined.Goals as goal

pub loop-i-preserved : goal.loop-i-preserved
loop-i-preserved c =
    let names = c.args.names.now in
    let inside : c.loop-i.i < length names = omega arith in
    one_more c.loop-i.out.items c.extend_from_slice.new.self.items c.push.new.self.items names c.loop-i.i c.index-names-i.result c.as_bytes.result.now
    c.loop-i.invariant c.in_ok-extend_from_slice.ensures.items c.in_ok-push.ensures.items inside (c.as_bytes.ensures.bytes ∙ c.index-names-i.is)
