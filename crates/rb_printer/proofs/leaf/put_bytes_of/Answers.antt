use Rattle.std.proofs.Common.{arith}
use Rattle.rb_tree.specs.Parts.{bytes_of}
use Rattle.rb_printer.proofs.Loops.{bytes_put, bytes_len}
use Rattle.rb_printer.proofs.leaf.put_bytes_of.Goals as goal

pub loop-i-preserved : goal.loop-i-preserved
loop-i-preserved g c =
    let tree = g.N.Node.tree c.args.node in
    bytes_put _ _ _ _ (bytes_of tree) c.args.level c.loop-i.remaining c.in_ok-remaining.remaining c.loop-i.i c.byte.result c.loop-i.invariant
    (omega (arith, bytes_len tree c.requires)) c.byte.ensures (omega arith) c.in_ok-remaining.ensures.remaining c.in_ok-remaining.ensures.adds c.in_ok-put_byte.ensures
