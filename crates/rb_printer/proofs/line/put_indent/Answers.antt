use Rattle.std.proofs.Common.{arith}
use Rattle.rb_printer.proofs.Loops.{indent_put}
use Rattle.rb_printer.proofs.line.put_indent.Goals as goal

pub loop-left-preserved : goal.loop-left-preserved
loop-left-preserved c = indent_put _ _ _ _ c.loop-left.left c.min-levels.result 64 c.loop-left.invariant (omega arith) (omega arith) c.in_ok-extend_from_slice.ensures.items
