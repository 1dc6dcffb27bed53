use Rattle.rb_writer.specs.inner.Growth.{PutsHalves}
use Rattle.rb_writer.proofs.put.put_halves.Given as goal

abbrev pub invariant-loop-half : goal.invariant-loop-half
invariant-loop-half l = PutsHalves l.fn.out l.out l.halves l.half-index
