use Rattle.rb_writer.specs.inner.Growth.{PutsNumbers}
use Rattle.rb_writer.proofs.put.put_numbers.Given as goal

abbrev pub invariant-loop-number : goal.invariant-loop-number
invariant-loop-number l = PutsNumbers l.fn.out l.out l.numbers l.number-index
