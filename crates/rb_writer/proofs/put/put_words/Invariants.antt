use Rattle.rb_writer.specs.inner.Growth.{PutsWords}
use Rattle.rb_writer.proofs.put.put_words.Given as goal

abbrev pub invariant-loop-word : goal.invariant-loop-word
invariant-loop-word l = PutsWords l.fn.out l.out l.words l.word-index
