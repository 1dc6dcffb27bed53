use Rattle.std.proofs.Common.{rules}
use Rattle.rb_writer.proofs.Puts.{words_more}
use Rattle.rb_writer.proofs.put.put_words.Goals as goal

pub loop-word-preserved : goal.loop-word-preserved
loop-word-preserved c = words_more c.args.out.now c.loop-word.out c.put_word.new.out c.args.words.now _ c.loop-word.word-index c.loop-word.invariant
    c.in_ok-put_word.ensures (search rules) c.loop-word-test.true
