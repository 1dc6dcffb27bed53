use Rattle.std.proofs.Common.{rules, ◌/◌}
use Rattle.rb_writer.proofs.Values.{numbers_put}
use Rattle.rb_writer.proofs.leaves.write_numbers.Goals as goal

pub returns-clause-put : goal.returns-clause-put
returns-clause-put c = λ area d. numbers_put area c.args.out.now c.put_word.new.out c.put_numbers.new.out c.args.numbers.now (c.len-offset.result / 4) d
    (search rules) c.in_ok-put_word.ensures c.in_ok-put_numbers.ensures c.requires.room
