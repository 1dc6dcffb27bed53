use Rattle.std.proofs.Common.{rules, ◌/◌}
use Rattle.rb_writer.proofs.Values.{units_put}
use Rattle.rb_writer.proofs.leaves.write_units.Goals as goal

pub returns-clause-put : goal.returns-clause-put
returns-clause-put c = λ area d. units_put area c.args.out.now c.put_word.new.out c.put_halves.new.out c.put_half.new.out c.pad.new.out c.args.text.now
    (c.len-offset.result / 4) d (search rules) c.in_ok-put_word.ensures c.in_ok-put_halves.ensures c.in_ok-put_half.ensures c.in_ok-pad.ensures.adds
    c.in_ok-pad.ensures.whole c.in_ok-pad.ensures.little c.requires.room
