use Rattle.std.proofs.Common.{rules, arith, ◌+◌, ◌*◌, ◌-◌}
use Rattle.rb_writer.proofs.Patches.{sets_word}
use Rattle.rb_writer.proofs.file.set_word.Goals as goal

pub returns : goal.returns
returns c = sets_word c.args.bytes.now c.args.i c.args.word c.copy_from_slice.new.self (4 * c.args.i + 4 - 4 * c.args.i) (search rules)
    (omega arith) c.requires (search rules)
