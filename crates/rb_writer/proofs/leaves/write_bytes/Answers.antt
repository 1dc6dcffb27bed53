use Rattle.std.proofs.Common.{rules, ◌/◌, length}
use Rattle.rb_writer.proofs.Values.{bytes_put}
use Rattle.rb_writer.proofs.Laying.{bytes_laid, cut_padding}
use Rattle.rb_writer.proofs.leaves.write_bytes.Goals as goal

pub returns-clause-put : goal.returns-clause-put
returns-clause-put c = λ area d. let skip = c.in_ok-put_bytes.ensures in bytes_put area c.args.out.now c.put_bytes.new.out c.put_word.new.out
    c.put_bytes-2.new.out c.pad.new.out c.args.binary.now _ (c.len-offset.result / 4) d skip (search rules) (search rules)
    (let n = skip.len in search rules) c.in_ok-put_word.ensures c.in_ok-put_bytes-2.ensures c.in_ok-pad.ensures.adds c.in_ok-pad.ensures.whole
    c.in_ok-pad.ensures.little c.requires.room

pub returns-clause-bytes : goal.returns-clause-bytes
returns-clause-bytes c =
    bytes_laid c.args.out.now c.put_bytes.new.out c.put_word.new.out c.put_bytes-2.new.out c.pad.new.out c.args.binary.now _ (c.len-offset.result / 4)
    (search rules) c.requires.whole (search rules) c.in_ok-put_bytes.ensures
    (cut_padding (length c.args.out.now) c.len.result c.requires.whole (search rules)) c.in_ok-put_word.ensures c.in_ok-put_bytes-2.ensures c.in_ok-pad.ensures.bytes
