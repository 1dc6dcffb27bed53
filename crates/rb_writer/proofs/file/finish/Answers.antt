use Rattle.std.proofs.Common.{ap, arith, length}
use Rattle.rb_writer.proofs.Patches.{written_over}
use Rattle.rb_writer.proofs.file.finish.Goals as goal

pub returns : goal.returns
returns c =
    let len = c.into_file-file.ensures.len in
    written_over c.args.no_fallback c.args.out c.args.root c.args.area c.args.longest c.into_file-file.result.len c.set_front.new.file
    c.into_file-file.result.items (rw c.deref_mut.ensures.value at c.set_front.ensures) c.into_file-file.ensures.body (omega arith)
    (omega (arith, c.deref_mut.ensures.len, ap length c.deref_mut.ensures.value))
