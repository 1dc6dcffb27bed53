use Rattle.std.proofs.Common.{ap, sym, ◌∙◌, length, drop}
use Rattle.rb_writer.proofs.Patches.{joined}
use Rattle.rb_writer.proofs.file.set_front.Goals as goal

pub copy_from_slice-requires : goal.copy_from_slice-requires
copy_from_slice-requires c = c.split_at_mut-front.ensures.front_len ∙ sym (ap length c.header.ensures)

pub returns : goal.returns
returns c = joined c.args.no_fallback (drop 32 c.args.file.now) c.copy_from_slice.new.self c.set_indexes.new.body c.args.root c.args.area c.args.longest
    (c.copy_from_slice.ensures.after ∙ c.header.ensures) (rw c.split_at_mut-front.ensures.back at c.set_indexes.ensures)
