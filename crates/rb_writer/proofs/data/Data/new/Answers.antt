use Rattle.std.proofs.Common.{rules, length, arith, ◌≡◌, ◌+◌, ◌*◌}
use Rattle.std.proofs.lemmas.List.{length-drop}
use Rattle.rb_writer.proofs.data.Data.new.Goals as goal

pub returns : goal.returns
returns c =
    let n : length c.extend_from_slice.new.self.items ≡ 32 + 4 * (1 + c.args.indexes) = search rules in
    omega (arith, n, length-drop 32 c.extend_from_slice.new.self.items)
