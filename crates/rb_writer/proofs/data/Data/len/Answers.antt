use Rattle.std.proofs.Common.{rules, ap, length, arith, ◌≡◌}
use Rattle.std.proofs.lemmas.List.{length-drop}
use Rattle.rb_writer.proofs.data.Data.len.Goals as goal

pub returns : goal.returns
returns c =
    let n : c.len.result ≡ length c.self.inside.file.items = search rules in
    omega (arith, n, ap length c.self.view_is, length-drop 32 c.self.inside.file.items)
