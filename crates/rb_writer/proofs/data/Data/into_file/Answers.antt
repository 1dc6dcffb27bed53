use Rattle.std.proofs.Common.{ap, length, arith}
use Rattle.std.proofs.lemmas.List.{length-drop}
use Rattle.rb_writer.proofs.data.Data.into_file.Goals as goal

pub returns-clause-len : goal.returns-clause-len
returns-clause-len c = let h = c.self.invariant in omega (arith, ap length c.self.view_is, length-drop 32 c.self.inside.file.items)
