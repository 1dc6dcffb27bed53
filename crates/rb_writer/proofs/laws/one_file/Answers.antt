use Rattle.rb_writer.proofs.Sole.{one_file}
use Rattle.rb_writer.proofs.laws.one_file.Goals as goal

pub returns : goal.returns
returns c = one_file
