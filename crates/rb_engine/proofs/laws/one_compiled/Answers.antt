use Rattle.rb_engine.proofs.OneFile.{one_compiled}
use Rattle.rb_engine.proofs.laws.one_compiled.Goals as goal

pub returns : goal.returns
returns c = one_compiled
