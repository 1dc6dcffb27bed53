use Rattle.std.proofs.Common.{arith}
use Rattle.rb_parser.proofs.Wholes.{good_higher}
use Rattle.rb_parser.proofs.laws.old_sources.Goals as goal

pub returns : goal.returns
returns c = λ bytes name source g. good_higher 32 64 bytes name source (omega arith) g
