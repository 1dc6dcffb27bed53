use Rattle.std.proofs.Common.{arith}
use Rattle.rb_format.proofs.Root.{file_keeps}
use Rattle.rb_format.proofs.laws.old_files_keep_their_meaning.Goals as goal

pub returns-clause-all : goal.returns-clause-all
returns-clause-all c = file_keeps

pub returns-clause-old : goal.returns-clause-old
returns-clause-old c = λ bytes s e. file_keeps 32 64 bytes s (omega arith) e
