use Rattle.rb_format.proofs.Root.{level_fault}
use Rattle.rb_format.proofs.Plainly.{plain_limited}
use Rattle.rb_format.proofs.laws.same_at_every_level.Goals as goal

pub returns-clause-tree : goal.returns-clause-tree
returns-clause-tree c = plain_limited

pub returns-clause-fault : goal.returns-clause-fault
returns-clause-fault c = level_fault
