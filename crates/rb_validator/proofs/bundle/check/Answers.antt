use Rattle.std.proofs.Common.{sym, ◌∙◌}
use Rattle.rb_format.proofs.Checks.{file_first}
use Rattle.rb_format.proofs.Root.{fault_free}
use Rattle.rb_validator.proofs.FirstFaults.{fault_checked}
use Rattle.rb_validator.proofs.bundle.check.Goals as goal

pub returns-in-Ok-clause-tree : goal.returns-in-Ok-clause-tree
returns-in-Ok-clause-tree c = let bytes = c.args.bytes.now in fault_free bytes (sym (file_first bytes) ∙ c.in-Ok.ensures.answer)

pub returns-in-Err-clause-fault : goal.returns-in-Err-clause-fault
returns-in-Err-clause-fault c = fault_checked c.args.bytes.now c.in-Err.fault c.in-Err.ensures.answer
