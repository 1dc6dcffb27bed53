use Rattle.rb_format.proofs.Checks.{header_checked}
use Rattle.rb_format.proofs.laws.a_header_or_a_fault.Goals as goal

pub returns : goal.returns
returns c = header_checked
