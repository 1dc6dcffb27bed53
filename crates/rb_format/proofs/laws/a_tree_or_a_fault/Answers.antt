use Rattle.rb_format.proofs.Root.{tree_or_fault}
use Rattle.rb_format.proofs.laws.a_tree_or_a_fault.Goals as goal

pub returns : goal.returns
returns c = tree_or_fault
