use Rattle.rb_tree.proofs.OneTable.{one_table}
use Rattle.rb_tree.proofs.laws.one_table.Goals as goal

pub returns : goal.returns
returns c = one_table
