use Rattle.rb_json.proofs.SameValues.{trees_same}
use Rattle.rb_json.proofs.laws.one_tree.Goals as goal

pub returns : goal.returns
returns c = trees_same
