use Rattle.rb_parents.specs.Explicit.{parent_entries}
use Rattle.rb_parents.proofs.OneReading.{answered, one_error, one_map}
use Rattle.rb_parents.proofs.laws.a_tree_gives_one_map_or_has_one_error.Goals as goal

pub returns-clause-answered : goal.returns-clause-answered
returns-clause-answered c = λ t. answered (parent_entries t)

pub returns-clause-map : goal.returns-clause-map
returns-clause-map c = λ t. one_map (parent_entries t)

pub returns-clause-error : goal.returns-clause-error
returns-clause-error c = λ t. one_error (parent_entries t)
