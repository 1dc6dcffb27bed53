use Rattle.rb_inherit.proofs.Agrees.{all_found}
use Rattle.rb_inherit.proofs.laws.a_tree_has_what_lookups_find.Goals as goal

pub returns : goal.returns
returns c = all_found
