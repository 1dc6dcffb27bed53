use Rattle.rb_grammar.proofs.Meaning.{spelled_one}
use Rattle.rb_grammar.proofs.laws.spells_one_bundle.Goals as goal

pub returns : goal.returns
returns c = spelled_one
