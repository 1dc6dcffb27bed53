use Rattle.rb_grammar.proofs.Faultless.{good_faultless}
use Rattle.rb_grammar.proofs.laws.good_has_no_fault.Goals as goal

pub returns : goal.returns
returns c = good_faultless
