use Rattle.rb_grammar.specs.Tests.{the_tests}
use Rattle.rb_grammar.proofs.Conditions.{are_tests}
use Rattle.rb_grammar.proofs.Fault.{stop_is_fault}
use Rattle.rb_grammar.proofs.laws.stop_is_fault.Goals as goal

pub returns : goal.returns
returns c = λ ts end s e. stop_is_fault the_tests are_tests ts end s e
