use Rattle.rb_grammar.specs.Tests.{the_tests}
use Rattle.rb_grammar.proofs.Conditions.{are_tests}
use Rattle.rb_grammar.proofs.Faultless.{good_or_faulty}
use Rattle.rb_grammar.proofs.laws.good_or_faulty.Goals as goal

pub returns : goal.returns
returns c = λ ts end. good_or_faulty the_tests are_tests ts end
