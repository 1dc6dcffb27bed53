use Rattle.rb_grammar.specs.Tests.{the_tests}
use Rattle.rb_grammar.proofs.Conditions.{are_tests}
use Rattle.rb_grammar.proofs.Meaning.{spelled_read}
use Rattle.rb_grammar.proofs.laws.spelled_is_read.Goals as goal

pub returns : goal.returns
returns c = λ ts name d s low. (s.head, s.form, spelled_read the_tests are_tests ts name d s low, s.means, s.flag)
