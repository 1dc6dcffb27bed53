use Rattle.rb_grammar.specs.Tests.{the_tests}
use Rattle.rb_grammar.proofs.Conditions.{are_tests}
use Rattle.rb_grammar.proofs.Meaning.{read_spelled}
use Rattle.rb_grammar.proofs.laws.read_is_spelled.Goals as goal

pub returns : goal.returns
returns c = λ ts name head form e. let r = read_spelled the_tests are_tests ts name head form e in (r.source, r.spelled, r.means, r.flag, r.low)
