use Rattle.std.proofs.Common.{[]}
use Rattle.rb_lexer.proofs.Items.{punctuation_item}
use Rattle.rb_lexer.proofs.scan.first_mark.Goals as goal

pub returns-clause-taken : goal.returns-clause-taken
returns-clause-taken c = punctuation_item _ _ _ c.in_ok-c.ensures.taken c.in_ok-mark.mark [] c.in_ok-mark.ensures.0 c.in_ok-mark.ensures.1
