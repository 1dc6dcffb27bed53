use Rattle.std.proofs.Common.{[], sym}
use Rattle.rb_lexer.proofs.Pulls.{left_one, left_is, none_at_start}
use Rattle.rb_lexer.proofs.stream.Tokens.none.Goals as goal

pub invariant_of-result : goal.invariant_of-result
invariant_of-result c = left_is c.new.result [] (none_at_start c.new.result c.new.ensures)

pub returns : goal.returns
returns c = sym (left_one c.new.result [] (none_at_start c.new.result c.new.ensures))
