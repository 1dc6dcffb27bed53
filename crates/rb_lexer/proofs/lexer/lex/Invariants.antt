use Rattle.std.proofs.Common.{◌++◌, length}
use Rattle.rb_lexer.specs.Tokens.{LexesTo}
use Rattle.rb_lexer.proofs.lexer.lex.Given as goal

abbrev pub invariant-tokens : goal.invariant-tokens
invariant-tokens l = LexesTo l.fn.bytes (l.tokens.items ++ l.rest)

abbrev pub decreases-tokens : goal.decreases-tokens
decreases-tokens l = length l.rest
