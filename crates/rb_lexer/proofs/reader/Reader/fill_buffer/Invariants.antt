use Rattle.std.proofs.Common.{List, length}
use Rattle.rb_lexer.specs.declared.token.Token.{Token}
use Rattle.rb_lexer.specs.inner.Left.{IsPlaced, Gives}
use Rattle.rb_lexer.proofs.reader.Reader.fill_buffer.Given as goal

abbrev pub invariant-items : goal.invariant-items
invariant-items l = record {
  placed : IsPlaced l.self;
  same : (ts : List Token) → Gives l.initial.self ts → Gives l.self ts;
}

abbrev pub decreases-items : goal.decreases-items
decreases-items l = length l.self.rest.now
