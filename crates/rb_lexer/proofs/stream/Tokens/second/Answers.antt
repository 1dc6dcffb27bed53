use Rattle.rb_lexer.proofs.Pulls.{second_of}
use Rattle.rb_lexer.specs.Coming.{left}
use Rattle.rb_lexer.proofs.stream.Tokens.second.Goals as goal

pub returns : goal.returns
returns c =
    let r = c.self.inside.reader in
    let h = second_of r (left r) c.self.invariant (λ t. t.now) c.second.result c.second.ensures in
    rw c.self.view_is at h
