use Rattle.rb_lexer.proofs.Pulls.{first_of}
use Rattle.rb_lexer.specs.Coming.{left}
use Rattle.rb_lexer.proofs.stream.Tokens.first.Goals as goal

pub returns : goal.returns
returns c =
    let r = c.self.inside.reader in
    let h = first_of r (left r) c.self.invariant (λ t. t.now) c.first.result c.first.ensures in
    rw c.self.view_is at h
