use Rattle.std.proofs.Common.{ℕ, List, ◌∷◌, ap}
use Rattle.std.proofs.lemmas.Str.{chars-nil}
use Rattle.std.specs.Str.{chars}
use Rattle.rb_lexer.specs.Lexeme.{slash}
use Rattle.rb_lexer.proofs.pieces.first_comment.Goals as goal

pub returns-in-None-clause-taken : goal.returns-in-None-clause-taken
returns-in-None-clause-taken c =
    (chars c.in_ok-inside.inside.now, ap (λ (xs : List ℕ). slash ∷ xs) c.in_ok-inside.ensures.taken, c.in-None.ensures.taken, chars-nil)
