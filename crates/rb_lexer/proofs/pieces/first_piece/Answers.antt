use Rattle.std.proofs.Common.{◌∷◌, ap, ◌∙◌}
use Rattle.std.proofs.lemmas.Str.{chars-nil}
use Rattle.std.specs.Str.{chars}
use Rattle.rb_lexer.proofs.pieces.first_piece.Goals as goal

pub returns-in-None-clause-taken : goal.returns-in-None-clause-taken
returns-in-None-clause-taken c = (
  chars c.in_ok-c.after.now,
  c.in_ok-c.ensures.taken ∙ ap (λ x. x ∷ chars c.in_ok-c.after.now) c.if-c-eq34.true,
  c.in-None.ensures.taken,
  chars-nil,
)
