use Rattle.std.proofs.Common.{ℕ, List, ◌∷◌, drop, sym, ap, ◌∙◌}
use Rattle.std.specs.Str.{chars}
use Rattle.rb_lexer.specs.Lexeme.{backslash}
use Rattle.rb_lexer.proofs.Escapes.{escape_takes, no_escape}
use Rattle.rb_lexer.proofs.pieces.first_part.Goals as goal

pub returns-in-Some-clause-taken : goal.returns-in-Some-clause-taken
returns-in-Some-clause-taken c =
    let w = c.in-Some.ensures.taken.1 in
    let t = escape_takes (chars c.in_ok-c.after.now) w.0 (chars c.in-Some.rest.now) w.1 in (
      w.0,
      c.in_ok-c.ensures.taken ∙ ap (λ x. x ∷ chars c.in_ok-c.after.now) c.if-c-ne92.false ∙ ap (λ (xs : List ℕ). backslash ∷ xs) t.0,
      t.1,
      w.2,
    )

pub returns-in-Some-split_first-clause-taken : goal.returns-in-Some-split_first-clause-taken
returns-in-Some-split_first-clause-taken c = (
  chars c.in_ok-c.after.now,
  c.in_ok-c.ensures.taken ∙ ap (λ x. x ∷ chars c.in_ok-c.after.now) c.if-c-ne92.false,
  no_escape (chars c.in_ok-c.after.now) c.in_default.ensures.taken,
  sym (ap (λ (xs : List ℕ). drop 1 xs) c.in-Some-split_first.ensures.taken),
)

pub returns-in-None-clause-taken : goal.returns-in-None-clause-taken
returns-in-None-clause-taken c = (
  chars c.in_ok-c.after.now,
  c.in_ok-c.ensures.taken ∙ ap (λ x. x ∷ chars c.in_ok-c.after.now) c.if-c-ne92.false,
  no_escape (chars c.in_ok-c.after.now) c.in_default.ensures.taken,
  c.in-None.ensures.taken ∙ sym (ap (λ (xs : List ℕ). drop 1 xs) c.in-None.ensures.taken),
)
