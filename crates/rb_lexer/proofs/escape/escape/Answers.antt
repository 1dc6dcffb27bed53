use Rattle.std.proofs.Common.{◌∷◌, sym, ap, ◌∙◌, arith, ⊎_elim}
use Rattle.std.specs.Str.{chars}
use Rattle.rb_lexer.proofs.Escapes.{nothing_read, u_found, u_missed, long_found, long_short, long_large, x_found, x_missed, c_read, octal_found, letter_found}
use Rattle.rb_lexer.proofs.escape.escape.Goals as goal

pub returns-in_err-c : goal.returns-in_err-c
returns-in_err-c c = rw c.from_residual.ensures (record { taken = rw c.in_err-c.ensures.taken nothing_read; no_longer = tt })

pub returns-then-count-eq4-clause-taken : goal.returns-then-count-eq4-clause-taken
returns-then-count-eq4-clause-taken c =
    let e = c.in_ok-c.ensures.taken ∙ ap (λ x. x ∷ chars c.in_ok-c.after.now) c.in-u.is in
    u_found _ (chars c.in_ok-c.after.now) _ _ _ e c.digits-value.ensures.value c.digits-value.ensures.count c.digits-value.ensures.below
    c.digits-value.ensures.rest c.if-count-eq4.true

pub returns-else-count-eq4-clause-taken : goal.returns-else-count-eq4-clause-taken
returns-else-count-eq4-clause-taken c =
    let e = c.in_ok-c.ensures.taken ∙ ap (λ x. x ∷ chars c.in_ok-c.after.now) c.in-u.is in
    u_missed _ (chars c.in_ok-c.after.now) c.digits-value.result.0 _ (chars c.digits-value.result.2.now) e c.digits-value.ensures.count
    c.digits-value.ensures.few c.if-count-eq4.false

pub returns-then-value-le1114111-clause-taken : goal.returns-then-value-le1114111-clause-taken
returns-then-value-le1114111-clause-taken c =
    let e = c.in_ok-c.ensures.taken ∙ ap (λ x. x ∷ chars c.in_ok-c.after.now) c.in-U.is in
    long_found _ (chars c.in_ok-c.after.now) _ _ _ e c.digits-value-in-U.ensures.value c.digits-value-in-U.ensures.count c.digits-value-in-U.ensures.rest
    c.if-count-eq8.true c.if-value-le1114111.true

pub returns-else-count-eq8-clause-taken : goal.returns-else-count-eq8-clause-taken
returns-else-count-eq8-clause-taken c =
    let e = c.in_ok-c.ensures.taken ∙ ap (λ x. x ∷ chars c.in_ok-c.after.now) c.in-U.is in
    ⊎_elim (λ h. long_large _ (chars c.in_ok-c.after.now) _ _ (chars c.digits-value-in-U.result.2.now) e c.digits-value-in-U.ensures.value
    c.digits-value-in-U.ensures.count h.0 h.1)
    (λ h. long_short _ (chars c.in_ok-c.after.now) c.digits-value-in-U.result.0 _ (chars c.digits-value-in-U.result.2.now) e c.digits-value-in-U.ensures.count
    c.digits-value-in-U.ensures.few h) c.else-count-eq8.either

pub returns-then-count-gt0-clause-taken : goal.returns-then-count-gt0-clause-taken
returns-then-count-gt0-clause-taken c =
    let e = c.in_ok-c.ensures.taken ∙ ap (λ x. x ∷ chars c.in_ok-c.after.now) c.in-x.is in
    x_found _ (chars c.in_ok-c.after.now) _ _ _ e c.digits-value-in-x.ensures.value c.digits-value-in-x.ensures.count c.digits-value-in-x.ensures.below
    c.digits-value-in-x.ensures.rest c.if-count-gt0.true

pub returns-else-count-gt0-clause-taken : goal.returns-else-count-gt0-clause-taken
returns-else-count-gt0-clause-taken c =
    let e = c.in_ok-c.ensures.taken ∙ ap (λ x. x ∷ chars c.in_ok-c.after.now) c.in-x.is in
    x_missed _ (chars c.in_ok-c.after.now) c.digits-value-in-x.result.0 _ (chars c.digits-value-in-x.result.2.now) e c.digits-value-in-x.ensures.count
    c.if-count-gt0.false

pub returns-in-c-clause-taken : goal.returns-in-c-clause-taken
returns-in-c-clause-taken c = rw (c.in_ok-c.ensures.taken ∙ ap (λ x. x ∷ chars c.in_ok-c.after.now) c.in-c.is) (c_read _)

pub returns-in_default-clause-taken : goal.returns-in_default-clause-taken
returns-in_default-clause-taken c =
    octal_found _ (chars c.in_ok-c.after.now) _ c.digits-value-in_default.result.1 _ c.in_ok-c.c c.in_ok-c.ensures.taken
    (sym c.is_digit.ensures.value ∙ c.if-is_digit.true) c.digits-value-in_default.ensures.value c.digits-value-in_default.ensures.below
    c.digits-value-in_default.ensures.rest

pub returns-in_default-2-clause-taken : goal.returns-in_default-2-clause-taken
returns-in_default-2-clause-taken c =
    letter_found _ _ _ 0 (chars c.in_ok-c.after.now) c.in_ok-c.c c.in_ok-c.ensures.taken c.in_ok-c.ensures.scalar (omega arith) (omega arith) (omega arith)
    (sym c.is_digit.ensures.value ∙ c.if-is_digit.false) (omega arith) c.letter.ensures
