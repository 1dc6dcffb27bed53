use Rattle.std.proofs.Common.{[], sym, ◌∙◌}
use Rattle.std.specs.Str.{chars}
use Rattle.rb_lexer.proofs.Items.{white_item, punctuation_item, quoted_item, plain_item, no_slash}
use Rattle.rb_lexer.proofs.scan.scan_first.Goals as goal

pub returns-then-is_white-clause-taken : goal.returns-then-is_white-clause-taken
returns-then-is_white-clause-taken g c =
    ([], c.requires, white_item _ _ _ c.in-Some.ensures.taken [] _ (sym c.is_white.ensures ∙ c.if-is_white.true) c.skip_white.ensures.taken)

pub returns-in-Some-punctuation-clause-taken : goal.returns-in-Some-punctuation-clause-taken
returns-in-Some-punctuation-clause-taken g c = (
  [],
  c.requires,
  punctuation_item _ _ _ c.in-Some.ensures.taken c.in-Some-punctuation.mark [] c.in-Some-punctuation.ensures.0 c.in-Some-punctuation.ensures.1,
)

pub returns-then-c-eq34-clause-taken : goal.returns-then-c-eq34-clause-taken
returns-then-c-eq34-clause-taken g c =
    let r = c.in_ok-rest.ensures.taken in
    (r.0, r.1, quoted_item _ _ _ c.in-Some.ensures.taken _ _ c.if-c-eq34.true r.2)

pub returns-clause-taken : goal.returns-clause-taken
returns-clause-taken g c =
    let r = c.in_ok-rest-3.ensures.taken in (
      r.0,
      r.1,
      plain_item _ _ _ c.in-Some.ensures.taken _ _ (sym c.is_white.ensures ∙ c.if-is_white.false) c.in_default-punctuation.ensures c.if-c-eq34.false
          c.if-c-eq92.false (no_slash c.in-Some.c (chars c.in-Some.after.now) c.if-c-eq47.false) r.2,
    )
