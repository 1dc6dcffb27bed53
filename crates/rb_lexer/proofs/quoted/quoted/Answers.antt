use Rattle.std.proofs.Common.{[], ◌++◌, rules, ap, ◌∙◌, ◌∷◌, refl, arith}
use Rattle.std.specs.Str.{chars}
use Rattle.rb_lexer.specs.Lexeme.{IsQuotedPart, units_of}
use Rattle.rb_lexer.proofs.Parts.{parts_start, plain_quoted, plain_more, escape_more, quote_ends, quote_open, quote_bad}
use Rattle.rb_lexer.proofs.quoted.quoted.Goals as goal

pub parts-init : goal.parts-init
parts-init g c = record { text = search rules; so_far = ([], c.requires, parts_start IsQuotedPart [] (chars c.args.text.now)); no_longer = omega arith }

pub returns-then-c-eq34-clause-taken : goal.returns-then-c-eq34-clause-taken
returns-then-c-eq34-clause-taken g c =
    let s = c.parts.invariant.so_far in (
      s.0,
      s.1,
      quote_ends _ _ _ s.2 (chars c.in-Some.after.now) (c.in-Some.ensures.taken ∙ ap (λ x. x ∷ chars c.in-Some.after.now) c.if-c-eq34.true),
    )

pub returns-in_default-escape-clause-taken : goal.returns-in_default-escape-clause-taken
returns-in_default-escape-clause-taken g c =
    quote_bad _ _ _ c.parts.invariant.so_far.2 (chars c.in-Some.after.now) (c.in-Some.ensures.taken ∙ ap (λ x. x ∷ chars c.in-Some.after.now) c.if-c-eq92.true)
    c.in_default-escape.ensures.taken _ refl c.width.ensures.characters

pub parts-smaller-then-c-eq92 : goal.parts-smaller-then-c-eq92
parts-smaller-then-c-eq92 g c = omega (arith, c.in-Some.ensures.shorter, c.in-Some-escape.ensures.no_longer)

pub parts-preserved-then-c-eq92 : goal.parts-preserved-then-c-eq92
parts-preserved-then-c-eq92 g c =
    let w = c.in-Some-escape.ensures.taken.1 in
    let s = c.parts.invariant.so_far in
    record {
      text = search rules;
      so_far = (
        s.0 ++ units_of c.in-Some-escape.code,
        c.in_ok-push_code.ensures s.0 s.1,
        escape_more IsQuotedPart [] _ _ _ s.2 (λ e past is. is) (chars c.in-Some.after.now) _ _ w.0 c.in-Some-escape.code
            (c.in-Some.ensures.taken ∙ ap (λ x. x ∷ chars c.in-Some.after.now) c.if-c-eq92.true) w.1 w.2 refl,
      );
      no_longer = omega (arith, c.in-Some.ensures.shorter, c.in-Some-escape.ensures.no_longer, c.parts.invariant.no_longer);
    }

pub parts-preserved : goal.parts-preserved
parts-preserved g c =
    let s = c.parts.invariant.so_far in
    record {
      text = search rules;
      so_far = (
        s.0 ++ units_of c.in-Some.c,
        c.in_ok-push_code-2.ensures s.0 s.1,
        plain_more IsQuotedPart [] _ _ _ s.2 c.in-Some.c _ _ c.in-Some.ensures.taken
            (plain_quoted c.in-Some.c (chars c.in-Some.after.now) c.if-c-eq34.false c.if-c-eq92.false) refl,
      );
      no_longer = omega (arith, c.in-Some.ensures.shorter, c.parts.invariant.no_longer);
    }

pub returns-clause-taken : goal.returns-clause-taken
returns-clause-taken g c = quote_open _ _ _ c.parts.invariant.so_far.2 c.in_default.ensures.taken _ refl refl
