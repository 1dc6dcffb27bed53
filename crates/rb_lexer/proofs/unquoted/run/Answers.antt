use Rattle.std.proofs.Common.{rules, sym, ap, ◌∙◌, [], ◌∷◌, ◌++◌, refl, arith}
use Rattle.std.specs.Str.{chars}
use Rattle.rb_lexer.specs.Lexeme.{units_of}
use Rattle.rb_lexer.specs.Atom.{IsSingle}
use Rattle.rb_lexer.proofs.Parts.{parts_start, plain_single, plain_more, escape_more, run_ends}
use Rattle.rb_lexer.proofs.unquoted.run.Goals as goal

pub parts-init : goal.parts-init
parts-init g c = record {
  text = search rules;
  so_far = (units_of c.args.first, c.in_ok-push_code.ensures [] c.requires.empty, parts_start IsSingle (units_of c.args.first) (chars c.args.text.now));
  no_longer = omega arith;
}

pub returns-in_default-escape-clause-taken : goal.returns-in_default-escape-clause-taken
returns-in_default-escape-clause-taken g c = let s = c.parts.invariant.so_far in (s.0, s.1, run_ends _ _ _ _ _ refl s.2)

pub returns-then-ends_run-clause-taken : goal.returns-then-ends_run-clause-taken
returns-then-ends_run-clause-taken g c = let s = c.parts.invariant.so_far in (s.0, s.1, run_ends _ _ _ _ _ refl s.2)

pub returns-clause-taken : goal.returns-clause-taken
returns-clause-taken g c = let s = c.parts.invariant.so_far in (s.0, s.1, run_ends _ _ _ _ _ refl s.2)

pub parts-preserved-then-c-eq92 : goal.parts-preserved-then-c-eq92
parts-preserved-then-c-eq92 g c =
    let w = c.in-Some-escape.ensures.taken.1 in
    let s = c.parts.invariant.so_far in
    record {
      text = search rules;
      so_far = (
        s.0 ++ units_of c.in-Some-escape.code,
        c.in_ok-push_code-2.ensures s.0 s.1,
        escape_more IsSingle _ _ _ _ s.2 (λ e past is. (tt, is)) (chars c.in-Some.after.now) _ _ w.0 c.in-Some-escape.code
            (c.in-Some.ensures.taken ∙ ap (λ x. x ∷ chars c.in-Some.after.now) c.if-c-eq92.true) w.1 w.2 refl,
      );
      no_longer = omega (arith, c.in-Some.ensures.shorter, c.in-Some-escape.ensures.no_longer, c.parts.invariant.no_longer);
    }

pub parts-preserved : goal.parts-preserved
parts-preserved g c =
    let s = c.parts.invariant.so_far in
    record {
      text = search rules;
      so_far = (
        s.0 ++ units_of c.in-Some.c,
        c.in_ok-push_code-3.ensures s.0 s.1,
        plain_more IsSingle _ _ _ _ s.2 c.in-Some.c _ _ c.in-Some.ensures.taken
            (plain_single c.in-Some.c (chars c.in-Some.after.now) c.if-c-eq92.false (sym c.ends_run.ensures ∙ c.if-ends_run.false)) refl,
      );
      no_longer = omega (arith, c.in-Some.ensures.shorter, c.parts.invariant.no_longer);
    }
