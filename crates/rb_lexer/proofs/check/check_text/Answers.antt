use Rattle.std.proofs.Common.{[], rules}
use Rattle.std.proofs.lemmas.Result.{err_from_is_err_and}
use Rattle.std.proofs.lemmas.Str.{encodes-chars, scalars-chars}
use Rattle.std.specs.Str.{chars}
use Rattle.rb_lexer.proofs.Passes.{follows_more, breaks_so}
use Rattle.rb_lexer.proofs.check.check_text.Goals as goal

pub returns-in_err-after-clause-ends : goal.returns-in_err-after-clause-ends
returns-in_err-after-clause-ends c =
    let p = err_from_is_err_and c.from_residual.result c.from_residual.ensures.1 in
    rw (p.1, p.2) (breaks_so (chars c.args.text.now) (chars c.items.rest.now) c.items.invariant.so_far _ c.in_err-after.ensures.taken)

pub returns-in_err-after-clause-scalars : goal.returns-in_err-after-clause-scalars
returns-in_err-after-clause-scalars c = scalars-chars c.args.text.now c.utf8.text

pub returns-in_err-after-clause-bytes : goal.returns-in_err-after-clause-bytes
returns-in_err-after-clause-bytes c = encodes-chars c.args.text.now c.utf8.text

pub items-init : goal.items-init
items-init c = let p = c.skip_plain-rest.ensures.taken in record {
  text = search rules;
  so_far = follows_more (chars c.args.text.now) (chars c.args.text.now) (λ xs end e good. (xs, e, good)) p.0 _ p.1 p.2;
}

pub items-preserved-in-Some-2 : goal.items-preserved-in-Some-2
items-preserved-in-Some-2 c =
    let w = (rw c.in-Some.is at c.in_ok-after.ensures.taken).2 in
    let p = c.skip_plain-rest-in-Some.ensures.taken in
    record {
      text = search rules;
      so_far = follows_more (chars c.args.text.now) (chars c.in-Some.after.now)
          (follows_more (chars c.args.text.now) (chars c.items.rest.now) c.items.invariant.so_far w.0 (chars c.in-Some.after.now) w.1 w.2)
          p.0 _ p.1 p.2;
    }

pub items-preserved-in-Some-3 : goal.items-preserved-in-Some-3
items-preserved-in-Some-3 c =
    let w = (rw c.in-Some.is at c.in_ok-after.ensures.taken).2 in
    let p = c.skip_plain-rest-in-Some.ensures.taken in
    record {
      text = search rules;
      so_far = follows_more (chars c.args.text.now) (chars c.in-Some.after.now)
          (follows_more (chars c.args.text.now) (chars c.items.rest.now) c.items.invariant.so_far w.0 (chars c.in-Some.after.now) w.1 w.2)
          p.0 _ p.1 p.2;
    }

pub returns-clause-ends : goal.returns-clause-ends
returns-clause-ends c = c.items.invariant.so_far [] [] (rw c.in_default.is at c.in_ok-after.ensures.taken) tt

pub returns-clause-scalars : goal.returns-clause-scalars
returns-clause-scalars c = scalars-chars c.args.text.now c.utf8.text

pub returns-clause-bytes : goal.returns-clause-bytes
returns-clause-bytes c = encodes-chars c.args.text.now c.utf8.text
