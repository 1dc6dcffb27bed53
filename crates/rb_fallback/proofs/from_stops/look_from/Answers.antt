use Rattle.std.proofs.Common.{◌≡◌, Ok, Err, Some, ℕ, List, sym, ap, ◌∙◌}
use Rattle.rb_fallback.specs.Answers.{bounded_answer_of, hit_of}
use Rattle.rb_fallback.specs.declared.fault.BoundedError.TheVariants as bounded
use Rattle.rb_fallback.specs.declared.fault.LookError.TheVariants as fault
use Rattle.rb_fallback.proofs.Levels.{is_err}
use Rattle.rb_fallback.proofs.from_stops.look_from.Goals as goal

pub returns-in_err-found-clause-bad_path : goal.returns-in_err-found-clause-bad_path
returns-in_err-found-clause-bad_path g c =
    let e = c.in_err-found.field-0.0 in
    let bad = c.in_err-found.ensures.bad_path in
    let is = is_err c.from_residual.result e c.from_residual.ensures.1 in (
      λ q. let same : e ≡ bounded.Search fault.BadPath = (let both = sym is ∙ q in cc) in bad.0 (ap Err same),
      λ p. let q = bad.1 p in let same : e ≡ bounded.Search fault.BadPath = cc in is ∙ ap Err same,
    )

pub returns-in_err-found-clause-answer : goal.returns-in_err-found-clause-answer
returns-in_err-found-clause-answer g c = λ n a counted p.
    ap (bounded_answer_of g.T.N.Node.tree) (is_err c.from_residual.result _ c.from_residual.ensures.1) ∙ c.in_err-found.ensures.answer n a counted p

pub returns-clause-answer : goal.returns-clause-answer
returns-clause-answer g c = λ n a counted p. ap (λ f. Ok (hit_of g.T.N.Node.tree f)) c.named.ensures ∙ c.in_ok-found.ensures.answer n a counted p

pub returns-clause-bad_path : goal.returns-clause-bad_path
returns-clause-bad_path g c = (λ q. cc, λ p. let e = c.in_ok-found.ensures.bad_path.1 p in cc)

pub returns-clause-valid : goal.returns-clause-valid
returns-clause-valid g c = λ n a.
    c.in_ok-found.ensures.valid n a ∙ ap (λ (m : List ℕ). Some m) (sym c.stop_name.ensures) ∙ ap (λ f. Some f.valid) (sym c.named.ensures)
