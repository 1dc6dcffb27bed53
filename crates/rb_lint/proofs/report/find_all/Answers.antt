use Rattle.std.proofs.Common.{Result, Ok, Err, IfOk, IsErr, IsSome, All, refl}
use Rattle.rb_lint.specs.Warnings.{IsCompiled}
use Rattle.rb_lint.proofs.report.find_all.Goals as goal

compiled : {A B : Type 0} (C E : Type 0) (r : Result A B) → IfOk r (λ s. C) → (IsErr r → E → ⊥) → E → C
compiled C E (Ok x) o none d = o
compiled C E (Err x) o none d = absurd (none refl d)

pub returns-clause-error : goal.returns-clause-error
returns-clause-error c h =
    compiled (IsCompiled c.args.text.now) (All (λ f. IsSome f.rule) c.in_ok-reported.reported.found.items) c.in_ok-outcome.outcome
    c.in_ok-outcome.ensures c.in_ok-reported.ensures.error (c.in_ok-findings.ensures.error h)
