use Rattle.std.proofs.Common.{Result, Ok, Err, Option, None, Some, IfOk, IfSome, IsErr, IsSome, All}
use Rattle.std.proofs.lemmas.Bool.{false≢true}
use Rattle.rb_lint.proofs.report.search_limited.Goals as goal

-- kind a text that isn't compiled has a fault, and with a fault something holds of what is reported
none_of : {R X D : Type 0} (A : Type 0) (E : R → Type 0) (f : Option D) (r : Result R X) → (A → IsSome f)
    → IfOk r (λ x. IfSome f (λ g. E x → ⊥)) → IfOk r (λ x. A → E x → ⊥)
none_of A E f (Err e) some o = tt
none_of A E None (Ok x) some o = λ a. absurd (false≢true (some a))
none_of A E (Some y) (Ok x) some o = λ a. o

pub returns-clause-error : goal.returns-clause-error
returns-clause-error c =
    none_of (IsErr c.args.outcome.now) (λ r. All (λ g. IsSome g.rule) r.found.items) c.in_ok-searched.searched.fault c.limited.result
    c.in_ok-searched.ensures c.limited.ensures.error
