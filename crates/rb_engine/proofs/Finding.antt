-- The item of what a lookup with a limit or none finds.
use Rattle.std.proofs.Common.{◌≡◌, ℕ, List, Option, true, false, Some, Result, Ok, Err, IfOk, refl, ap, subst}
use Rattle.rb_tree.specs.Resource.{Resource}
use Rattle.rb_tree.specs.Path.{IsPath, segments}
use Rattle.rb_parents.specs.Trail.{Bundles, ParentsOf}
use Rattle.rb_fallback.specs.Answers.{bounded_answer_of}
use Rattle.rb_fallback.specs.FoundNode.{IsNodeOf, node_of}
use Rattle.rb_fallback.specs.Search.{first_stop}
use Rattle.rb_fallback.specs.Steps.{look_up_limited}
use Rattle.rb_fallback.specs.declared.fault.BoundedError.{BoundedError}
use Rattle.rb_fallback.specs.declared.fault.BoundedError.TheVariants.{TooManySteps, Search}
use Rattle.rb_fallback.specs.declared.fault.LookError.{LookError}
use Rattle.rb_fallback.specs.declared.fault.LookError.TheVariants.{BadPath}
use Rattle.rb_fallback.specs.declared.found.Found.{Found}
use Rattle.rb_engine.specs.Answer.{lookup_in}
use Rattle.rb_engine.specs.LookFaults.{look_fault_of}
use Rattle.rb_engine.specs.LookResponse.{look_response}
use Rattle.rb_engine.specs.Steps.{exceeds_from}
use Rattle.rb_engine.specs.declared.request.LookFault.{LookFault}
use Rattle.rb_engine.proofs.Bounded.{fault_is, fault_within, found_is, found_within, more_steps}

module _ {N : Type 0} (tree : N → Resource) (left : Option ℕ) (own icu : Bundles) (ps : ParentsOf) (name path : List ℕ) where
  -- a lookup gave this
  pub record IsGiven (x : Result (Found N) BoundedError) : Type 0 where
    pub refused : (IsPath path → ⊥) → x ≡ Err (Search BadPath)
    pub answer : IsPath path → bounded_answer_of tree x ≡ look_up_limited left own icu ps name (segments path)
    pub valid : IfOk x (λ f. first_stop own ps name ≡ Some f.valid)

  abbrev IsAnswer : Result (Found N) LookFault → Type 0
  IsAnswer found = look_response tree found ≡ lookup_in own icu ps name path

  pub node_within : (x : Result (Found N) BoundedError) (node : N) → Ok node ≡ node_of x → IsGiven x → exceeds_from left own icu ps name path ≡ false
  node_within (Ok f) node e g = found_within tree tree left own icu ps name path f g.answer
  node_within (Err d) node e g = cc

  pub node_found : (x : Result (Found N) BoundedError) (node : N) → Ok node ≡ node_of x → IsGiven x → IsNodeOf (Ok node) IsAnswer
  node_found (Ok f) node e g =
      let same : node ≡ f.node = cc in
      record { found = Ok f; is = ap Ok same; known = found_is tree tree left own icu ps name path f (Ok f) refl g.refused g.answer g.valid }
  node_found (Err d) node e g = cc

  fault_given : (x : Result (Found N) BoundedError) (e : BoundedError) → Err e ≡ node_of x → IsGiven x → IsGiven (Err e)
  fault_given (Ok f) e h g = cc
  fault_given (Err d) e h g = let same : d ≡ e = cc in subst (λ (x : BoundedError). IsGiven (Err x)) same g

  pub fault_kept : (x : Result (Found N) BoundedError) (e : LookError) → Err (Search e) ≡ node_of x → IsGiven x → exceeds_from left own icu ps name path ≡ false
  fault_kept x e h g = fault_within tree tree left own icu ps name path e (fault_given x (Search e) h g).answer

  pub fault_found : (x : Result (Found N) BoundedError) (e : LookError) → Err (Search e) ≡ node_of x → IsGiven x → IsNodeOf (Err (look_fault_of e)) IsAnswer
  fault_found x e h g =
      let k = fault_given x (Search e) h g in
      record { found = Err (look_fault_of e); is = refl; known = fault_is tree tree left own icu ps name path e (Err (look_fault_of e)) refl k.refused k.answer }

  pub exceeding : (x : Result (Found N) BoundedError) → Err TooManySteps ≡ node_of x → IsGiven x → exceeds_from left own icu ps name path ≡ true
  exceeding x h g = let k = fault_given x TooManySteps h g in more_steps tree tree left own icu ps name path k.refused k.answer
