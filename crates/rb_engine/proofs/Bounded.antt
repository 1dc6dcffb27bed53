-- Proves the answer of a lookup with a limit on its steps.
use Rattle.std.proofs.Common.{◌≡◌, ℕ, Bool, true, false, cond, List, Some, Result, Ok, Err, refl, sym, ◌∙◌, ap}
use Rattle.std.specs.Prelude.{Option, None}
use Rattle.std.proofs.lemmas.Bool.{false≢true}
use Rattle.rb_tree.specs.Resource.{Resource}
use Rattle.rb_tree.specs.Path.{IsPath, is_path, segments}
use Rattle.rb_tree.proofs.Paths.{path_test}
use Rattle.rb_parents.specs.Trail.{Bundles, ParentsOf}
use Rattle.rb_fallback.specs.Answers.{hit_of, bounded_answer_of}
use Rattle.rb_fallback.specs.Search.{Hit, look_up, first_stop}
use Rattle.rb_fallback.specs.Steps.{look_steps, look_up_limited, searched, within}
use Rattle.rb_fallback.specs.declared.fault.BoundedError.{BoundedError}
use Rattle.rb_fallback.specs.declared.fault.BoundedError.TheVariants.{TooManySteps, Search}
use Rattle.rb_fallback.specs.declared.fault.LookError.{LookError}
use Rattle.rb_fallback.specs.declared.fault.LookError.TheVariants.{BadPath}
use Rattle.rb_fallback.specs.declared.found.Found.{Found}
use Rattle.rb_engine.specs.Answer.{lookup_in}
use Rattle.rb_engine.specs.LookResponse.{look_response}
use Rattle.rb_engine.specs.Steps.{exceeds_from, is_less}
use Rattle.rb_engine.specs.declared.request.LookFault.{LookFault}
use Rattle.rb_engine.proofs.Lookups.{IsTold, lookup_is}

-- what the search gives, if the steps are enough
limited : (left : Option ℕ) (taken : ℕ) (answer : Result Hit LookError)
    → within left taken answer ≡ cond (is_less left taken) (Err TooManySteps) (searched answer)
limited None taken answer = refl
limited (Some steps) taken answer = refl

searched_ok : (b : Bool) (answer : Result Hit LookError) (hit : Hit) → Ok hit ≡ cond b (Err TooManySteps) (searched answer)
    → (b ≡ false) × (answer ≡ Ok hit)
searched_ok true answer hit h = cc
searched_ok false (Ok found) hit h = (refl, cc)
searched_ok false (Err fault) hit h = cc

searched_err : (b : Bool) (answer : Result Hit LookError) (err : LookError)
    → Err (Search err) ≡ cond b (Err TooManySteps) (searched answer) → (b ≡ false) × (answer ≡ Err err)
searched_err true answer err h = cc
searched_err false (Ok found) err h = cc
searched_err false (Err fault) err h = (refl, cc)

searched_more : (b : Bool) (answer : Result Hit LookError) → Err TooManySteps ≡ cond b (Err TooManySteps) (searched answer) → b ≡ true
searched_more true answer h = refl
searched_more false (Ok found) h = cc
searched_more false (Err fault) h = cc

-- a lookup with a limit or none, by what it gave
module _ {N M : Type 0} (tree : N → Resource) (seen : M → Resource) (left : Option ℕ) (own icu : Bundles) (parents : ParentsOf) (name path : List ℕ) where
  abbrev IsRefused : Result (Found N) BoundedError → Type 0
  IsRefused r = (IsPath path → ⊥) → r ≡ Err (Search BadPath)

  abbrev IsWithin : Result (Found N) BoundedError → Type 0
  IsWithin r = IsPath path → bounded_answer_of tree r ≡ look_up_limited left own icu parents name (segments path)

  abbrev taken : ℕ
  taken = look_steps own icu parents name (segments path)

  abbrev answer : Result Hit LookError
  answer = look_up own icu parents name (segments path)

  not_refused : (f : Found N) → Ok f ≡ Err (Search BadPath) → ⊥
  not_refused f h = cc

  no_refusal : (e : BoundedError) → (e ≡ Search BadPath → ⊥) → (let r : Result (Found N) BoundedError = Err e in r ≡ Err (Search BadPath)) → ⊥
  no_refusal e n h = n cc

  same_refusal : (e d : LookError) → (let r : Result (Found N) BoundedError = Err (Search e) in r ≡ Err (Search d)) → e ≡ d
  same_refusal e d h = cc

  -- the steps are enough, if they are for a path
  within_if : (IsPath path → is_less left taken ≡ false) → exceeds_from left own icu parents name path ≡ false
  within_if h = by (is_path path) refl
    where
      by : (b : Bool) → is_path path ≡ b → exceeds_from left own icu parents name path ≡ false
      by true e = rw e (h ((path_test path).0 e))
      by false e = rw e refl

  pub found_within : (f : Found N) → IsWithin (Ok f) → exceeds_from left own icu parents name path ≡ false
  found_within f good = within_if (λ p. (searched_ok (is_less left taken) answer (hit_of tree f) (good p ∙ limited left taken answer)).0)

  pub fault_within : (e : LookError) → IsWithin (Err (Search e)) → exceeds_from left own icu parents name path ≡ false
  fault_within e good = within_if (λ p. (searched_err (is_less left taken) answer e (good p ∙ limited left taken answer)).0)

  pub more_steps : IsRefused (Err TooManySteps) → IsWithin (Err TooManySteps) → exceeds_from left own icu parents name path ≡ true
  more_steps bad good = by (is_path path) refl
    where
      by : (b : Bool) → is_path path ≡ b → exceeds_from left own icu parents name path ≡ true
      by true e = rw e (searched_more (is_less left taken) answer (good ((path_test path).0 e) ∙ limited left taken answer))
      by false e =
          let refused = bad (λ p. false≢true (sym e ∙ (path_test path).1 p)) in
          absurd (no_refusal TooManySteps (λ h. cc) refused)

  pub found_is : (f : Found N) (m : Result (Found M) LookFault) → IsTold tree seen (Ok f) m → IsRefused (Ok f) → IsWithin (Ok f)
      → first_stop own parents name ≡ Some f.valid → look_response seen m ≡ lookup_in own icu parents name path
  found_is f m told bad good valid =
      lookup_is tree seen (Ok f) m own icu parents name path told
      (λ none. absurd (not_refused f (bad none)))
      (λ p. sym (searched_ok (is_less left taken) answer (hit_of tree f) (good p ∙ limited left taken answer)).1) valid

  pub fault_is : (e : LookError) (m : Result (Found M) LookFault) → IsTold tree seen (Err e) m → IsRefused (Err (Search e)) → IsWithin (Err (Search e))
      → look_response seen m ≡ lookup_in own icu parents name path
  fault_is e m told bad good =
      lookup_is tree seen (Err e) m own icu parents name path told
      (λ none. ap Err (same_refusal e BadPath (bad none)))
      (λ p. sym (searched_err (is_less left taken) answer e (good p ∙ limited left taken answer)).1) tt
