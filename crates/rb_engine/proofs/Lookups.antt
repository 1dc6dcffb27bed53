-- Proves the answer of a lookup.
use Rattle.std.proofs.Common.{◌≡◌, ℕ, Bool, true, false, cond, List, Option, Some, Result, Ok, Err, IfOk, refl, sym, ◌∙◌, ap, subst}
use Rattle.std.proofs.lemmas.Bool.{false≢true}
use Rattle.rb_tree.specs.Resource.{Resource}
use Rattle.rb_tree.specs.Path.{IsPath, is_path, segments}
use Rattle.rb_tree.proofs.Paths.{path_test}
use Rattle.rb_parents.specs.Trail.{Bundles, ParentsOf}
use Rattle.rb_fallback.specs.Search.{Hit, look_up, first_stop}
use Rattle.rb_fallback.specs.Answers.{answer_of, hit_of}
use Rattle.rb_fallback.specs.declared.found.Found.{Found}
use Rattle.rb_fallback.specs.declared.fault.LookError.{LookError}
use Rattle.rb_fallback.specs.declared.fault.LookError.TheVariants.{BadPath}
use Rattle.rb_engine.specs.declared.request.LookFault.{LookFault}
use Rattle.rb_engine.specs.declared.request.LookFault.TheVariants as fault
use Rattle.rb_engine.specs.Answer.{Start, Refuses, search_response, lookup_in, lookup_at}
use Rattle.rb_engine.specs.LookFaults.{look_fault_of}
use Rattle.rb_packages.specs.Shelf.{bundle_at}
use Rattle.rb_packages.specs.Packages.{Stored, list_of}
use Rattle.rb_engine.specs.Place.{place_of}
use Rattle.rb_engine.specs.declared.place.Place.{Place}
use Rattle.rb_engine.proofs.StepLemmas.{app-place_of}
use Rattle.rb_engine.specs.LookResponse.{look_response}
use Rattle.rb_engine.specs.Steps.{exceeds, exceeds_from}

-- what a search gives, as the answer to a lookup whose nodes are seen as `seen` has them
abbrev pub IsTold : {N M : Type 0} → (N → Resource) → (M → Resource) → Result (Found N) LookError → Result (Found M) LookFault → Type 0
IsTold tree seen (Ok f) m = look_response seen m ≡ look_response tree (Ok f)
IsTold tree seen (Err e) m = m ≡ Err (look_fault_of e)

search_is : {N M : Type 0} (tree : N → Resource) (seen : M → Resource) (r : Result (Found N) LookError) (m : Result (Found M) LookFault)
    (valid : Option (List ℕ)) (answer : Result Hit LookError)
    → IsTold tree seen r m → answer_of tree r ≡ answer → IfOk r (λ f. valid ≡ Some f.valid) → look_response seen m ≡ search_response valid answer
search_is tree seen (Ok f) m valid answer h e v = h ∙ ap (λ o. search_response o (Ok (hit_of tree f))) (sym v) ∙ ap (search_response valid) e
search_is tree seen (Err d) m valid answer h e v = ap (look_response seen) h ∙ ap (search_response valid) e

pub lookup_is : {N M : Type 0} (tree : N → Resource) (seen : M → Resource) (r : Result (Found N) LookError) (m : Result (Found M) LookFault)
    (own icu : Bundles) (parents : ParentsOf) (name path : List ℕ)
    → IsTold tree seen r m → ((IsPath path → ⊥) → r ≡ Err BadPath)
    → (IsPath path → answer_of tree r ≡ look_up own icu parents name (segments path)) → IfOk r (λ f. first_stop own parents name ≡ Some f.valid)
    → look_response seen m ≡ lookup_in own icu parents name path
lookup_is tree seen r m own icu parents name path h bad good v = by (is_path path) refl
  where
    by : (b : Bool) → is_path path ≡ b
        → look_response seen m ≡ cond b (search_response (first_stop own parents name) (look_up own icu parents name (segments path))) (Refuses fault.BadPath)
    by true e = search_is tree seen r m (first_stop own parents name) (look_up own icu parents name (segments path)) h (good ((path_test path).0 e)) v
    by false e =
        let none = bad (λ p. false≢true (sym e ∙ (path_test path).1 p)) in
        ap (look_response seen) (subst (λ x. IsTold tree seen x m) none h)

-- a lookup at a place that was read
pub lookup_at_place : (start : Start) (app locale path : List ℕ) (p : Place) (s : Stored) → place_of app locale ≡ Ok p
    → lookup_in (bundle_at (list_of p.app s)) (bundle_at start.icudata) start.parents p.name path ≡ lookup_at start (list_of app s) (place_of app locale) path
lookup_at_place start app locale path p s h =
    rw h (ap (λ x. lookup_in (bundle_at (list_of x s)) (bundle_at start.icudata) start.parents p.name path) (app-place_of app locale p h))

-- so it takes the same steps
pub takes_at_place : (left : Option ℕ) (start : Start) (app locale path : List ℕ) (p : Place) (s : Stored) → place_of app locale ≡ Ok p
    → exceeds_from left (bundle_at (list_of p.app s)) (bundle_at start.icudata) start.parents p.name path
    ≡ exceeds left start (list_of app s) (place_of app locale) path
takes_at_place left start app locale path p s h =
    rw h (ap (λ x. exceeds_from left (bundle_at (list_of x s)) (bundle_at start.icudata) start.parents p.name path) (app-place_of app locale p h))
