-- Compares what a lookup finds with its answer.
use Rattle.std.proofs.Common.{◌≡◌, ◌∙◌, ℕ, List, Option, true, is_ok, Result, Ok, Err, inl, inr, refl, ap}
use Rattle.rb_tree.specs.Resource.{Resource}
use Rattle.rb_engine.specs.Answer.{Response}
use Rattle.rb_engine.specs.Ask.{Call}
use Rattle.rb_engine.specs.History.{State, Step}
use Rattle.rb_engine.specs.Kept.{Kept, state_of}
use Rattle.rb_engine.specs.LookResponse.{look_response}
use Rattle.rb_engine.specs.declared.request.LookFault.{LookFault}
use Rattle.rb_fallback.specs.declared.found.Found.{Found}
use Rattle.rb_parents.specs.Trail.{ParentsOf}
use Rattle.rb_inspect.specs.Looking.{IsFoundWith, is_found, looked_up}
use Rattle.rb_console.specs.Starting.{AreParentsFor}
use Rattle.rb_asked.specs.declared.shared.ParentsSource.{ParentsSource}

found_in : {N : Type 0} (tree : N → Resource) (r : Result (Found N) LookFault) → is_ok r ≡ is_found (look_response tree r)
found_in tree (Ok found) = refl
found_in tree (Err fault) = refl

pub found_by : {N : Type 0} (tree : N → Resource) (r : Result (Found N) LookFault) (response : Response) → look_response tree r ≡ response
    → is_ok r ≡ is_found response
found_by tree r response e = found_in tree r ∙ ap is_found e

-- no call changes what an engine starts with
pub step_start : (old : State) (call : Call) (response : Response) (new : State) → Step old call response new → new.start ≡ old.start
step_start old call response new (inl memory) = memory.start
step_start old call response new (inr answered) = answered.start

pub found_with : (source : Option ParentsSource) (read : ParentsOf) (first last : Kept) (locale path : List ℕ) → AreParentsFor source read
    → ((name : List ℕ) → (state_of first).start.parents name ≡ read name) → (state_of last).start ≡ (state_of first).start
    → is_found (looked_up last locale path) ≡ true → IsFoundWith source locale path
found_with source read first last locale path are same kept found =
    (last, (read, are, λ name. ap (λ s. s.parents name) kept ∙ same name), found)
