-- Defines histories of many applications under limits, and states that the applications are isolated, a rule of this
-- project.
use Rattle.std.specs.Prelude.{◌≡◌, ◌≤◌, ◌^◌, ◌-◌, ℕ, Bool, true, false, List, [], ◌∷◌, Some, map, filter}
use Rattle.std.specs.Str.{bytes_eq}
use Rattle.rb_packages.specs.Packages.{files_of}
use Rattle.rb_packages.specs.Usage.{bytes_of}
use Rattle.rb_engine.specs.Ask.{Call, caller}
use Rattle.rb_engine.specs.History.{is_memory}
use Rattle.rb_engine.specs.Kept.{Kept, state_of}
use Rattle.rb_requests.specs.Steps.{Outcome, Answers, Refuses, CallComesTo}
use Rattle.rb_requests.specs.declared.limits.Limits.{Limits}
use Rattle.rb_requests.specs.declared.limits.Refusal.TheVariants.{TooManyApps}

-- a call and its outcome
pub record Turn : Type 0 where
  pub call : Call
  pub outcome : Outcome

-- a sequence of steps
abbrev pub Run : Limits → Kept → List Turn → Kept → Type 0
Run limits old [] new = new ≡ old
Run limits old (turn ∷ turns) new =
    (mid : Kept) × CallComesTo limits old turn.call turn.outcome mid × Run limits mid turns new

abbrev pub ran_out_of_memory : Outcome → Bool
ran_out_of_memory (Answers response) = is_memory response
ran_out_of_memory (Refuses refusal) = false

-- an application's own turns
abbrev pub turns_of : List ℕ → List Turn → List Turn
turns_of app history = filter (λ turn. bytes_eq (caller turn.call) app) history

-- the call was rejected for the number of applications, the only limit that all share
abbrev pub was_one_too_many : Outcome → Bool
was_one_too_many (Answers response) = false
was_one_too_many (Refuses TooManyApps) = true
was_one_too_many (Refuses other) = false

-- the application's calls, each with whether memory ran out, and whether it was one application too many
abbrev pub asked_by : List ℕ → List Turn → List (Call × Bool × Bool)
asked_by app history =
    map (λ turn. (turn.call, ran_out_of_memory turn.outcome, was_one_too_many turn.outcome)) (turns_of app history)

-- the outcomes of these calls
abbrev pub outcomes_to : List ℕ → List Turn → List Outcome
outcomes_to app history = map (λ turn. turn.outcome) (turns_of app history)

-- ---- properties of every history

-- Two histories with the same start and the same files of an application have the same outcomes for it, and leave it
-- the same files, if its calls are the same, and the same ones run out of memory or are one application too many,
-- whatever the others do.
abbrev pub IsIsolatedWithin : Type 0
IsIsolatedWithin =
    (limits : Limits) (app : List ℕ) (s t end end' : Kept) (first second : List Turn)
    → (state_of s).start ≡ (state_of t).start
    → files_of app s.packages ≡ files_of app t.packages
    → Run limits s first end
    → Run limits t second end'
    → asked_by app first ≡ asked_by app second
    → (outcomes_to app first ≡ outcomes_to app second) × (files_of app end.packages ≡ files_of app end'.packages)

-- an application whose files are within the limit stays within it, whatever any application calls
abbrev pub IsWithinQuota : Type 0
IsWithinQuota =
    (limits : Limits) (most : ℕ) (app : List ℕ) (s end : Kept) (history : List Turn)
    → limits.app_bytes ≡ Some most
    → most ≤ 2 ^ 64 - 1
    → bytes_of (files_of app s.packages) ≤ most
    → Run limits s history end
    → bytes_of (files_of app end.packages) ≤ most
