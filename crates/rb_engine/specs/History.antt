-- Defines histories of many applications on one engine, and states that no application sees another's bundles, a rule
-- of this project.
use Rattle.std.specs.Prelude.{◌≡◌, ◌≢◌, ℕ, Bool, true, false, List, [], ◌∷◌, ◌++◌, not, map, filter, ◌⊎◌, is_ok}
use Rattle.std.specs.Str.{bytes_eq}
use Rattle.rb_packages.specs.App.{app_of}
use Rattle.rb_packages.specs.Shelf.{Shelf}
use Rattle.rb_engine.specs.Ask.{Call, Requests, caller, Ask, Means}
use Rattle.rb_engine.specs.Answer.{Start, Response, Replies, answer_over, answer, bundles_after}
use Rattle.rb_engine.specs.Place.{place_of}
use Rattle.rb_engine.specs.declared.request.Request.TheVariants as request
use Rattle.rb_engine.specs.declared.request.Reply.{Reply}
use Rattle.rb_engine.specs.declared.request.Reply.TheVariants.{Memory}

-- an engine: its start, and the bundles of each application
pub record State : Type 0 where
  pub start : Start
  pub lists : List ℕ → Shelf

-- at the start no application has bundles
abbrev pub new_state : Start → State
new_state start = record { start = start; lists = λ app. [] }

-- a call with its answer
pub record Turn : Type 0 where
  pub call : Call
  pub response : Response

abbrev pub is_memory_reply : Reply → Bool
is_memory_reply Memory = true
is_memory_reply other = false

abbrev pub is_memory : Response → Bool
is_memory (Replies reply) = is_memory_reply reply
is_memory other = false

-- the calls that may run out of memory: changes with a payload, and lists, whose names are valid
abbrev pub may_run_out_of_memory : Call → Bool
may_run_out_of_memory (Requests (request.Install app locale payload)) = is_ok (place_of app locale)
may_run_out_of_memory (Requests (request.Replace app locale payload)) = is_ok (place_of app locale)
may_run_out_of_memory (Requests (request.List app)) = is_ok (app_of app)
may_run_out_of_memory other = false

-- out of memory: nothing changes
pub record OutOfMemory (old : State) (call : Call) (response : Response) (new : State) : Type 0 where
  pub memory : response ≡ Replies Memory
  pub may : may_run_out_of_memory call ≡ true
  pub start : new.start ≡ old.start
  pub lists : (app : List ℕ) → new.lists app ≡ old.lists app

-- the caller is answered from its own bundles, which change as it asks; those of the others don't change
pub record Answered (old : State) (call : Call) (response : Response) (new : State) : Type 0 where
  pub ask : Ask
  pub means : Means call ask
  pub right : response ≡ answer_over old.start (old.lists (caller call)) ask
  pub start : new.start ≡ old.start
  pub own : new.lists (caller call) ≡ bundles_after ask (old.lists (caller call))
  pub others : (app : List ℕ) → app ≢ caller call → new.lists app ≡ old.lists app

abbrev pub Step : State → Call → Response → State → Type 0
Step old call response new = OutOfMemory old call response new ⊎ Answered old call response new

-- a sequence of steps
abbrev pub Run : State → List Turn → State → Type 0
Run old [] new = (new.start ≡ old.start) × ((app : List ℕ) → new.lists app ≡ old.lists app)
Run old (turn ∷ turns) new = (mid : State) × Step old turn.call turn.response mid × Run mid turns new

-- the application's turns
abbrev pub turns_of : List ℕ → List Turn → List Turn
turns_of app history = filter (λ turn. bytes_eq (caller turn.call) app) history

-- the application's own calls, without those that ran out of memory
abbrev pub own_calls : List ℕ → List Turn → List Call
own_calls app history = map (λ turn. turn.call) (filter (λ turn. not (is_memory turn.response)) (turns_of app history))

-- what each of the calls asks
abbrev pub EachMeans : List Call → List Ask → Type 0
EachMeans [] [] = Unit {0}
EachMeans [] (ask ∷ asks) = ⊥
EachMeans (call ∷ calls) [] = ⊥
EachMeans (call ∷ calls) (ask ∷ asks) = Means call ask × EachMeans calls asks

-- the application's calls, each with whether it ran out of memory
abbrev pub asked_by : List ℕ → List Turn → List (Call × Bool)
asked_by app history = map (λ turn. (turn.call, is_memory turn.response)) (turns_of app history)

-- the answers to the application
abbrev pub responses_to : List ℕ → List Turn → List Response
responses_to app history = map (λ turn. turn.response) (turns_of app history)

-- ---- properties of every history

-- a call asks one thing
abbrev pub AsksOne : Type 0
AsksOne = (call : Call) (a b : Ask) → Means call a → Means call b → a ≡ b

-- each answer except out of memory is the one over what the caller asked before
abbrev pub AnswersOwn : Type 0
AnswersOwn =
    (start : Start) (before after : List Turn) (turn : Turn) (end : State)
    → Run (new_state start) (before ++ turn ∷ after) end
    → is_memory turn.response ≡ false
    → (asked : List Ask) × (ask : Ask) × EachMeans (own_calls (caller turn.call) before) asked × Means turn.call ask
    × (turn.response ≡ answer start asked ask)

-- two histories with the same start answer an application the same if its calls are the same, and the same ones run out
-- of memory
abbrev pub IsIsolated : Type 0
IsIsolated =
    (start : Start) (app : List ℕ) (first second : List Turn) (end end' : State)
    → Run (new_state start) first end
    → Run (new_state start) second end'
    → asked_by app first ≡ asked_by app second
    → responses_to app first ≡ responses_to app second
