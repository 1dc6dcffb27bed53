-- For what is private. Defines the reply to a change of a bundle.
use Rattle.std.specs.Prelude.{ℕ, Bool, List, Option, Some, None, Result, Ok, Err}
use Rattle.rb_engine.specs.Kept.{Kept}
use Rattle.rb_engine.specs.declared.request.Payload.{Payload}
use Rattle.rb_requests.specs.ExtendedReply.{ChangeReply, put_change, stored_line}
use Rattle.rb_requests.specs.Steps.{Outcome}
use Rattle.rb_requests.specs.Within.{outcome_line}
use Rattle.rb_requests.specs.declared.answer.Placed.{Placed}
use Rattle.rb_requests.specs.declared.answer.Placed.TheVariants as placed
use Rattle.rb_requests.specs.declared.answer.Starved.{Starved}
use Rattle.rb_requests.specs.declared.limits.Limits.{Limits}

-- the line of an outcome, which for a `put` says whether a bundle was replaced
abbrev pub change_line : Limits → Option Bool → Outcome → List ℕ
change_line limits None outcome = outcome_line limits outcome
change_line limits (Some is_replaced) outcome = stored_line limits is_replaced outcome

-- the reply to a `put`, by whether there is a bundle
abbrev pub PutReply : Limits → Kept → (app locale : List ℕ) → Payload → (is_there : Bool) → List ℕ → Kept → Type 0
PutReply limits old app locale payload is_there text new =
    ChangeReply limits old (put_change is_there) app locale payload (stored_line limits is_there) text new

-- the place of a reply that is in the reply line
abbrev pub held_place : Result (Unit {0}) Starved → Result Placed Starved
held_place (Ok x) = Ok placed.Held
held_place (Err s) = Err s
