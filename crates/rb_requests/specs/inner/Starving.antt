-- For what is private. Defines the text of the reply to a line under limits, and the state if memory runs out.
use Rattle.std.specs.Prelude.{◌≡◌, ◌⊎◌, ℕ, Bool, false, List, Option, Some, None, if◌then◌else◌}
use Rattle.rb_engine.specs.History.{is_memory}
use Rattle.rb_engine.specs.Kept.{Kept}
use Rattle.rb_engine.specs.declared.request.Reply.{Reply}
use Rattle.rb_engine.specs.declared.request.Reply.TheVariants.{Done}
use Rattle.serde_json.specs.Data.{Data}
use Rattle.rb_requests.specs.Asked.{call_in}
use Rattle.rb_requests.specs.Steps.{Outcome, Answers, Refuses}
use Rattle.rb_requests.specs.Within.{AnswersRead, asked_usage, usage_in}
use Rattle.rb_requests.specs.declared.answer.Starved.{Starved}
use Rattle.rb_requests.specs.declared.answer.Starved.TheVariants.{Before, After}
use Rattle.rb_requests.specs.declared.limits.Limited.{Limited}
use Rattle.rb_requests.specs.declared.limits.Limited.TheVariants.{Answer, Refused}
use Rattle.rb_requests.specs.declared.limits.Limits.{Limits}
use Rattle.rb_requests.specs.declared.reading.Held.{Held}
use Rattle.rb_requests.specs.declared.reading.Held.TheVariants as held
use Rattle.rb_requests.specs.declared.words.LineError.{LineError}
use Rattle.rb_requests.specs.declared.words.LineError.TheVariants.{LineTooLong, Memory}

-- the reply to a line that is this value
abbrev pub DataReply : Limits → Kept → Data → List ℕ → Kept → Type 0
DataReply limits old d text new = AnswersRead limits old (call_in d) (asked_usage limits (usage_in d)) text new

-- the state if memory runs out: the old one; or either the old one or that after a reply that was not made
abbrev pub LeavesOf : (List ℕ → Kept → Type 0) → Starved → Kept → Kept → Type 0
LeavesOf Replies Before old new = new ≡ old
LeavesOf Replies After old new = (new ≡ old) ⊎ ((text : List ℕ) × Replies text new)

-- the state that a reply leaves if its line could not be made: only `Done` has changed anything
abbrev pub untold_reply : Reply → Starved
untold_reply Done = After
untold_reply other = Before

-- the state that an outcome leaves if its line could not be made
abbrev pub untold_by : Limited Reply → Starved
untold_by (Answer reply) = untold_reply reply
untold_by (Refused refusal) = Before

-- memory ran out for the call
abbrev pub starved_by : Outcome → Bool
starved_by (Answers response) = is_memory response
starved_by (Refuses refusal) = false

-- the error that a line is answered by what is held of it: none if all of it is
abbrev pub held_error : Held → Option LineError
held_error held.Whole = None
held_error held.Front = Some LineTooLong
held_error held.Starved = Some Memory

-- the error that is answered if memory ran out for a line that is held whole: none if serving ends
abbrev pub starved_error : Limits → Starved → Option LineError
starved_error limits Before = if limits.keep_serving then Some Memory else None
starved_error limits After = None
