-- Defines that the replies to one application's lines don't depend on the other lines of a text: this project's rule.
use Rattle.std.specs.Prelude.{◌≡◌, ℕ, Bool, false, List, [], ◌∷◌, ◌||◌, if◌then◌else◌, length, map, nat_lt, codes}
use Rattle.std.specs.Prelude.{Option, Some, None, option_and_then}
use Rattle.std.specs.Str.{bytes_eq}
use Rattle.rb_engine.specs.Ask.{Call, caller}
use Rattle.rb_engine.specs.History.{State}
use Rattle.rb_engine.specs.Kept.{Kept, state_of}
use Rattle.rb_packages.specs.Packages.{files_of}
use Rattle.rb_requests.specs.Asked.{call_of, data_of}
use Rattle.rb_requests.specs.Lines.{RepliesBy, RepliesByLine}
use Rattle.rb_requests.specs.Within.{LineReplyWithin, longest_kept, asked_usage, usage_in, error_line}
use Rattle.rb_requests.specs.declared.limits.Limits.{Limits}

-- a line is a call of the application
abbrev pub is_of : List ℕ → Option Call → Bool
is_of app None = false
is_of app (Some call) = bytes_eq (caller call) app

abbrev pub with_call : List ℕ → Option Call → List Call → List Call
with_call app None calls = calls
with_call app (Some call) calls = if bytes_eq (caller call) app then call ∷ calls else calls

-- the application's calls among lines, in order
abbrev pub calls_of : List ℕ → List (List ℕ) → List Call
calls_of app [] = []
calls_of app (line ∷ rest) = with_call app (call_of line) (calls_of app rest)

-- the replies to the application's calls
abbrev pub replies_to : List ℕ → List (List ℕ) → List (List ℕ) → List (List ℕ)
replies_to app [] replies = []
replies_to app (line ∷ rest) [] = []
replies_to app (line ∷ rest) (reply ∷ more) = if is_of app (call_of line) then reply ∷ replies_to app rest more
    else replies_to app rest more

-- ---- every text

-- lines with the same calls of one application, in the same order, over the same start and the same bundles of it,
-- reply the same to it
abbrev pub AreLinesIsolated : Type 0
AreLinesIsolated =
    (app : List ℕ) (s t end end' : State) (first second replies replies' : List (List ℕ))
    → s.start ≡ t.start
    → s.lists app ≡ t.lists app
    → RepliesByLine s first replies end
    → RepliesByLine t second replies' end'
    → calls_of app first ≡ calls_of app second
    → replies_to app first replies ≡ replies_to app second replies'

-- ---- the same under limits

-- what a line asks: a call, or for the usage of an application
pub data Question : Type 0 where
  Calls : Call → Question
  AsksUsage : (app : List ℕ) → Question

abbrev pub asker : Question → List ℕ
asker (Calls call) = caller call
asker (AsksUsage app) = app

abbrev pub question_in : Option Call → (usage : Option (List ℕ)) → Option Question
question_in (Some call) usage = Some (Calls call)
question_in None (Some app) = Some (AsksUsage app)
question_in None None = None

-- nothing, if the line is too long or no request
abbrev pub question_of : Limits → List ℕ → Option Question
question_of limits line =
    if nat_lt (longest_kept limits) (length line) then None
    else question_in (call_of line) (asked_usage limits (option_and_then usage_in (data_of line)))

abbrev pub with_turn : List ℕ → Option Question → List ℕ → List (Question × List ℕ) → List (Question × List ℕ)
with_turn app None reply turns = turns
with_turn app (Some question) reply turns =
    if bytes_eq (asker question) app then (question, reply) ∷ turns else turns

-- the application's questions among lines, each with its reply
abbrev pub turns_of : Limits → List ℕ → List (List ℕ) → List (List ℕ) → List (Question × List ℕ)
turns_of limits app [] replies = []
turns_of limits app (line ∷ rest) [] = []
turns_of limits app (line ∷ rest) (reply ∷ more) =
    with_turn app (question_of limits line) reply (turns_of limits app rest more)

-- a reply that depends on more than the application's own lines: out of memory, or one application too many
abbrev pub is_shared : List ℕ → Bool
is_shared reply = bytes_eq reply (error_line (codes "Memory")) || bytes_eq reply (error_line (codes "TooManyApps"))

abbrev pub shared : List ℕ → Option (List ℕ)
shared reply = if is_shared reply then Some reply else None

-- a question, with its reply if that is shared
abbrev pub asked : Question × List ℕ → Question × Option (List ℕ)
asked turn = (turn.0, shared turn.1)

-- Lines with the same questions of one application, of which the same ones run out of memory or are one application too
-- many, over the same start and the same files of it, reply the same to it, and leave it the same files.
abbrev pub AreLinesIsolatedWithin : Type 0
AreLinesIsolatedWithin =
    (limits : Limits) (app : List ℕ) (s t end end' : Kept) (first second replies replies' : List (List ℕ))
    → (state_of s).start ≡ (state_of t).start
    → files_of app s.packages ≡ files_of app t.packages
    → RepliesBy (LineReplyWithin limits) s first replies end
    → RepliesBy (LineReplyWithin limits) t second replies' end'
    → map asked (turns_of limits app first replies) ≡ map asked (turns_of limits app second replies')
    → (turns_of limits app first replies ≡ turns_of limits app second replies')
    × (files_of app end.packages ≡ files_of app end'.packages)
