-- The reply to a line under limits, this project's own rule.
use Rattle.std.specs.Prelude.{◌≡◌, ◌⊎◌, ◌^◌, ◌-◌, ◌++◌, ◌∷◌, [], ℕ, List, length, min, nat_lt, Bool, true, false}
use Rattle.std.specs.Prelude.{◌||◌, if◌then◌else◌, codes, Result, Ok, Err}
use Rattle.std.specs.Prelude.{Option, Some, None, is_some, option_and_then, unwrap_or}
use Rattle.std.specs.Str.{bytes_eq}
use Rattle.serde_json.specs.Data.{Data}
use Rattle.serde_json.specs.Written.{compact_text}
use Rattle.rb_packages.specs.App.{app_of}
use Rattle.rb_packages.specs.Packages.{files_of}
use Rattle.rb_packages.specs.declared.app.AppFault.{AppFault}
use Rattle.rb_engine.specs.Ask.{Call}
use Rattle.rb_engine.specs.Answer.{Replies}
use Rattle.rb_engine.specs.Kept.{Kept}
use Rattle.rb_engine.specs.Place.{app_refusal}
use Rattle.rb_engine.specs.Answer.{refusal}
use Rattle.rb_requests.specs.Limits.{is_over, used, line_limit}
use Rattle.rb_requests.specs.Steps.{Outcome, Answers, Refuses, CallIsJudged}
use Rattle.rb_requests.specs.Words.{refusal_word}
use Rattle.rb_replies.specs.Replied.{error, reply_line, usage_data}
use Rattle.rb_replies.specs.Within.{limit_of}
use Rattle.rb_requests.specs.Asked.{call_of, data_of, text_at}
use Rattle.rb_requests.specs.declared.limits.Limits.{Limits}

abbrev pub line_of : Data → List ℕ
line_of d = compact_text d ++ 10 ∷ []

abbrev pub error_line : List ℕ → List ℕ
error_line word = line_of (error word)

-- ---- the length of a line

-- a line with at most this many bytes is read as a request
abbrev pub longest_kept : Limits → ℕ
longest_kept limits = min (unwrap_or limits.line_bytes line_limit) line_limit

-- a line with more bytes than this ends serving: 268,435,456 without a limit on lines, and with one the largest number
-- of 64 bits
abbrev pub longest_read : Limits → ℕ
longest_read limits = if is_some limits.line_bytes then 2 ^ 64 - 1 else line_limit

-- ---- questions for usage

-- any limit is on
abbrev pub is_limited : Limits → Bool
is_limited limits =
    (is_some limits.bundle_bytes || (is_some limits.app_bytes || (is_some limits.apps || is_some limits.steps)))
    || (is_some limits.line_bytes || (is_some limits.reply_bytes || limits.keep_serving))

-- the application whose usage a line asks for: an object with `op` "usage" and `app`
abbrev pub usage_in : Data → Option (List ℕ)
usage_in d = option_and_then (λ op. if bytes_eq op (codes "usage") then text_at (codes "app") d else None)
    (text_at (codes "op") d)

-- the question counts only if any limit is on
abbrev pub asked_usage : Limits → Option (List ℕ) → Option (List ℕ)
asked_usage limits app = if is_limited limits then app else None

-- ---- replies

-- a line, or the error if it is longer than the limit, if there is one
abbrev pub limited_line : Option ℕ → List ℕ → List ℕ
limited_line most text = if is_over most (length text) then error_line (codes "ReplyTooLong") else text

abbrev pub outcome_line : Limits → Outcome → List ℕ
outcome_line limits (Answers r) = limited_line (limit_of r limits.reply_bytes) (reply_line (Some r))
outcome_line limits (Refuses refusal) = error_line (refusal_word refusal)

-- an application's usage: the bytes of its files, and their number
abbrev pub usage_reply : Kept → Result (List ℕ) AppFault → List ℕ
usage_reply k (Err e) = reply_line (Some (Replies (refusal (app_refusal e))))
usage_reply k (Ok app) = line_of (usage_data (used (files_of app k.packages)) (length (files_of app k.packages)))

-- a call is judged, and this is its reply
abbrev pub CallReply : Limits → Kept → Call → List ℕ → Kept → Type 0
CallReply limits old call text new =
    (outcome : Outcome) × CallIsJudged limits old call outcome new × (text ≡ outcome_line limits outcome)

-- ---- the reply to a line

-- a line that is read: a call is refused by a limit or answered by the engine; a question for usage is answered; any
-- other line is no request
abbrev pub AnswersRead : Limits → Kept → Option Call → Option (List ℕ) → List ℕ → Kept → Type 0
AnswersRead limits old (Some call) usage text new = CallReply limits old call text new
AnswersRead limits old None (Some app) text new = (text ≡ usage_reply old (app_of app)) × (new ≡ old)
AnswersRead limits old None None text new = (text ≡ error_line (codes "BadLine")) × (new ≡ old)

abbrev pub ReadReply : Limits → Kept → List ℕ → List ℕ → Kept → Type 0
ReadReply limits old line text new =
    AnswersRead limits old (call_of line) (asked_usage limits (option_and_then usage_in (data_of line))) text new

-- The reply to a line, and the state after it, if `Read` gives them for a line that is read. A line with more than this
-- many bytes is not read. With `keep_serving`, any other may be answered `Memory`, and has then changed nothing.
abbrev pub UpTo : (Read : Kept → List ℕ → List ℕ → Kept → Type 0) → ℕ → Limits → Kept → List ℕ → List ℕ → Kept → Type 0
UpTo Read most limits old line text new =
    ((nat_lt most (length line) ≡ true) × (text ≡ error_line (codes "LineTooLong")) × (new ≡ old))
    ⊎ ((nat_lt most (length line) ≡ false) × (Read old line text new
    ⊎ ((limits.keep_serving ≡ true) × (text ≡ error_line (codes "Memory")) × (new ≡ old))))

abbrev pub LineReplyWithin : Limits → Kept → List ℕ → List ℕ → Kept → Type 0
LineReplyWithin limits = UpTo (ReadReply limits) (longest_kept limits) limits
