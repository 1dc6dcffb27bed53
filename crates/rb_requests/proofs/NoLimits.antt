-- Lines under no limits are answered as the engine answers them.
use Rattle.std.proofs.Common.{◌≡◌, ℕ, inl, inr, false, List, length, Option, Some, None, is_some, Result, Ok, Err, refl, sym, ◌∙◌, ap}
use Rattle.std.proofs.lemmas.Bool.{false≢true}
use Rattle.rb_packages.specs.Packages.{files_of}
use Rattle.rb_packages.specs.Usage.{apps_of}
use Rattle.rb_engine.specs.Ask.{Call, Requests, LooksUp}
use Rattle.rb_engine.specs.Answer.{Response, Replies, Finds}
use Rattle.rb_engine.specs.Kept.{Kept, state_of}
use Rattle.rb_engine.specs.Place.{place_of}
use Rattle.rb_engine.specs.declared.handle.Change.{Change}
use Rattle.rb_engine.specs.declared.handle.Change.TheVariants as change
use Rattle.rb_engine.specs.declared.place.Place.{Place}
use Rattle.rb_engine.specs.declared.request.Payload.{Payload}
use Rattle.rb_engine.specs.declared.request.Reply.TheVariants.{Names}
use Rattle.rb_engine.specs.declared.request.Request.TheVariants as request
use Rattle.rb_requests.specs.Limits.{change_refusal, call_refusal}
use Rattle.rb_requests.specs.Steps.{Outcome, Answers, IsAnswered, IsJudged}
use Rattle.rb_requests.specs.declared.limits.Limits.{Limits}
use Rattle.rb_requests.proofs.Judging.{keeps_nothing}
use Rattle.rb_replies.specs.Replied.{reply_line}
use Rattle.rb_requests.specs.Asked.{call_of}
use Rattle.rb_requests.specs.Lines.{AnswersAsked, LineReply}
use Rattle.rb_requests.specs.Served.{IsShort}
use Rattle.rb_requests.specs.Within.{AnswersRead, LineReplyWithin, outcome_line}
use Rattle.rb_requests.proofs.Stepping.{at_most_over}

abbrev pub no_limits : Limits
no_limits = record {
  bundle_bytes = None;
  app_bytes = None;
  apps = None;
  steps = None;
  line_bytes = None;
  reply_bytes = None;
  keep_serving = false;
}

change_free : {E : Type 0} (kept : Kept) (made : Change) (r : Result Place E) (payload : Payload) (incoming : Option (List ℕ))
    → change_refusal no_limits kept made r payload incoming ≡ None
change_free kept made (Err e) payload incoming = refl
change_free kept made (Ok p) payload None = refl
change_free kept made (Ok p) payload (Some file) =
    sym (keeps_nothing no_limits made p.name (files_of p.app kept.packages) (apps_of kept.packages) file refl refl refl)

call_free : (kept : Kept) (call : Call) (incoming : Option (List ℕ)) → call_refusal no_limits kept call incoming ≡ None
call_free kept (Requests (request.Install app locale payload)) incoming = change_free kept change.Install (place_of app locale) payload incoming
call_free kept (Requests (request.Replace app locale payload)) incoming = change_free kept change.Replace (place_of app locale) payload incoming
call_free kept (Requests (request.Remove app locale)) incoming = refl
call_free kept (Requests (request.List app)) incoming = refl
call_free kept (LooksUp app locale path) incoming = refl

answered : (old new : Kept) (call : Call) (incoming : Option (List ℕ)) (outcome : Outcome) → IsJudged no_limits old call incoming outcome new
    → IsAnswered no_limits old call incoming outcome new
answered old new call incoming outcome h = elim h [
  | inl refused ↦ absurd (false≢true (ap is_some (sym (call_free old call incoming) ∙ refused.refused)))
  | inr a ↦ a
]

plain_line : (response : Response) → outcome_line no_limits (Answers response) ≡ reply_line (Some response)
plain_line (Finds hit valid) = refl
plain_line (Replies (Names names)) = refl
plain_line other = refl

read_seen : (old new : Kept) (call : Option Call) (text : List ℕ) → AnswersRead no_limits old call None text new
    → (response : Option Response) × AnswersAsked (state_of old) call response (state_of new) × (text ≡ reply_line response)
read_seen old new None text (told, same) = (None, ap state_of same, told)
read_seen old new (Some call) text (outcome, (incoming, brings, judged), told) =
    let a = answered old new call incoming outcome judged in
    (Some a.response, a.answered, told ∙ (ap (outcome_line no_limits) a.answer ∙ plain_line a.response))

pub line_seen : (old new : Kept) (line text : List ℕ) → IsShort 268435456 line → LineReplyWithin no_limits old line text new
    → LineReply (state_of old) line text (state_of new)
line_seen old new line text short h = elim h [
  | inl (over, told, same) ↦ absurd (false≢true (sym (at_most_over 268435456 (length line) short) ∙ over))
  | inr (fits, rest) ↦ elim rest [
    | inl read ↦ read_seen old new (call_of line) text read
    | inr (keep, told, same) ↦ absurd (false≢true keep)
  ]
]
