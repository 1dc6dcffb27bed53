-- Defines the reply to what a line asks of a server with extended requests, and the state after it, a rule of this
-- project.
use Rattle.std.specs.Prelude.{◌≡◌, ◌⊎◌, ℕ, Bool, false, List, is_some, if◌then◌else◌, codes}
use Rattle.std.specs.Prelude.{Option, Some, None, Result, Ok, Err}
use Rattle.rb_locales.specs.Locale.{name}
use Rattle.rb_packages.specs.App.{app_of}
use Rattle.rb_packages.specs.Packages.{file_at}
use Rattle.rb_replies.specs.Extended.{stored_data}
use Rattle.rb_replies.specs.Replied.{reply_line}
use Rattle.rb_engine.specs.Answer.{Replies}
use Rattle.rb_engine.specs.Ask.{Call, Requests}
use Rattle.rb_engine.specs.Kept.{Kept}
use Rattle.rb_engine.specs.Place.{place_of}
use Rattle.rb_engine.specs.Source.{change_request}
use Rattle.rb_engine.specs.declared.handle.Change.{Change}
use Rattle.rb_engine.specs.declared.handle.Change.TheVariants as change
use Rattle.rb_engine.specs.declared.place.Place.{Place}
use Rattle.rb_engine.specs.declared.request.Payload.{Payload}
use Rattle.rb_engine.specs.declared.request.Reply.TheVariants.{Done}
use Rattle.rb_engine.specs.declared.request.Request.TheVariants as request
use Rattle.rb_requests.specs.ExtendedAsked.{ExtendedAsk, Calls, Puts, Releases, Exports, AsksTree, AsksSizes, AsksUsage}
use Rattle.rb_requests.specs.ExtendedAsked.{ReleaseChange, extended_of}
use Rattle.rb_requests.specs.ExportReply.{ExportReply, sizes_reply}
use Rattle.rb_requests.specs.Refused.{Reason, IsUnread, reason_line}
use Rattle.rb_requests.specs.Released.{IsUnreleased, IsReleased}
use Rattle.rb_requests.specs.Steps.{Outcome, Answers, BringsAt, IsJudged}
use Rattle.rb_requests.specs.TreeReply.{TreeReply}
use Rattle.rb_requests.specs.Within.{CallReply, UpTo, error_line, line_of, longest_kept, outcome_line, usage_reply}
use Rattle.rb_requests.specs.declared.limits.Limits.{Limits}

-- ---- changes of one bundle

-- a payload that isn't read is refused with its first error; with its bundle's file a limit rejects the call or the
-- engine answers it, and `line` is the outcome's line
abbrev pub ChangeReply : Limits → Kept → Change → (app locale : List ℕ) → Payload → (line : Outcome → List ℕ) → List ℕ
    → Kept → Type 0
ChangeReply limits old change app locale payload line text new =
    ((r : Reason) × IsUnread limits app locale payload r × (text ≡ reason_line r) × (new ≡ old))
    ⊎ ((file : List ℕ) × (o : Outcome) × BringsAt limits (place_of app locale) payload (Some file)
    × IsJudged limits old (Requests (change_request change app locale payload)) (Some file) o new × (text ≡ line o))

-- a bundle is stored under the name
abbrev pub is_stored : {E : Type 0} → Kept → Result Place E → Bool
is_stored kept (Err e) = false
is_stored kept (Ok p) = is_some (file_at p.app p.name kept.packages)

-- a `put` replaces a bundle that is there, and says so
abbrev pub put_change : Bool → Change
put_change is_there = if is_there then change.Replace else change.Install

abbrev pub stored_line : Limits → (is_replaced : Bool) → Outcome → List ℕ
stored_line limits is_replaced (Answers (Replies Done)) = line_of (stored_data is_replaced)
stored_line limits is_replaced outcome = outcome_line limits outcome

-- ---- other requests

-- a call as without extended requests, but what is wrong with a payload is in the reply
abbrev pub CalledReply : Limits → Kept → Call → List ℕ → Kept → Type 0
CalledReply limits old (Requests (request.Install app locale payload)) text new =
    ChangeReply limits old change.Install app locale payload (outcome_line limits) text new
CalledReply limits old (Requests (request.Replace app locale payload)) text new =
    ChangeReply limits old change.Replace app locale payload (outcome_line limits) text new
CalledReply limits old call text new = CallReply limits old call text new

-- a release makes all changes, or it is refused and changes nothing
abbrev pub ReleaseReply : Limits → Kept → (app : List ℕ) → List ReleaseChange → List ℕ → Kept → Type 0
ReleaseReply limits old app changes text new =
    ((r : Reason) × IsUnreleased limits old app (app_of app) changes r × (text ≡ reason_line r) × (new ≡ old))
    ⊎ (IsReleased limits old app changes new × (text ≡ reply_line (Some (Replies Done))))

-- ---- the reply to what a line asks

abbrev pub AskReply : Limits → Kept → ExtendedAsk → List ℕ → Kept → Type 0
AskReply limits old (Calls call) text new = CalledReply limits old call text new
AskReply limits old (Puts app locale payload) text new =
    ChangeReply limits old (put_change (is_stored old (place_of app locale))) app locale payload
    (stored_line limits (is_stored old (place_of app locale))) text new
AskReply limits old (Releases app changes) text new = ReleaseReply limits old app changes text new
AskReply limits old (Exports app locale is_text) text new =
    ExportReply limits old is_text (app_of app) (name locale) text × (new ≡ old)
AskReply limits old (AsksTree app locale path) text new = TreeReply limits old app locale path text × (new ≡ old)
AskReply limits old (AsksSizes app) text new = (text ≡ sizes_reply limits old (app_of app)) × (new ≡ old)
AskReply limits old (AsksUsage app) text new = (text ≡ usage_reply old (app_of app)) × (new ≡ old)

abbrev pub ExtendedReply : Limits → Kept → Option ExtendedAsk → List ℕ → Kept → Type 0
ExtendedReply limits old None text new = (text ≡ error_line (codes "BadLine")) × (new ≡ old)
ExtendedReply limits old (Some ask) text new = AskReply limits old ask text new

-- ---- the reply to a line

abbrev pub ExtendedRead : Limits → Kept → List ℕ → List ℕ → Kept → Type 0
ExtendedRead limits old line text new = ExtendedReply limits old (extended_of line) text new

abbrev pub ExtendedWithin : Limits → Kept → List ℕ → List ℕ → Kept → Type 0
ExtendedWithin limits = UpTo (ExtendedRead limits) (longest_kept limits) limits
