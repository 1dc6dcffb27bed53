-- Defines the outcome of a call under limits, a rule of this project.
use Rattle.std.specs.Prelude.{◌≡◌, ◌≢◌, ◌⊎◌, ℕ, Bool, true, false, not, List, Option, Some, None, Result, Ok, Err}
use Rattle.std.specs.Prelude.{MatchBool, is_ok}
use Rattle.std.specs.Map.{remove_entry}
use Rattle.std.specs.Str.{bytes_eq}
use Rattle.rb_tree.specs.SourceTree.{SourceTree}
use Rattle.rb_format.specs.File.{source_tree_of}
use Rattle.rb_packages.specs.App.{app_of}
use Rattle.rb_packages.specs.Packages.{Files, files_of, icudata_files}
use Rattle.rb_engine.specs.Ask.{Call, Requests, caller}
use Rattle.rb_engine.specs.Answer.{Response, Replies}
use Rattle.rb_engine.specs.History.{Answered, is_memory}
use Rattle.rb_engine.specs.Kept.{Kept, state_of}
use Rattle.rb_engine.specs.Change.{IsFileOf, files_after}
use Rattle.rb_engine.specs.Place.{place_of}
use Rattle.rb_engine.specs.Start.{HasBundle}
use Rattle.rb_engine.specs.declared.handle.Change.{Change}
use Rattle.rb_engine.specs.declared.handle.Change.TheVariants as change
use Rattle.rb_engine.specs.declared.place.Place.{Place}
use Rattle.rb_engine.specs.declared.request.Payload.{Payload}
use Rattle.rb_engine.specs.declared.request.Reply.TheVariants.{Done, Memory}
use Rattle.rb_engine.specs.declared.request.Request.TheVariants as request
use Rattle.rb_requests.specs.Limits.{is_over, payload_len, call_refusal}
use Rattle.rb_requests.specs.declared.limits.Limits.{Limits}
use Rattle.rb_requests.specs.declared.limits.Refusal.{Refusal}

-- the engine's answer, or a limit's rejection
pub data Outcome : Type 0 where
  Answers : Response → Outcome
  Refuses : Refusal → Outcome

-- the file of a payload's bundle, or none if it has no bundle
abbrev pub Brings : Payload → Option (List ℕ) → Type 0
Brings payload None = (source : SourceTree) → HasBundle payload source → ⊥
Brings payload (Some file) = HasBundle payload (source_tree_of file) × IsFileOf payload file

-- a payload is read only if the request's names are valid and it isn't too long
abbrev pub BringsAt : {E : Type 0} → Limits → Result Place E → Payload → Option (List ℕ) → Type 0
BringsAt limits (Err e) payload incoming = incoming ≡ None
BringsAt limits (Ok p) payload incoming =
    MatchBool (is_over limits.bundle_bytes (payload_len payload)) (incoming ≡ None) (Brings payload incoming)

-- the file of the bundle in a call's payload, if any
abbrev pub CallBrings : Limits → Call → Option (List ℕ) → Type 0
CallBrings limits (Requests (request.Install a l payload)) incoming = BringsAt limits (place_of a l) payload incoming
CallBrings limits (Requests (request.Replace a l payload)) incoming = BringsAt limits (place_of a l) payload incoming
CallBrings limits call incoming = incoming ≡ None

-- ---- the files of the caller's bundles after a call

abbrev pub put_file : {E : Type 0} → Change → Result Place E → Option (List ℕ) → Files → Files
put_file change (Ok p) (Some file) files = files_after change p.name file files
put_file change r incoming files = files

abbrev pub taken_out : {E : Type 0} → Result Place E → Files → Files
taken_out (Ok p) files = remove_entry (bytes_eq p.name) files
taken_out (Err e) files = files

abbrev pub files_done : Call → Option (List ℕ) → Files → Files
files_done (Requests (request.Install a l p)) incoming files = put_file change.Install (place_of a l) incoming files
files_done (Requests (request.Replace a l p)) incoming files = put_file change.Replace (place_of a l) incoming files
files_done (Requests (request.Remove a l)) incoming files = taken_out (place_of a l) files
files_done call incoming files = files

-- a change that is done changes the files; nothing else does
abbrev pub files_then : Call → Option (List ℕ) → Response → Files → Files
files_then call incoming (Replies Done) files = files_done call incoming files
files_then call incoming response files = files

-- ---- a step

-- a payload is read, with valid names and no more bytes than the limit
abbrev pub is_read : {E : Type 0} → Limits → Result Place E → Payload → Bool
is_read limits (Err e) payload = false
is_read limits (Ok p) payload = not (is_over limits.bundle_bytes (payload_len payload))

-- the calls that may run out of memory: changes whose payload is read, and lists with a valid name
abbrev pub may_starve : Limits → Call → Bool
may_starve limits (Requests (request.Install app locale payload)) = is_read limits (place_of app locale) payload
may_starve limits (Requests (request.Replace app locale payload)) = is_read limits (place_of app locale) payload
may_starve limits (Requests (request.List app)) = is_ok (app_of app)
may_starve limits call = false

-- out of memory: nothing changes
pub record Starves (limits : Limits) (old : Kept) (call : Call) (outcome : Outcome) (new : Kept) : Type 0 where
  pub memory : outcome ≡ Answers (Replies Memory)
  pub may : may_starve limits call ≡ true
  pub same : new ≡ old

-- a limit rejects the call, and nothing changes
pub record IsRefused (limits : Limits) (old : Kept) (call : Call) (incoming : Option (List ℕ)) (outcome : Outcome)
    (new : Kept) : Type 0 where
  pub refusal : Refusal
  pub refused : call_refusal limits old call incoming ≡ Some refusal
  pub word : outcome ≡ Refuses refusal
  pub same : new ≡ old

-- no limit rejects the call, and the engine answers it; only the caller's files change
pub record IsAnswered (limits : Limits) (old : Kept) (call : Call) (incoming : Option (List ℕ)) (outcome : Outcome)
    (new : Kept) : Type 0 where
  pub free : call_refusal limits old call incoming ≡ None
  pub response : Response
  pub answer : outcome ≡ Answers response
  pub told : is_memory response ≡ false
  pub answered : Answered (state_of old) call response (state_of new)
  pub own : files_of (caller call) new.packages ≡ files_then call incoming response (files_of (caller call) old.packages)
  pub others : (app : List ℕ) → app ≢ caller call → files_of app new.packages ≡ files_of app old.packages
  pub icudata : icudata_files new.packages ≡ icudata_files old.packages
  pub parents : new.parents ≡ old.parents
  pub kept : (response ≡ Replies Done → ⊥) → new ≡ old

-- a limit rejects a call with this file, or the engine answers it
abbrev pub IsJudged : Limits → Kept → Call → Option (List ℕ) → Outcome → Kept → Type 0
IsJudged limits old call incoming outcome new =
    IsRefused limits old call incoming outcome new ⊎ IsAnswered limits old call incoming outcome new

-- a call is judged with its one file, or with none
abbrev pub CallIsJudged : Limits → Kept → Call → Outcome → Kept → Type 0
CallIsJudged limits old call outcome new =
    (incoming : Option (List ℕ)) × CallBrings limits call incoming × IsJudged limits old call incoming outcome new

-- or memory runs out for it
abbrev pub CallComesTo : Limits → Kept → Call → Outcome → Kept → Type 0
CallComesTo limits old call outcome new = Starves limits old call outcome new ⊎ CallIsJudged limits old call outcome new
