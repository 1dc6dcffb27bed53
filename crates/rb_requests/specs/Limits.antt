-- Defines when a limit rejects a call of an application, a rule of this project.
use Rattle.std.specs.Prelude.{ℕ, ◌+◌, ◌-◌, ◌^◌, ◌==◌, ◌&&◌, min, length, Bool, false, not, nat_lt, is_some, is_none}
use Rattle.std.specs.Prelude.{List, Option, Some, None}
use Rattle.std.specs.Prelude.{if◌then◌else◌, option_map, unwrap_or, Result, Ok, Err}
use Rattle.std.specs.Map.{lookup}
use Rattle.std.specs.Str.{bytes_eq}
use Rattle.rb_packages.specs.Shelf.{Shelf}
use Rattle.rb_packages.specs.Packages.{Files, files_of, list_of}
use Rattle.rb_packages.specs.Usage.{bytes_of, apps_of}
use Rattle.rb_engine.specs.Ask.{Call, Requests, LooksUp}
use Rattle.rb_engine.specs.Answer.{Start}
use Rattle.rb_engine.specs.Kept.{Kept, state_of}
use Rattle.rb_engine.specs.Place.{place_of}
use Rattle.rb_engine.specs.Steps.{takes_more}
use Rattle.rb_engine.specs.declared.handle.Change.{Change}
use Rattle.rb_engine.specs.declared.handle.Change.TheVariants as change
use Rattle.rb_engine.specs.declared.place.Place.{Place}
use Rattle.rb_engine.specs.declared.request.Payload.{Payload}
use Rattle.rb_engine.specs.declared.request.Payload.TheVariants.{Text, File}
use Rattle.rb_engine.specs.declared.request.Request.TheVariants as request
use Rattle.rb_requests.specs.declared.limits.Limits.{Limits}
use Rattle.rb_requests.specs.declared.limits.Refusal.{Refusal}
use Rattle.rb_requests.specs.declared.limits.Refusal.TheVariants.{BundleTooLong, OverQuota, TooManyApps, TooManySteps}
use Rattle.rb_packages.specs.Limits.{bundle_limit}

-- the greatest length of a line without its line feed, in bytes
abbrev pub line_limit : ℕ
line_limit = 268435456

-- a number above a limit, if there is one
abbrev pub is_over : Option ℕ → ℕ → Bool
is_over None n = false
is_over (Some most) n = nat_lt most n

-- the length of a text or a file before it is read
abbrev pub payload_len : Payload → ℕ
payload_len (Text bytes) = length bytes
payload_len (File bytes) = length bytes

-- the total length of an application's files, saturating at 64 bits
abbrev pub used : Files → ℕ
used files = min (bytes_of files) (2 ^ 64 - 1)

-- the length of the file of the bundle with a name, if there is one
abbrev pub len_at : List ℕ → Files → Option ℕ
len_at name files = option_map length (lookup (bytes_eq name) files)

-- the engine makes a change: an install if there is no bundle with the name and fewer than 4,096 bundles, a replacement
-- if there is one
abbrev pub takes_place : Change → Option ℕ → ℕ → Bool
takes_place change.Install held bundles = is_none held && nat_lt bundles bundle_limit
takes_place change.Replace held bundles = is_some held

-- Why limits reject a file under a name, for an application with these files, while this many applications have
-- bundles: the file is too long, the application's files would be, or there would be too many applications. Errors of
-- the engine aren't limits.
abbrev pub file_refusal : Limits → Change → List ℕ → Files → ℕ → List ℕ → Option Refusal
file_refusal limits change name files apps file =
    if not (takes_place change (len_at name files) (length files)) then None
    else if is_over limits.bundle_bytes (length file) then Some BundleTooLong
    else if is_over limits.app_bytes ((used files - unwrap_or (len_at name files) 0) + length file) then Some OverQuota
    else if (length files == 0) && is_over limits.apps (apps + 1) then Some TooManyApps
    else None

abbrev pub incoming_refusal : Limits → Kept → Change → Place → Option (List ℕ) → Option Refusal
incoming_refusal limits kept change p None = None
incoming_refusal limits kept change p (Some file) =
    file_refusal limits change p.name (files_of p.app kept.packages) (apps_of kept.packages) file

-- a payload that is too long is rejected before it is read, else its bundle's file is checked; invalid names are left
-- to the engine
abbrev pub change_refusal : {E : Type 0} → Limits → Kept → Change → Result Place E → Payload → Option (List ℕ)
    → Option Refusal
change_refusal limits kept change (Err e) payload incoming = None
change_refusal limits kept change (Ok p) payload incoming =
    if is_over limits.bundle_bytes (payload_len payload) then Some BundleTooLong
    else incoming_refusal limits kept change p incoming

-- a lookup that takes too many steps is rejected, whatever it would find; invalid names and paths are left to the
-- engine
abbrev pub steps_refusal : Option ℕ → Start → Shelf → (app locale path : List ℕ) → Option Refusal
steps_refusal None start shelf app locale path = None
steps_refusal (Some steps) start shelf app locale path =
    if takes_more steps start shelf (place_of app locale) path then Some TooManySteps else None

-- the limit that rejects a call with this file, if any
abbrev pub call_refusal : Limits → Kept → Call → Option (List ℕ) → Option Refusal
call_refusal limits kept (Requests (request.Install app locale payload)) incoming =
    change_refusal limits kept change.Install (place_of app locale) payload incoming
call_refusal limits kept (Requests (request.Replace app locale payload)) incoming =
    change_refusal limits kept change.Replace (place_of app locale) payload incoming
call_refusal limits kept (LooksUp app locale path) incoming =
    steps_refusal limits.steps (state_of kept).start (list_of app kept.packages) app locale path
call_refusal limits kept call incoming = None
