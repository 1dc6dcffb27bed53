-- For what is private. Defines the effect of judging the changes of a release, and of adding them to a draft.
use Rattle.std.specs.Prelude.{◌≡◌, ◌≤◌, ◌+◌, ◌==◌, ◌&&◌, ◌++◌, ◌∷◌, [], ℕ, true, List, length, nat_lt, codes}
use Rattle.std.specs.Prelude.{if◌then◌else◌, MatchOption, Option, Some, None, Result, Ok, Err}
use Rattle.rb_packages.specs.Limits.{bundle_limit}
use Rattle.rb_packages.specs.Packages.{Files}
use Rattle.rb_packages.specs.Release.{Drafted, IsDraftOf, put_fault}
use Rattle.rb_packages.specs.Words.{draft_word}
use Rattle.rb_packages.specs.declared.fault.DraftFault.{DraftFault}
use Rattle.rb_packages.specs.declared.fault.DraftFault.TheVariants.{Absent, Full, Memory}
use Rattle.rb_engine.specs.declared.place.Place.{Place}
use Rattle.rb_requests.specs.ExtendedAsked.{ReleaseChange}
use Rattle.rb_requests.specs.Refused.{Reason, only, at_index}
use Rattle.rb_requests.specs.Released.{HasEdit, HaveEdits, IsRefusedChange, IsRefusedAt, IsFirstRefused, IsUntaken}
use Rattle.rb_requests.specs.Limits.{is_over}
use Rattle.rb_requests.specs.inner.Judged.{IfRefused}
use Rattle.rb_requests.specs.declared.judged.Unmade.{Unmade}
use Rattle.rb_requests.specs.declared.limits.Limits.{Limits}
use Rattle.rb_requests.specs.declared.limits.Refusal.{Refusal}
use Rattle.rb_requests.specs.declared.limits.Refusal.TheVariants.{OverQuota, TooManyApps}

-- a bundle that the draft takes is refused for its file's length
abbrev pub IsPutRefused : Limits → Drafted → Place → (file : List ℕ) → Reason → Type 0
IsPutRefused limits draft p file r = MatchOption (put_fault p.name draft)
    ((is_over limits.bundle_bytes (length file) ≡ true) × (r ≡ only (codes "BundleTooLong"))) (IsUntaken r)

-- the reason why a draft doesn't take a change, which is none if memory ran out
abbrev pub untaken_reason : DraftFault → Option Reason
untaken_reason Absent = Some (only (draft_word Absent))
untaken_reason Full = Some (only (draft_word Full))
untaken_reason Memory = None

-- a draft with one edit more, which counts the files that there would be
pub record Adds (old : Drafted) (edit : List ℕ × Option (List ℕ)) (new : Drafted) : Type 0 where
  pub edits : new.edits ≡ old.edits ++ edit ∷ []
  pub counts : (files : Files) → IsDraftOf files old → IsDraftOf files new

-- a change is added after the others, or it is refused
abbrev pub Drafts : Limits → (app : List ℕ) → ReleaseChange → Drafted → Result (Unit {0}) Unmade → Drafted → Type 0
Drafts limits app change old (Ok x) new =
    (edit : List ℕ × Option (List ℕ)) × HasEdit limits app old change edit × Adds old edit new
Drafts limits app change old (Err unmade) new = IfRefused unmade (IsRefusedChange limits app old change)

-- the reason of the change at an index
abbrev pub IsReasonAt : Limits → (app : List ℕ) → Drafted → ℕ → ReleaseChange → Reason → Type 0
IsReasonAt limits app draft index change r =
    (why : Reason) × IsRefusedAt limits app draft index change why × (r ≡ at_index index why)

-- `Drafts` for the change at an index
abbrev pub DraftsAt : Limits → (app : List ℕ) → ℕ → ReleaseChange → Drafted → Result (Unit {0}) Unmade → Drafted
    → Type 0
DraftsAt limits app index change old (Ok x) new =
    (edit : List ℕ × Option (List ℕ)) × HasEdit limits app old change edit × Adds old edit new
DraftsAt limits app index change old (Err unmade) new = IfRefused unmade (IsReasonAt limits app old index change)

-- all changes are added, or the first that is refused is the reason
abbrev pub DraftsAll : Limits → (app : List ℕ) → Files → List ReleaseChange → Result (Unit {0}) Unmade → Drafted
    → Type 0
DraftsAll limits app files changes (Ok x) draft =
    HaveEdits limits app files [] changes draft.edits × IsDraftOf files draft × (length changes ≤ bundle_limit)
DraftsAll limits app files changes (Err unmade) draft = IfRefused unmade (IsFirstRefused limits app files changes)

-- the limit that refuses a sum of files, where this many bundles had been stored
abbrev pub refusal_by : Limits → (bytes bundles stored apps : ℕ) → Option Refusal
refusal_by limits bytes bundles stored apps =
    if is_over limits.app_bytes bytes then Some OverQuota
    else if (nat_lt 0 bundles && (stored == 0)) && is_over limits.apps (apps + 1) then Some TooManyApps
    else None
