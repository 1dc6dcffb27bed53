-- Defines the changes that a release makes together, or the reason why it makes none, a rule of this project.
use Rattle.std.specs.Prelude.{◌≡◌, ◌⊎◌, ◌+◌, ◌≤◌, ◌==◌, ◌&&◌, ◌++◌, ℕ, true, false, List, [], ◌∷◌, length, take, nat_lt}
use Rattle.std.specs.Prelude.{MatchBool, MatchOption, if◌then◌else◌}
use Rattle.std.specs.Prelude.{Option, Some, None, Result, Ok, Err, codes}
use Rattle.std.specs.List.{slice_get}
use Rattle.rb_locales.specs.Locale.{name}
use Rattle.rb_packages.specs.App.{app_of}
use Rattle.rb_packages.specs.Limits.{bundle_limit}
use Rattle.rb_packages.specs.Packages.{Files, files_of, OthersStay}
use Rattle.rb_packages.specs.Release.{Edits, Drafted, edited, sizes_of, put_fault, removal_fault}
use Rattle.rb_packages.specs.Usage.{apps_of}
use Rattle.rb_packages.specs.Words.{app_word, draft_word}
use Rattle.rb_packages.specs.declared.app.AppFault.{AppFault}
use Rattle.rb_packages.specs.declared.fault.DraftFault.{DraftFault}
use Rattle.rb_engine.specs.Kept.{Kept}
use Rattle.rb_engine.specs.Place.{place_of}
use Rattle.rb_engine.specs.Version.{next_version}
use Rattle.rb_engine.specs.declared.place.Place.{Place}
use Rattle.rb_requests.specs.ExtendedAsked.{ReleaseChange, PutsAt, RemovesAt}
use Rattle.rb_requests.specs.Limits.{is_over, used}
use Rattle.rb_requests.specs.Refused.{Reason, only, at_index, IsUnread}
use Rattle.rb_requests.specs.Steps.{BringsAt}
use Rattle.rb_requests.specs.Words.{refusal_word}
use Rattle.rb_requests.specs.declared.limits.Limits.{Limits}
use Rattle.rb_requests.specs.declared.limits.Refusal.{Refusal}
use Rattle.rb_requests.specs.declared.limits.Refusal.TheVariants.{OverQuota, TooManyApps}

-- an application's files after some edits, as the draft of a release counts them
abbrev pub draft_of : (app : List ℕ) → Files → Edits → Drafted
draft_of app files edits = record { app = app; edits = edits; sizes = sizes_of (edited edits files) }

-- the edit of a change that a draft takes: under the locale's name the file of its bundle, or none
abbrev pub HasEdit : Limits → (app : List ℕ) → Drafted → ReleaseChange → List ℕ × Option (List ℕ) → Type 0
HasEdit limits app draft (PutsAt locale payload) edit = (p : Place) × (file : List ℕ) × (place_of app locale ≡ Ok p)
    × BringsAt limits (place_of app locale) payload (Some file) × (put_fault p.name draft ≡ None)
    × (is_over limits.bundle_bytes (length file) ≡ false) × (edit ≡ (p.name, Some file))
HasEdit limits app draft (RemovesAt locale) edit =
    (n : List ℕ) × (name locale ≡ Some n) × (removal_fault n draft ≡ None) × (edit ≡ (n, None))

-- the edits of changes of an application's files, each taken after those that are `done` and those before it
abbrev pub HaveEdits : Limits → (app : List ℕ) → Files → (done : Edits) → List ReleaseChange → Edits → Type 0
HaveEdits limits app files done [] [] = Unit {0}
HaveEdits limits app files done (c ∷ cs) (e ∷ es) =
    HasEdit limits app (draft_of app files done) c e × HaveEdits limits app files (done ++ e ∷ []) cs es
HaveEdits limits app files done cs es = ⊥

-- ---- refusals

-- the draft doesn't take the change: the application would have too many bundles, or none with the name
abbrev pub IsUntaken : Reason → DraftFault → Type 0
IsUntaken r fault = r ≡ only (draft_word fault)

-- a payload isn't read, a bundle that the draft takes has a file that is too long, or a removal has no name
abbrev pub IsRefusedChange : Limits → (app : List ℕ) → Drafted → ReleaseChange → Reason → Type 0
IsRefusedChange limits app draft (PutsAt locale payload) r = IsUnread limits app locale payload r
    ⊎ ((p : Place) × (file : List ℕ) × (place_of app locale ≡ Ok p)
    × BringsAt limits (place_of app locale) payload (Some file) × MatchOption (put_fault p.name draft)
    ((is_over limits.bundle_bytes (length file) ≡ true) × (r ≡ only (codes "BundleTooLong"))) (IsUntaken r))
IsRefusedChange limits app draft (RemovesAt locale) r = MatchOption (name locale) (r ≡ only (codes "BadLocale"))
    (λ n. MatchOption (removal_fault n draft) ⊥ (IsUntaken r))

-- a change above the limit is refused for that, whatever else is wrong with it
abbrev pub IsRefusedAt : Limits → (app : List ℕ) → Drafted → ℕ → ReleaseChange → Reason → Type 0
IsRefusedAt limits app draft index change r =
    MatchBool (nat_lt index bundle_limit) (IsRefusedChange limits app draft change r) (r ≡ only (codes "Full"))

-- the first change that is refused, with its index, after the edits of those before it
abbrev pub IsFirstRefused : Limits → (app : List ℕ) → Files → List ReleaseChange → Reason → Type 0
IsFirstRefused limits app files cs r = (index : ℕ) × (change : ReleaseChange)
    × (slice_get cs index ≡ Some change) × (edits : Edits) × HaveEdits limits app files [] (take index cs) edits
    × (why : Reason) × IsRefusedAt limits app (draft_of app files edits) index change why × (r ≡ at_index index why)

-- the limit that refuses all changes together, which lead from files to others, while this many applications have
-- bundles: the files would be too long, or an application more would have some
abbrev pub sum_refusal : Limits → (before after : Files) → (apps : ℕ) → Option Refusal
sum_refusal limits before after apps =
    if is_over limits.app_bytes (used after) then Some OverQuota
    else if (nat_lt 0 (length after) && (length before == 0)) && is_over limits.apps (apps + 1) then Some TooManyApps
    else None

abbrev pub IsSumRefused : Limits → Kept → (app : List ℕ) → Edits → Reason → Type 0
IsSumRefused limits kept app edits r = (refusal : Refusal) × (sum_refusal limits (files_of app kept.packages)
    (edited edits (files_of app kept.packages)) (apps_of kept.packages) ≡ Some refusal)
    × (r ≡ only (refusal_word refusal))

-- the application's name is checked first, then each change, and then their sum
abbrev pub IsUnreleased : Limits → Kept → List ℕ → Result (List ℕ) AppFault → List ReleaseChange → Reason → Type 0
IsUnreleased limits kept app (Err e) changes r = r ≡ only (app_word e)
IsUnreleased limits kept app (Ok a) changes r = IsFirstRefused limits app (files_of a kept.packages) changes r
    ⊎ ((edits : Edits) × HaveEdits limits app (files_of a kept.packages) [] changes edits
    × IsSumRefused limits kept a edits r)

-- ---- a release that is made

-- all changes are made in their order, at most as many as an application may have bundles, and nothing else
pub record IsReleased (limits : Limits) (old : Kept) (app : List ℕ) (changes : List ReleaseChange)
    (new : Kept) : Type 0 where
  pub own : List ℕ
  pub is : app_of app ≡ Ok own
  pub few : length changes ≤ bundle_limit
  pub edits : Edits
  pub all : HaveEdits limits app (files_of own old.packages) [] changes edits
  pub files : files_of own new.packages ≡ edited edits (files_of own old.packages)
  pub free : sum_refusal limits (files_of own old.packages) (files_of own new.packages) (apps_of old.packages) ≡ None
  pub others : OthersStay own old.packages new.packages
  pub parents : new.parents ≡ old.parents
  pub version : new.version ≡ next_version old.version
