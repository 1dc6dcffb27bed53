-- Defines the changes of an application's bundles that a C program makes together, a rule of this project. They are taken
-- one after another by a draft (rb_packages), which stores the names and lengths that there would be.
use Rattle.std.specs.Prelude.{◌≡◌, ℕ, List, [], ◌∷◌, ◌++◌, Option, Some, None, Result, Ok, Err, length, map, take, slice_get, All}
use Rattle.std.specs.Map.{remove_entry}
use Rattle.std.specs.Str.{bytes_eq}
use Rattle.indexmap.specs.IndexMap.{insert_entry}
use Rattle.rb_locales.specs.Locale.{name}
use Rattle.rb_packages.specs.App.{app_of}
use Rattle.rb_packages.specs.Packages.{Files, files_of, OthersStay}
use Rattle.rb_packages.specs.Release.{Drafted, Sizes, edited, sizes_of, put_fault, removal_fault}
use Rattle.rb_packages.specs.Words.{draft_word}
use Rattle.rb_packages.specs.declared.app.AppFault.{AppFault}
use Rattle.rb_packages.specs.declared.fault.DraftFault.{DraftFault}
use Rattle.rb_engine.specs.Kept.{Kept}
use Rattle.rb_engine.specs.Version.{next_version}
use Rattle.resb.specs.Numbers.{app_number, code_number, request_codes}
use Rattle.resb.specs.declared.edit.Edit.{Edit}

-- the name of a locale, if it is one, and a new file, or none if the old one is removed
abbrev pub Change : Type 0
Change = Option (List ℕ) × Option (List ℕ)

abbrev pub change_of : Edit → Change
change_of edit = (name edit.locale.now, edit.bundle.file)

-- the number of the reason why a draft doesn't take a change, or 0
abbrev pub draft_number : Option DraftFault → ℕ
draft_number None = 0
draft_number (Some fault) = code_number 11 request_codes (draft_word fault)

abbrev pub change_number : Drafted → Option (List ℕ) → Option (List ℕ) → ℕ
change_number drafted None file = 13
change_number drafted (Some n) None = draft_number (removal_fault n drafted)
change_number drafted (Some n) (Some file) = draft_number (put_fault n drafted)

abbrev pub sizes_after : List ℕ → Option (List ℕ) → Sizes → Sizes
sizes_after n None sizes = remove_entry (bytes_eq n) sizes
sizes_after n (Some file) sizes = insert_entry bytes_eq sizes n (length file)

-- the draft with one more change
abbrev pub with_change : Option (List ℕ) → Option (List ℕ) → Drafted → Drafted
with_change None file d = d
with_change (Some n) file d =
    record { app = d.app; edits = d.edits ++ (n, file) ∷ []; sizes = sizes_after n file d.sizes }

-- a draft takes changes, one after another, and is another then
abbrev pub Takes : Drafted → List Change → Drafted → Type 0
Takes first [] last = last ≡ first
Takes first (c ∷ cs) last = (change_number first c.0 c.1 ≡ 0) × Takes (with_change c.0 c.1 first) cs last

-- a draft of an application without changes
abbrev pub begun : (app : List ℕ) → Files → Drafted
begun app files = record { app = app; edits = []; sizes = sizes_of files }

-- all changes are made, and nothing else
pub record IsReleased (old : Kept) (app : List ℕ) (changes : List Change) (new : Kept) : Type 0 where
  pub own : List ℕ
  pub is : app_of app ≡ Ok own
  pub last : Drafted
  pub takes : Takes (begun own (files_of own old.packages)) changes last
  pub files : files_of own new.packages ≡ edited last.edits (files_of own old.packages)
  pub others : OthersStay own old.packages new.packages
  pub parents : new.parents ≡ old.parents
  pub version : new.version ≡ next_version old.version

-- a draft refuses one of the changes after those before it, with this number
abbrev pub IsFirstRefused : Drafted → List Change → (n place : ℕ) → Type 0
IsFirstRefused first changes n place = (change : Change) × (slice_get changes place ≡ Some change)
    × (before : Drafted) × Takes first (take place changes) before × (n ≡ change_number before change.0 change.1)

-- the application's name is checked first
abbrev pub IsUnreleased : Kept → Result (List ℕ) AppFault → List Change → ℕ → ℕ → Type 0
IsUnreleased engine (Err fault) changes n place = n ≡ app_number fault
IsUnreleased engine (Ok app) changes n place = IsFirstRefused (begun app (files_of app engine.packages)) changes n place

abbrev pub locales_of : List Edit → List (List ℕ)
locales_of edits = map (λ e. e.locale.now) edits

abbrev pub HaveNoBundles : List Edit → Type 0
HaveNoBundles edits = All (λ e. e.bundle.file ≡ None) edits
