-- Defines which data opens a locale of an application for lookups: the indices of the bundles that are the stops of the
-- locale's trail. A rule of this project.
use Rattle.std.specs.Prelude.{◌≡◌, ◌≤◌, ◌⊎◌, ℕ, List, [], ◌∷◌, true, length, take}
use Rattle.std.specs.Prelude.{Option, option_and_then, option_map, Ok}
use Rattle.std.specs.List.{slice_get}
use Rattle.rb_tree.specs.Resource.{Resource}
use Rattle.rb_tree.specs.Path.{is_path}
use Rattle.rb_format.specs.File.{tree_of}
use Rattle.rb_parents.specs.Family.{parent_in}
use Rattle.rb_fallback.specs.Limits.{path_limit}
use Rattle.rb_fallback.specs.Stops.{AreStopsOf, CountsTrail}
use Rattle.rb_fallback.specs.declared.steps.TrailNames.{TrailNames}
use Rattle.rb_packages.specs.Shelf.{bundle_at}
use Rattle.rb_packages.specs.Packages.{Files, files_of, list_of}
use Rattle.rb_packages.specs.Positions.{files_at_index}
use Rattle.rb_engine.specs.Ask.{Looks}
use Rattle.rb_engine.specs.Answer.{Refuses, answer_over}
use Rattle.rb_engine.specs.Kept.{Kept, state_of}
use Rattle.rb_engine.specs.Place.{place_of}
use Rattle.rb_engine.specs.Version.{is_current, next_version}
use Rattle.rb_engine.specs.declared.open_locale.OpenLocale.{OpenLocale}
use Rattle.rb_engine.specs.declared.place.Place.{Place}
use Rattle.rb_engine.specs.declared.request.LookFault.{LookFault}

-- the indices of the stops' bundles
abbrev pub stop_indices : OpenLocale → List ℕ
stop_indices opened = take opened.count opened.stops

-- the name of the file at an index, with its tree
abbrev pub named_tree : Files → ℕ → Option (List ℕ × Resource)
named_tree files i = option_map (λ e. (e.0, tree_of e.1)) (slice_get files i)

-- the i-th of the stops, if these are the application's files
abbrev pub opened_stop : OpenLocale → Files → ℕ → Option (List ℕ × Resource)
opened_stop opened files i = option_and_then (named_tree files) (slice_get (stop_indices opened) i)

-- the application has these bundles, and the stops are those of the locale's trail
pub record IsOpenLocale (opened : OpenLocale) (engine : Kept) (app locale : List ℕ) : Type 0 where
  pub place : Place
  pub read : place_of app locale ≡ Ok place
  pub files : files_at_index engine.packages opened.app ≡ files_of app engine.packages
  pub stops : AreStopsOf (opened_stop opened (files_of app engine.packages)) (bundle_at (list_of app engine.packages))
      (parent_in engine.parents) place.name

-- the numbers of names of its trail
abbrev pub names_of : OpenLocale → TrailNames
names_of opened = record { all = opened.names; from_valid = opened.from_valid }

-- it has the numbers of the trail's names, by which the steps of a lookup count
abbrev pub CountsNames : OpenLocale → Kept → List ℕ → List ℕ → Type 0
CountsNames opened engine app locale = (place : Place) → place_of app locale ≡ Ok place
    → CountsTrail (names_of opened) (bundle_at (list_of app engine.packages)) (parent_in engine.parents) place.name

-- a lookup of any path that isn't too long ends with this error
abbrev pub RefusesAll : Kept → List ℕ → List ℕ → LookFault → Type 0
RefusesAll engine app locale fault = (path : List ℕ) → is_path path ≡ true → length path ≤ path_limit
    → answer_over (state_of engine).start ((state_of engine).lists app) (Looks app locale path) ≡ Refuses fault

-- ---- an engine over time

-- a call changes nothing, or raises the version
abbrev pub Follows : Kept → Kept → Type 0
Follows old new = (new ≡ old) ⊎ (new.version ≡ next_version old.version)

-- an engine before and after some calls, with its states in between
abbrev pub IsReached : Kept → List Kept → Kept → Type 0
IsReached first [] last = Follows first last
IsReached first (mid ∷ later) last = Follows first mid × IsReached mid later last

-- an open locale stays one as long as its version is current
abbrev pub StaysOpen : Type 0
StaysOpen =
    (opened : OpenLocale) (app locale : List ℕ) (first last : Kept) (between : List Kept)
    → IsOpenLocale opened first app locale → opened.version ≡ first.version → IsReached first between last
    → is_current opened.version last.version ≡ true → IsOpenLocale opened last app locale

-- nor do the numbers of its names change
abbrev pub StaysCounted : Type 0
StaysCounted =
    (opened : OpenLocale) (app locale : List ℕ) (first last : Kept) (between : List Kept)
    → CountsNames opened first app locale → opened.version ≡ first.version → IsReached first between last
    → is_current opened.version last.version ≡ true → CountsNames opened last app locale
