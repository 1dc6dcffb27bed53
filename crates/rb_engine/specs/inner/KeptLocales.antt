-- For private contracts and proofs only: the locales that an engine keeps open.
use Rattle.std.specs.Prelude.{◌≡◌, ◌<◌, ◌≤◌, ℕ, List, Bool, true, IfSome, Option, Some, Ok}
use Rattle.std.specs.List.{slice_get}
use Rattle.rb_parents.specs.Trail.{ParentsOf}
use Rattle.rb_fallback.specs.Stops.{AreStopsOf, CountsTrail}
use Rattle.rb_packages.specs.Packages.{Files, Stored, files_of, icudata_of, list_of, shelf_of}
use Rattle.rb_packages.specs.Shelf.{bundle_at}
use Rattle.rb_engine.specs.Answer.{Response, lookup_in}
use Rattle.rb_engine.specs.OpenLocale.{names_of, opened_stop}
use Rattle.rb_engine.specs.Place.{place_of}
use Rattle.rb_engine.specs.Steps.{exceeds_from}
use Rattle.rb_engine.specs.Version.{is_current, last_version}
use Rattle.rb_engine.specs.inner.LastChanges.{version_in}
use Rattle.rb_engine.specs.declared.open_locale.OpenLocale.{OpenLocale}
use Rattle.rb_engine.specs.declared.open_locales.Slot.{Slot}
use Rattle.rb_engine.specs.declared.place.Place.{Place}

-- over these files, the stops are those of a name, and the names of its trail are counted
pub record IsOpenOver (opened : OpenLocale) (files : Files) (parents : ParentsOf) (name : List ℕ) : Type 0 where
  pub stops : AreStopsOf (opened_stop opened files) (bundle_at (shelf_of files)) parents name
  pub names : CountsTrail (names_of opened) (bundle_at (shelf_of files)) parents name

-- the stops are those of a name, and if there is a limit, the names of its trail are counted
pub record IsOpenWithin (left : Option ℕ) (opened : OpenLocale) (files : Files) (parents : ParentsOf) (name : List ℕ) : Type 0 where
  pub stops : AreStopsOf (opened_stop opened files) (bundle_at (shelf_of files)) parents name
  pub names : IfSome left (λ _. CountsTrail (names_of opened) (bundle_at (shelf_of files)) parents name)

abbrev pub IsOpenAt : OpenLocale → Stored → ParentsOf → Place → Type 0
IsOpenAt opened packages parents place = IsOpenOver opened (files_of place.app packages) parents place.name

-- these names lead to the place of a slot, which is open
pub record IsOpenFor (slot : Slot) (packages : Stored) (parents : ParentsOf) (app locale : List ℕ) : Type 0 where
  pub read : place_of app locale ≡ Ok slot.place
  pub open_there : IsOpenAt slot.opened packages parents slot.place

-- the response is that of a lookup from the place to which these names lead
pub record IsAnsweredFor (response : Response) (packages : Stored) (parents : ParentsOf) (app locale path : List ℕ) : Type 0 where
  pub place : Place
  pub read : place_of app locale ≡ Ok place
  pub answer : response ≡ lookup_in (bundle_at (list_of place.app packages)) (bundle_at (icudata_of packages)) parents place.name path

-- whether the lookup from the place to which these names lead takes more steps than a limit
pub record TakesMoreFor (more : Bool) (left : Option ℕ) (packages : Stored) (parents : ParentsOf) (app locale path : List ℕ) : Type 0 where
  pub place : Place
  pub read : place_of app locale ≡ Ok place
  pub takes : exceeds_from left (bundle_at (list_of place.app packages)) (bundle_at (icudata_of packages)) parents place.name path
      ≡ more

-- a slot has canonical names; one of the version of its application is open, and none is of a later one than the latest
pub record IsKept (slot : Slot) (packages : Stored) (parents : ParentsOf) (versions : List ℕ) (latest : ℕ) : Type 0 where
  pub read : place_of slot.place.app slot.place.name ≡ Ok slot.place
  pub open_now : is_current slot.opened.version (version_in versions slot.place.app) ≡ true
      → IsOpenAt slot.opened packages parents slot.place
  pub not_later : slot.opened.version < last_version → slot.opened.version ≤ latest

abbrev pub AreKept : List (Option Slot) → Stored → ParentsOf → List ℕ → ℕ → Type 0
AreKept slots packages parents versions latest =
    (i : ℕ) (slot : Slot) → slice_get slots i ≡ Some (Some slot) → IsKept slot packages parents versions latest
