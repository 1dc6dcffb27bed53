-- For private contracts and proofs only: the items that an engine keeps for its lookups.
use Rattle.std.specs.Prelude.{◌≡◌, ◌<◌, ◌≤◌, ℕ, List, true, false, cond, Option, Some, Ok}
use Rattle.std.specs.List.{slice_get}
use Rattle.rb_tree.specs.Resource.{Resource}
use Rattle.rb_tree.specs.Path.{segments}
use Rattle.rb_tree.specs.Walk.{walk, stop_of, end}
use Rattle.rb_parents.specs.Trail.{ParentsOf}
use Rattle.rb_fallback.specs.Search.{Hit}
use Rattle.rb_packages.specs.Packages.{Files, Stored, files_of, icudata_files, icudata_of, list_of}
use Rattle.rb_packages.specs.Positions.{name_at, tree_at}
use Rattle.rb_packages.specs.Shelf.{bundle_at}
use Rattle.rb_engine.specs.Answer.{Finds, lookup_in}
use Rattle.rb_engine.specs.Place.{place_of}
use Rattle.rb_engine.specs.Steps.{takes_more_from}
use Rattle.rb_engine.specs.Version.{is_current, last_version}
use Rattle.rb_engine.specs.inner.LastChanges.{version_in}
use Rattle.rb_engine.specs.declared.kept_items.KeptItem.{KeptItem}
use Rattle.rb_engine.specs.declared.spot.Spot.{Spot}

-- the files among which the item is, of the application or of ICUDATA
abbrev pub spot_files : Spot → Files → Files → Files
spot_files spot own icudata = cond spot.icudata icudata own

-- at a spot there is this item, with the names of its bundle and of the first stop
pub record IsAtSpot (spot : Spot) (own icudata : Files) (hit : Hit) (valid : List ℕ) : Type 0 where
  pub root : Resource
  pub there : tree_at (spot_files spot own icudata) spot.actual ≡ Some root
  pub ends : stop_of (walk root (segments spot.path)) ≡ end hit.tree
  pub actual : name_at (spot_files spot own icudata) spot.actual ≡ Some hit.actual
  pub first : name_at own spot.valid ≡ Some valid

-- if an item is there, it is what the lookup finds
abbrev pub IsAnswer : KeptItem → Stored → ParentsOf → Type 0
IsAnswer item packages parents = (hit : Hit) (valid : List ℕ)
    → IsAtSpot item.spot (files_of item.place.app packages) (icudata_files packages) hit valid
    → lookup_in (bundle_at (list_of item.place.app packages)) (bundle_at (icudata_of packages)) parents item.place.name item.path
    ≡ Finds hit valid

-- the steps suffice for the lookup
abbrev pub IsWithinSteps : KeptItem → Stored → ParentsOf → Type 0
IsWithinSteps item packages parents = takes_more_from item.steps (bundle_at (list_of item.place.app packages))
    (bundle_at (icudata_of packages)) parents item.place.name item.path ≡ false

-- an item has canonical names; one of the version of its application is the answer, and none is of a later one than the latest
pub record IsItemKept (item : KeptItem) (packages : Stored) (parents : ParentsOf) (versions : List ℕ) (latest : ℕ) : Type 0 where
  pub read : place_of item.place.app item.place.name ≡ Ok item.place
  pub answers_now : is_current item.version (version_in versions item.place.app) ≡ true
      → IsAnswer item packages parents × IsWithinSteps item packages parents
  pub not_later : item.version < last_version → item.version ≤ latest

abbrev pub AreItemsKept : List (Option KeptItem) → Stored → ParentsOf → List ℕ → ℕ → Type 0
AreItemsKept slots packages parents versions latest =
    (i : ℕ) (item : KeptItem) → slice_get slots i ≡ Some (Some item) → IsItemKept item packages parents versions latest
