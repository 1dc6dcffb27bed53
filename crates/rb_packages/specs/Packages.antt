-- Defines the bundles of ICUDATA and of each application, each package a separate list, a rule of this project.
use Rattle.std.specs.Prelude.{◌≡◌, ◌≢◌, ℕ, List, [], Option, Some, None, Result, Ok, Err, map, unwrap_or, if◌then◌else◌}
use Rattle.std.specs.Map.{lookup}
use Rattle.std.specs.Str.{bytes_eq}
use Rattle.rb_format.specs.File.{source_tree_of}
use Rattle.rb_packages.specs.Shelf.{Shelf, holds, is_full}
use Rattle.rb_packages.specs.declared.fault.PackFault.{PackFault}
use Rattle.rb_packages.specs.declared.fault.PackFault.TheVariants.{Twice, Exists, Full, Memory}

-- the names of bundles and their files, in the order of installation
abbrev pub Files : Type 0
Files = List (List ℕ × List ℕ)

abbrev pub shelf_of : Files → Shelf
shelf_of files = map (λ e. (e.0, source_tree_of e.1)) files

-- the model of packages
pub record Stored : Type 0 where
  pub icudata : Files
  pub owned : List (List ℕ × Files)

-- the files of ICUDATA's bundles
abbrev pub icudata_files : Stored → Files
icudata_files stored = stored.icudata

-- the bundles of ICUDATA
abbrev pub icudata_of : Stored → Shelf
icudata_of stored = shelf_of (icudata_files stored)

-- the files of an application's bundles, or none for an unknown application
abbrev pub files_of : List ℕ → Stored → Files
files_of app stored = unwrap_or (lookup (bytes_eq app) stored.owned) []

-- an application's bundles
abbrev pub list_of : List ℕ → Stored → Shelf
list_of app stored = shelf_of (files_of app stored)

-- the file of the application's bundle with a name
abbrev pub file_at : List ℕ → List ℕ → Stored → Option (List ℕ)
file_at app name stored = lookup (bytes_eq name) (files_of app stored)

-- the bundles of ICUDATA and of all other applications are unchanged, and so are their files
pub record OthersStay (app : List ℕ) (old new : Stored) : Type 0 where
  pub icudata : icudata_of new ≡ icudata_of old
  pub icudata_bytes : icudata_files new ≡ icudata_files old
  pub others : (other : List ℕ) → other ≢ app → list_of other new ≡ list_of other old
  pub files : (other : List ℕ) → other ≢ app → files_of other new ≡ files_of other old

-- the reason why a bundle can't be installed under a name
abbrev pub install_fault : List ℕ → Shelf → Option PackFault
install_fault name shelf = if holds name shelf then Some Exists else if is_full shelf then Some Full else None

-- the reason why a bundle can't be loaded under a name
abbrev pub load_fault : List ℕ → Shelf → Option PackFault
load_fault name shelf = if holds name shelf then Some Twice else None

-- the fault if there is one, else success or `Memory`
abbrev pub IsJudged : {A B : Type 0} → Option PackFault → Result A (PackFault × B) → Type 0
IsJudged fault (Ok a) = fault ≡ None
IsJudged None (Err e) = e.0 ≡ Memory
IsJudged (Some fault) (Err e) = e.0 ≡ fault
