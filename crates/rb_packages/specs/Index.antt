-- Defines the model of the program's index: the files of each application, for proofs only.
use Rattle.std.specs.Prelude.{◌≡◌, ◌≢◌, ℕ, List, [], Option, Some, None, map, option_map}
use Rattle.std.specs.Map.{lookup}
use Rattle.std.specs.Str.{bytes_eq}
use Rattle.indexmap.specs.IndexMap.{IndexMap}
use Rattle.rb_packages.specs.Packages.{Files}

-- applications with their packages; S hashes their names
abbrev pub Rows : Type 0 → Type 0
Rows S = List (List ℕ × IndexMap (List ℕ) (List ℕ) S)

module _ {S : Type 0} where
  -- a package's files, if there is one
  abbrev pub entries_of : Option (IndexMap (List ℕ) (List ℕ) S) → Files
  entries_of None = []
  entries_of (Some bundles) = bundles.entries

  -- an application's files
  abbrev pub files_at : List ℕ → Rows S → Files
  files_at app rows = entries_of (lookup (bytes_eq app) rows)

  -- all applications' files
  abbrev pub files_by_app : Rows S → List (List ℕ × Files)
  files_by_app rows = map (λ e. (e.0, e.1.entries)) rows

  -- the packages of all other applications are unchanged
  abbrev pub KeepsOthers : List ℕ → Rows S → Rows S → Type 0
  KeepsOthers app old new = (other : List ℕ) → other ≢ app → lookup (bytes_eq other) new ≡ lookup (bytes_eq other) old

  -- a package without files
  abbrev pub IsBare : Option (IndexMap (List ℕ) (List ℕ) S) → Type 0
  IsBare o = option_map (λ m. m.entries) o ≡ Some []
