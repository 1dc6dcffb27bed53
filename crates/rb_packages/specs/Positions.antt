-- Defines the bundles of a package by their indices, in the order of installation, a rule of this project.
use Rattle.std.specs.Prelude.{◌≡◌, ℕ, Bool, List, [], Option, Some, None, false, option_map, unwrap_or, ◌&&◌}
use Rattle.std.specs.List.{slice_get}
use Rattle.std.specs.Map.{lookup}
use Rattle.std.specs.Str.{bytes_eq}
use Rattle.rb_tree.specs.Resource.{Resource}
use Rattle.rb_format.specs.File.{tree_of}
use Rattle.rb_packages.specs.Packages.{Files, Stored}
use Rattle.rb_packages.specs.declared.hint.BundleHint.{BundleHint}

-- the file at an index has this name, and the name finds this file
abbrev pub IsIndexOf : Files → List ℕ → ℕ → Type 0
IsIndexOf files name i = (file : List ℕ) × (slice_get files i ≡ Some (name, file))
    × (lookup (bytes_eq name) files ≡ Some file)

-- the name of the file at an index, and the tree that it denotes
abbrev pub name_at : Files → ℕ → Option (List ℕ)
name_at files i = option_map (λ e. e.0) (slice_get files i)

abbrev pub tree_at : Files → ℕ → Option Resource
tree_at files i = option_map (λ e. tree_of e.1) (slice_get files i)

-- true if there is a file with this name at an index
abbrev pub has_name_at : Files → ℕ → List ℕ → Bool
has_name_at files i name = unwrap_or (option_map (λ e. bytes_eq e.0 name) (slice_get files i)) false

-- the files of the application at an index, or none
abbrev pub files_at_index : Stored → ℕ → Files
files_at_index stored i = unwrap_or (option_map (λ e. e.1) (slice_get stored.owned i)) []

-- true if there is an application with this name, and its file at the index has that one
abbrev pub is_bundle_at : Stored → BundleHint → List ℕ → List ℕ → Bool
is_bundle_at stored hint app name = unwrap_or
    (option_map (λ e. bytes_eq e.0 app && has_name_at e.1 hint.bundle name) (slice_get stored.owned hint.app)) false
