-- Defines how much an application stores, and how many applications have bundles, a rule of this project.
use Rattle.std.specs.Prelude.{◌≢◌, ℕ, List, [], ◌∷◌, Some, length, sum_by}
use Rattle.std.specs.List.{IsDistinct}
use Rattle.std.specs.Map.{lookup, keys_of}
use Rattle.std.specs.Str.{bytes_eq}
use Rattle.rb_packages.specs.Packages.{Files, Stored}

-- the total length of files
abbrev pub bytes_of : Files → ℕ
bytes_of files = sum_by (λ e. length e.1) files

-- the number of applications with bundles
abbrev pub apps_of : Stored → ℕ
apps_of stored = length stored.owned

-- the increase of that number if an application with these files gets one: 1 if it has none
abbrev pub more_apps : Files → ℕ
more_apps [] = 1
more_apps (e ∷ es) = 0

-- each application has a bundle
abbrev pub AllHaveBundles : List (List ℕ × Files) → Type 0
AllHaveBundles owned = (app : List ℕ) → lookup (bytes_eq app) owned ≢ Some []

-- each application occurs once, and has a bundle
pub record AreThereOnce (stored : Stored) : Type 0 where
  pub once : IsDistinct bytes_eq (keys_of stored.owned)
  pub filled : AllHaveBundles stored.owned
