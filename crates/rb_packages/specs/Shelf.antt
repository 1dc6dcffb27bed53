-- Defines the bundles of one package in the order of installation, each with its locale's name, a rule of this project.
use Rattle.std.specs.Prelude.{ℕ, Bool, List, [], ◌∷◌, length, nat_le, nat_eq, is_some, if◌then◌else◌, Option}
use Rattle.std.specs.Map.{lookup}
use Rattle.std.specs.Cmp.Lexicographic.{pointwise}
use Rattle.rb_tree.specs.SourceTree.{SourceTree}
use Rattle.rb_packages.specs.Limits.{bundle_limit}

abbrev pub Shelf : Type 0
Shelf = List (List ℕ × SourceTree)

-- the bundle with a name
abbrev pub bundle_at : Shelf → List ℕ → Option SourceTree
bundle_at shelf name = lookup (pointwise nat_eq name) shelf

abbrev pub holds : List ℕ → Shelf → Bool
holds name shelf = is_some (bundle_at shelf name)

abbrev pub is_full : Shelf → Bool
is_full shelf = nat_le bundle_limit (length shelf)

-- the shelf with a bundle instead of the old one
abbrev pub replaced : List ℕ → SourceTree → Shelf → Shelf
replaced name bundle [] = []
replaced name bundle (e ∷ es) = if pointwise nat_eq name e.0 then (name, bundle) ∷ es else e ∷ replaced name bundle es

-- the shelf without the bundle
abbrev pub removed : List ℕ → Shelf → Shelf
removed name [] = []
removed name (e ∷ es) = if pointwise nat_eq name e.0 then es else e ∷ removed name es
