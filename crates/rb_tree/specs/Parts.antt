-- Defines the parts of a tree, by the kinds of resources of `uresdata.h`. The limits of height and weight are rules of
-- this project.
use Rattle.std.specs.Prelude.{◌≡◌, ◌≤◌, ℕ, ℤ, List, [], length, Option, nat_eq}
use Rattle.rb_tree.specs.declared.kind.Kind.{Kind}
use Rattle.rb_tree.specs.declared.kind.Kind.TheVariants as kind
use Rattle.rb_tree.specs.Resource.{Resource, string, int, ints, binary, alias, array, table, height, weight}
use Rattle.rb_tree.specs.Keys.{items, pairs}
use Rattle.std.specs.Map.{lookup, values_of}
use Rattle.std.specs.Cmp.Lexicographic.{pointwise}
use Rattle.rb_tree.specs.Limits.{height_limit, weight_limit}

abbrev pub kind_of : Resource → Kind
kind_of (string us) = kind.String
kind_of (int n) = kind.Int
kind_of (ints zs) = kind.Ints
kind_of (binary bs) = kind.Binary
kind_of (alias us) = kind.Alias
kind_of (array ts) = kind.Array
kind_of (table es) = kind.Table

-- the number of units, numbers, bytes, items or entries
abbrev pub len_of : Resource → ℕ
len_of (string us) = length us
len_of (int n) = 0
len_of (ints zs) = length zs
len_of (binary bs) = length bs
len_of (alias us) = length us
len_of (array ts) = length (items ts)
len_of (table es) = length (pairs es)

-- the items of an array or the trees of a table, in order
abbrev pub children_of : Resource → List Resource
children_of (array ts) = items ts
children_of (table es) = values_of (pairs es)
children_of t = []

-- the entries of a table
abbrev pub pairs_of : Resource → List (List ℕ × Resource)
pairs_of (table es) = pairs es
pairs_of t = []

-- the child under a key
abbrev pub child_of : List ℕ → Resource → Option Resource
child_of k t = lookup (pointwise nat_eq k) (pairs_of t)

abbrev pub units_of : Resource → List ℕ
units_of (string us) = us
units_of (alias us) = us
units_of t = []

abbrev pub numbers_of : Resource → List ℤ
numbers_of (ints zs) = zs
numbers_of t = []

abbrev pub bytes_of : Resource → List ℕ
bytes_of (binary bs) = bs
bytes_of t = []

abbrev pub int_of : Resource → ℕ
int_of (int n) = n
int_of t = 0

-- arrays and tables
abbrev pub HasChildren : Kind → Type 0
HasChildren kind.Array = Unit {0}
HasChildren kind.Table = Unit {0}
HasChildren k = ⊥

-- strings and aliases
abbrev pub HasUnits : Kind → Type 0
HasUnits kind.String = Unit {0}
HasUnits kind.Alias = Unit {0}
HasUnits k = ⊥

-- a table within the limits of a bundle
pub record Fits (t : Resource) : Type 0 where
  pub is_table : kind_of t ≡ kind.Table
  pub low : height t ≤ height_limit
  pub light : weight t ≤ weight_limit
