-- Defines the trees that a bundle can have: numbers are in the range of their types, and tables are valid.
use Rattle.std.specs.Prelude.{◌≡◌, ℕ, ℤ, pos, negsuc, ◌<◌, ◌≤◌, ◌^◌, List}
use Rattle.std.specs.List.{AllByRecursion}
use Rattle.rb_tree.specs.Parts.{kind_of}
use Rattle.rb_tree.specs.declared.kind.Kind.TheVariants as Kinds
use Rattle.rb_tree.specs.Resource.{Resource, string, int, ints, binary, alias, array, table, Resources, no_trees}
use Rattle.rb_tree.specs.Resource.{tree_and, Members, no_entries, entry_and, height}
use Rattle.rb_tree.specs.Keys.{IsTable}
use Rattle.rb_tree.specs.Limits.{height_limit}

abbrev pub AreUnits : List ℕ → Type 0
AreUnits us = AllByRecursion (λ u. u < 65536) us

abbrev pub AreBytes : List ℕ → Type 0
AreBytes bs = AllByRecursion (λ b. b < 256) bs

-- a signed number of 32 bits
abbrev pub IsNumber : ℤ → Type 0
IsNumber (pos n) = n < 2 ^ 31
IsNumber (negsuc n) = n < 2 ^ 31

abbrev mutual
  pub IsSound : Resource → Type 0
  IsSound (string us) = AreUnits us
  IsSound (int n) = n < 2 ^ 28
  IsSound (ints zs) = AllByRecursion IsNumber zs
  IsSound (binary bs) = AreBytes bs
  IsSound (alias us) = AreUnits us
  IsSound (array ts) = AreSound ts
  IsSound (table es) = IsTable es × EachSound es

  pub AreSound : Resources → Type 0
  AreSound no_trees = Unit {0}
  AreSound (tree_and t ts) = IsSound t × AreSound ts

  pub EachSound : Members → Type 0
  EachSound no_entries = Unit {0}
  EachSound (entry_and k t es) = IsSound t × EachSound es

-- The keys of its tables are valid and ascend, and its Ints have 28 bits: facts that types don't show.
abbrev mutual
  pub IsWell : Resource → Type 0
  IsWell (string us) = Unit {0}
  IsWell (int n) = n < 2 ^ 28
  IsWell (ints zs) = Unit {0}
  IsWell (binary bs) = Unit {0}
  IsWell (alias us) = Unit {0}
  IsWell (array ts) = AreWell ts
  IsWell (table es) = IsTable es × EachWell es

  pub AreWell : Resources → Type 0
  AreWell no_trees = Unit {0}
  AreWell (tree_and t ts) = IsWell t × AreWell ts

  pub EachWell : Members → Type 0
  EachWell no_entries = Unit {0}
  EachWell (entry_and k t es) = IsWell t × EachWell es

-- the tree of a bundle, of any weight: a table of at most 64 levels
pub record IsBundleTree (t : Resource) : Type 0 where
  pub is_table : kind_of t ≡ Kinds.Table
  pub low : height t ≤ height_limit
  pub well : IsWell t
