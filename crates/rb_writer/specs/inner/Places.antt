-- Defines that all keys of a tree have a property, for private contracts and proofs only.
use Rattle.std.specs.Prelude.{ℕ, List}
use Rattle.rb_tree.specs.Resource.{Resource, string, int, ints, binary, alias, array, table, Resources, no_trees}
use Rattle.rb_tree.specs.Resource.{tree_and, Members, no_entries, entry_and}

-- each key of the tree has the property P
abbrev mutual
  pub EachKey : (List ℕ → Type 0) → Resource → Type 0
  EachKey P (string us) = Unit {0}
  EachKey P (int n) = Unit {0}
  EachKey P (ints zs) = Unit {0}
  EachKey P (binary bs) = Unit {0}
  EachKey P (alias us) = Unit {0}
  EachKey P (array ts) = EachKeyIn P ts
  EachKey P (table es) = EachKeyOf P es

  pub EachKeyIn : (List ℕ → Type 0) → Resources → Type 0
  EachKeyIn P no_trees = Unit {0}
  EachKeyIn P (tree_and t ts) = EachKey P t × EachKeyIn P ts

  pub EachKeyOf : (List ℕ → Type 0) → Members → Type 0
  EachKeyOf P no_entries = Unit {0}
  EachKeyOf P (entry_and k t es) = P k × EachKey P t × EachKeyOf P es
