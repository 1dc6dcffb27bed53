-- Defines the keys of a tree as they are written, each with a NUL (`uresdata.h`). That each key is written once, in the
-- order of bytes, and that no key shares the end of another are rules of this project.
use Rattle.std.specs.Prelude.{ℕ, ◌+◌, List, [], ◌∷◌, ◌++◌, length, flat_map, if◌then◌else◌, Contains}
use Rattle.std.specs.Str.{bytes_eq}
use Rattle.std.specs.Ordering.{nat_cmp}
use Rattle.std.specs.Cmp.Lexicographic.{slice_cmp}
use Rattle.std.specs.List.Sorted.{IsStrictlySortedBy}
use Rattle.rb_tree.specs.Resource.{Resource, array, table, Resources, no_trees}
use Rattle.rb_tree.specs.Resource.{tree_and, Members, no_entries, entry_and}

-- the keys of a tree, with duplicates
abbrev mutual
  pub all_keys : Resource → List (List ℕ)
  all_keys (array ts) = trees_keys ts
  all_keys (table es) = entries_keys es
  all_keys leaf = []

  pub trees_keys : Resources → List (List ℕ)
  trees_keys no_trees = []
  trees_keys (tree_and t ts) = all_keys t ++ trees_keys ts

  pub entries_keys : Members → List (List ℕ)
  entries_keys no_entries = []
  entries_keys (entry_and k t es) = k ∷ (all_keys t ++ entries_keys es)

-- each key, and a NUL after it
abbrev pub key_data : List (List ℕ) → List ℕ
key_data ks = flat_map (λ k. k ++ 0 ∷ []) ks

-- the offset of a key in this list, which follows n bytes
abbrev pub key_place : ℕ → List (List ℕ) → List ℕ → ℕ
key_place n [] k = n
key_place n (q ∷ ks) k = if bytes_eq k q then n else key_place (n + length q + 1) ks k

-- the distinct keys of a tree, in the order of their bytes
pub record AreKeysOf (t : Resource) (ks : List (List ℕ)) : Type 0 where
  pub ascend : IsStrictlySortedBy (slice_cmp nat_cmp) ks
  pub all : (k : List ℕ) → Contains (all_keys t) k → Contains ks k
  pub only : (k : List ℕ) → Contains ks k → Contains (all_keys t) k
