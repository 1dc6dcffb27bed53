-- Defines the number of arrays and tables in a tree that have items, and so data in a file (`uresdata.h`).
use Rattle.std.specs.Prelude.{ℕ, ◌+◌, List, [], ◌∷◌}
use Rattle.rb_tree.specs.Resource.{Resource, array, table, Resources, no_trees}
use Rattle.rb_tree.specs.Resource.{tree_and, Members, no_entries, entry_and}
use Rattle.rb_tree.specs.Keys.{items, pairs}

abbrev pub one_if_any : {A : Type 0} → List A → ℕ
one_if_any [] = 0
one_if_any (x ∷ xs) = 1

abbrev mutual
  pub containers : Resource → ℕ
  containers (array ts) = one_if_any (items ts) + containers_of_trees ts
  containers (table es) = one_if_any (pairs es) + containers_of_entries es
  containers leaf = 0

  pub containers_of_trees : Resources → ℕ
  containers_of_trees no_trees = 0
  containers_of_trees (tree_and t ts) = containers t + containers_of_trees ts

  pub containers_of_entries : Members → ℕ
  containers_of_entries no_entries = 0
  containers_of_entries (entry_and k t es) = containers t + containers_of_entries es
