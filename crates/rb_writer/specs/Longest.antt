-- Defines the length of the longest table in a tree (`uresdata.h`, URES_INDEX_MAX_TABLE_LENGTH).
use Rattle.std.specs.Prelude.{ℕ, max, length}
use Rattle.rb_tree.specs.Resource.{Resource, array, table, Resources, no_trees}
use Rattle.rb_tree.specs.Resource.{tree_and, Members, no_entries, entry_and}
use Rattle.rb_tree.specs.Keys.{pairs}

abbrev mutual
  -- 0 if the tree has no table
  pub longest : Resource → ℕ
  longest (array ts) = longest_of_trees ts
  longest (table es) = max (length (pairs es)) (longest_of_entries es)
  longest leaf = 0

  pub longest_of_trees : Resources → ℕ
  longest_of_trees no_trees = 0
  longest_of_trees (tree_and t ts) = max (longest t) (longest_of_trees ts)

  pub longest_of_entries : Members → ℕ
  longest_of_entries no_entries = 0
  longest_of_entries (entry_and k t es) = max (longest t) (longest_of_entries es)
