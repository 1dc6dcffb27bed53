-- For private contracts: defines a lower bound of the characters that the text of a tree has. The tree weighs at most
-- four times as much, so a text within its limit has a tree within its own.
use Rattle.std.specs.Prelude.{◌≡◌, ◌<◌, ℕ, ◌+◌, ◌*◌, cond, nat_le, length, MatchOption, Option}
use Rattle.rb_tree.specs.Resource.{Resource, string, int, ints, binary, alias, array, table, Resources, no_trees}
use Rattle.rb_tree.specs.Resource.{tree_and, Members, no_entries, entry_and}

-- the least characters before and after an item: only a space and a comma if it may share a line
abbrev pub item_lead : ℕ → Resource → ℕ
item_lead level (string us) = cond (nat_le level 12) 2 (4 * level)
item_lead level (int n) = 4 * level
item_lead level (ints zs) = 4 * level
item_lead level (binary bs) = 4 * level
item_lead level (alias us) = 4 * level
item_lead level (array ts) = 4 * level
item_lead level (table es) = 4 * level

abbrev mutual
  pub least : ℕ → Resource → ℕ
  least level (string us) = 2 + length us
  least level (int n) = 1
  least level (ints zs) = 1 + 2 * length zs
  least level (binary bs) = 5 + 2 * length bs
  least level (alias us) = 2 + length us
  least level (array ts) = 2 + items_least (level + 1) ts
  least level (table es) = 2 + entries_least (level + 1) es

  pub items_least : ℕ → Resources → ℕ
  items_least level no_trees = 0
  items_least level (tree_and t ts) = item_lead level t + least level t + items_least level ts

  pub entries_least : ℕ → Members → ℕ
  entries_least level no_entries = 0
  entries_least level (entry_and k t es) = 4 * level + length k + least level t + entries_least level es

-- ---- the bound without the characters of keys, Strings and Aliases, so that counting needn't read them

abbrev mutual
  pub frame : ℕ → Resource → ℕ
  frame level (string us) = 2
  frame level (int n) = 1
  frame level (ints zs) = 1 + 2 * length zs
  frame level (binary bs) = 5 + 2 * length bs
  frame level (alias us) = 2
  frame level (array ts) = 2 + items_frame (level + 1) ts
  frame level (table es) = 2 + entries_frame (level + 1) es

  pub items_frame : ℕ → Resources → ℕ
  items_frame level no_trees = 0
  items_frame level (tree_and t ts) = item_lead level t + frame level t + items_frame level ts

  pub entries_frame : ℕ → Members → ℕ
  entries_frame level no_entries = 0
  entries_frame level (entry_and k t es) = 4 * level + frame level t + entries_frame level es

-- the number minus the charge, or None if the charge is greater
abbrev pub Takes : ℕ → ℕ → Option ℕ → Type 0
Takes budget count left = MatchOption left (budget < count) (λ l. l + count ≡ budget)
