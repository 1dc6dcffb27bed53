-- A tree as a text or a file can have it: its numbers are those of their types (`uresdata.h`: units of 16 bits,
-- bytes, Ints of 28 bits), and its keys are ASCII.
use Rattle.std.specs.Prelude.{ℕ, ◌<◌, ◌^◌, List, [], ◌∷◌}
use Rattle.rb_tree.specs.Resource.{Resource, string, int, ints, binary, alias, array, table, Resources, no_trees}
use Rattle.rb_tree.specs.Resource.{tree_and, Members, no_entries, entry_and}

-- each number is below a limit
abbrev pub AreBelow : ℕ → List ℕ → Type 0
AreBelow limit [] = Unit {0}
AreBelow limit (x ∷ xs) = (x < limit) × AreBelow limit xs

abbrev mutual
  pub IsSound : Resource → Type 0
  IsSound (string us) = AreBelow 65536 us
  IsSound (int n) = n < 2 ^ 28
  IsSound (ints zs) = Unit {0}
  IsSound (binary bs) = AreBelow 256 bs
  IsSound (alias us) = AreBelow 65536 us
  IsSound (array ts) = AreSound ts
  IsSound (table es) = EntriesSound es

  pub AreSound : Resources → Type 0
  AreSound no_trees = Unit {0}
  AreSound (tree_and t ts) = IsSound t × AreSound ts

  pub EntriesSound : Members → Type 0
  EntriesSound no_entries = Unit {0}
  EntriesSound (entry_and k t es) = AreBelow 128 k × IsSound t × EntriesSound es
