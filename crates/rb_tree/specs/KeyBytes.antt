-- Defines how contracts see a key: as its bytes, stored inline or in a list. The inline size is a rule of this project.
use Rattle.std.specs.Prelude.{ℕ, ◌≤◌, List, take}
use Rattle.rb_tree.specs.declared.key.KeyBytes.{KeyBytes}
use Rattle.rb_tree.specs.declared.key.KeyBytes.TheVariants.{Short, Long}

abbrev pub bytes_of : KeyBytes → List ℕ
bytes_of (Short s) = take s.len s.bytes
bytes_of (Long list) = list

abbrev pub IsWithin : KeyBytes → Type 0
IsWithin (Short s) = s.len ≤ 30
IsWithin (Long list) = Unit {0}
