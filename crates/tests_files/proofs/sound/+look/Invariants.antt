use Rattle.std.proofs.Common.{◌+◌, ◌*◌}
use Rattle.std.specs.Map.{values_of}
use Rattle.rb_tree.specs.Keys.{items, pairs}
use Rattle.rb_tree.specs.Resource.{height, trees_height, entries_height}
use Rattle.rb_tree.specs.View.{view_of}
use Rattle.rb_printer.specs.Sound.{IsSound}
use Rattle.tests_files.proofs.Looks.{AllUpTo}
use Rattle.tests_files.proofs.sound.+look.Given as goal

abbrev pub decreases-look_at : goal.decreases-look_at
decreases-look_at l = 2 * height (view_of l.tree.now)

abbrev pub decreases-look_at_entries : goal.decreases-look_at_entries
decreases-look_at_entries l = 2 * entries_height l.entries.now + 1

abbrev pub decreases-look_at_items : goal.decreases-look_at_items
decreases-look_at_items l = 2 * trees_height l.trees.now + 1

abbrev pub invariant-look_at_entries-loop-i : goal.invariant-look_at_entries-loop-i
invariant-look_at_entries-loop-i l = AllUpTo IsSound (values_of (pairs l.entries)) l.i

abbrev pub invariant-look_at_items-loop-i : goal.invariant-look_at_items-loop-i
invariant-look_at_items-loop-i l = AllUpTo IsSound (items l.trees) l.i
