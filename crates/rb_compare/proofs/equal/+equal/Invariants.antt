use Rattle.std.proofs.Common.{◌+◌, ◌*◌}
use Rattle.rb_compare.proofs.equal.+equal.Given as goal

abbrev pub decreases-are_equal : goal.decreases-are_equal
decreases-are_equal g l = 2 * l.levels + 1

abbrev pub decreases-are_equal_items : goal.decreases-are_equal_items
decreases-are_equal_items g l = 2 * l.levels

abbrev pub decreases-are_equal_entries : goal.decreases-are_equal_entries
decreases-are_equal_entries g l = 2 * l.levels
