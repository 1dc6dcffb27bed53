use Rattle.std.proofs.Common.{◌≡◌, map}
use Rattle.rb_tree.proofs.Filled.{entry_pair}
use Rattle.rb_tree.proofs.tree.Tree.keyed_table.Given as goal

abbrev pub invariant-loop-key : goal.invariant-loop-key
invariant-loop-key l =
    (goal.iterator-loop-key).can_next l.key-iterator ×
    (goal.iterator-loop-key).is_finite l.key-iterator ×
    (map entry_pair l.entries.items ≡ l.yielded)
