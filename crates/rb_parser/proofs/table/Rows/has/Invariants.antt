use Rattle.std.proofs.Common.{◌≢◌, ℕ, ◌<◌, [], get_or}
use Rattle.rb_tree.specs.Table.{keys_in}
use Rattle.rb_parser.proofs.table.Rows.has.Given as goal

abbrev pub invariant-loop-pair : goal.invariant-loop-pair
invariant-loop-pair l = (j : ℕ) → j < l.pair-index → get_or (keys_in l.pair-items) j [] ≢ l.key
