use Rattle.std.proofs.Common.{◌≡◌, ℕ, ◌<◌, ◌≤◌, length}
use Rattle.rb_parser.proofs.Leaves.{NumbersSoFar}
use Rattle.rb_parser.proofs.leaf.read_numbers.Given as goal

abbrev pub invariant-numbers : goal.invariant-numbers
invariant-numbers l = record {
  same_end : l.cursor.end ≡ l.initial.cursor.end;
  no_longer : length l.cursor.rest ≤ length l.initial.cursor.rest;
  so_far : (n : ℕ) → length l.initial.cursor.rest < n → NumbersSoFar n l.initial.cursor.rest l.found.items l.cursor.rest;
}

abbrev pub decreases-numbers : goal.decreases-numbers
decreases-numbers l = length l.cursor.rest
