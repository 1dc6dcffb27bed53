use Rattle.std.proofs.Common.{◌≡◌, ◌≢◌, ℕ, ◌<◌, ◌≤◌, ◌-◌, get_or, length}
use Rattle.rb_format.proofs.key_order.skip_same.Given as goal

abbrev pub invariant-loop-at : goal.invariant-loop-at
invariant-loop-at l =
    record {
      key : l.at ≤ length l.key;
      run : l.at ≤ length l.run;
      same : (k : ℕ) → k < l.at → (get_or l.key k 0 ≡ get_or l.run k 0) × (get_or l.run k 0 ≢ 0);
    }

abbrev pub decreases-loop-at : goal.decreases-loop-at
decreases-loop-at l = length l.key - l.at
