use Rattle.std.proofs.Common.{◌≡◌, ◌≢◌, ℕ, ◌<◌, get_or, false}
use Rattle.rb_format.proofs.key_order.is_same.Given as goal

abbrev pub invariant-loop-i : goal.invariant-loop-i
invariant-loop-i l = l.differs ≡ false → (k : ℕ) → k < l.i → (get_or l.key k 0 ≡ get_or l.run k 0) × (get_or l.run k 0 ≢ 0)
