use Rattle.std.proofs.Common.{◌≡◌, ℕ, ◌<◌, get_or, false}
use Rattle.rb_inherit.specs.inner.Paths.{is_separator}
use Rattle.rb_inherit.proofs.path.segment_len.Given as goal

abbrev pub invariant-loop-i : goal.invariant-loop-i
invariant-loop-i l = (k : ℕ) → k < l.i → is_separator (get_or l.path k 0) ≡ false
