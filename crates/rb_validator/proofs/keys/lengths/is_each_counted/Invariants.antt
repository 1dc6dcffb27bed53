use Rattle.std.proofs.Common.{◌≡◌, ℕ, ◌<◌, true}
use Rattle.rb_validator.specs.inner.Lengths as counted
use Rattle.rb_validator.proofs.keys.lengths.is_each_counted.Given as goal

abbrev pub invariant-loop-place : goal.invariant-loop-place
invariant-loop-place l = (p : ℕ) → p < l.place → counted.is_counted l.run l.lengths p ≡ true
