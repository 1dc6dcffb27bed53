use Rattle.std.proofs.Common.{ℕ, ◌-◌, ◌≤◌}
use Rattle.rb_validator.specs.inner.KnownKeys.{IsRedirected}
use Rattle.rb_validator.proofs.keys.links.link.Given as goal

abbrev pub invariant-loop-place : goal.invariant-loop-place
invariant-loop-place l =
    record {
      reached : l.first ≤ l.place;
      drawn : (p : ℕ) → IsRedirected l.initial.links l.links l.first l.to p;
    }

abbrev pub decreases-loop-place : goal.decreases-loop-place
decreases-loop-place l = l.to - l.place
