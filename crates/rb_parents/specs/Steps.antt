-- Defines a trail step by step, like the program, for proofs only.
use Rattle.std.specs.Prelude.{◌≡◌, ℕ, zero, suc, List}
use Rattle.std.proofs.Common.{refl, ap}
use Rattle.rb_parents.specs.Trail.{Bundles, ParentsOf, Next, goes_to, end, bad, next, chain, begins, onward}
use Rattle.rb_parents.specs.Trail.{trail_within}
use Rattle.rb_parents.specs.declared.route.Next as program
use Rattle.rb_parents.specs.declared.route.Next.TheVariants as step

abbrev pub next_of : program.Next → Next
next_of (step.Name n) = goes_to n
next_of step.End = end
next_of step.Bad = bad

-- a trail of at most this many names is its first name and the trail of its next name
pub trail_on : (k j : ℕ) (bundles : Bundles) (parents : ParentsOf) (n : List ℕ) → k ≡ suc j
    → trail_within k bundles parents n
    ≡ begins n (onward (λ m. trail_within j bundles parents m) (next bundles parents n))
unfolding trail_within
trail_on zero j bundles parents n e = cc
trail_on (suc k) j bundles parents n e = let same : k ≡ j = cc in
    ap (λ i. begins n (onward (λ m. trail_within i bundles parents m) (next bundles parents n))) same

pub trail_past : (k : ℕ) (bundles : Bundles) (parents : ParentsOf) (n : List ℕ) → k ≡ 0
    → trail_within k bundles parents n ≡ chain
unfolding trail_within
trail_past zero bundles parents n e = refl
trail_past (suc k) bundles parents n e = cc
