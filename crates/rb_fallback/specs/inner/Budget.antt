-- For proofs only: a search with this many steps left, or, at None, without a limit.
use Rattle.std.specs.Prelude.{◌≡◌, ◌-◌, ℕ, List, Bool, nat_lt, IfSome, Option, Some, None, Result, Ok, Err}
use Rattle.std.specs.Prelude.{if◌then◌else◌}
use Rattle.rb_tree.specs.Resource.{Resource}
use Rattle.rb_parents.specs.Trail.{Bundles, ParentsOf, trail}
use Rattle.rb_fallback.specs.Search.{Hit, Setting, Step, go_on, search}
use Rattle.rb_fallback.specs.Steps.{go_steps, search_steps, trail_length, within}
use Rattle.rb_fallback.specs.Stops.{AreStopsOf}
use Rattle.rb_fallback.specs.declared.fault.BoundedError.{BoundedError}
use Rattle.rb_fallback.specs.declared.fault.BoundedError.TheVariants as bounded
use Rattle.rb_fallback.specs.declared.fault.LookError.{LookError}

-- what is left after this many steps
abbrev pub spend : Option ℕ → ℕ → Result (Option ℕ) BoundedError
spend None steps = Ok None
spend (Some left) steps = if nat_lt left steps then Err bounded.TooManySteps else Ok (Some (left - steps))

abbrev pub search_within : Option ℕ → ℕ → Setting → Bool → List ℕ → List (List ℕ) → Result Hit BoundedError
search_within left k s in_icu n ss = within left (search_steps k s in_icu n ss) (search k s in_icu n ss)

-- what follows the step of the first level
abbrev pub after_step : Option ℕ → Setting → Result Step LookError → Result Hit BoundedError
after_step left s r = within left (go_steps (λ p m ts. search_steps 255 s p m ts) r)
    (go_on (λ p m ts. search 255 s p m ts) r)

-- the stops that are given are those of a name; if there is a limit, `count` is the number of names of its trail
pub record AreGiven {T : Type 0} (stop : T → ℕ → Option (List ℕ × Resource)) (given : Option T) (left : Option ℕ)
    (count : ℕ) (bundles : Bundles) (parents : ParentsOf) (n : List ℕ)
    : Type 0 where
  pub stops : IfSome given (λ t. AreStopsOf (stop t) bundles parents n)
  pub counted : IfSome left (λ _. IfSome given (λ _. count ≡ trail_length (trail bundles parents n)))
