-- For proofs only: what the program says of one step of a search.
use Rattle.std.specs.Prelude.{◌≡◌, ℕ, List, Bool, true, false, Option, Result, Ok, Err}
use Rattle.rb_tree.specs.Resource.{Resource}
use Rattle.rb_tree.specs.Path.{segments, IsPath}
use Rattle.rb_fallback.specs.Search.{Step, found, goes, is_long}
use Rattle.rb_fallback.specs.inner.Reached.{hit_at}
use Rattle.rb_fallback.specs.declared.fault.LookError.{LookError}
use Rattle.rb_fallback.specs.declared.search.SearchState.{SearchState}
use Rattle.rb_fallback.specs.declared.search.Outcome.{Outcome}
use Rattle.rb_fallback.specs.declared.search.Outcome.TheVariants as outcome

-- the search continues from a state
pub record GoesOn (p : SearchState) (r : Result Step LookError) : Type 0 where
  pub onto : r ≡ Ok (goes p.icudata p.name (segments p.path))
  pub path : IsPath p.path

-- the search would continue with a path that is too long
pub record GoesLong (r : Result Step LookError) : Type 0 where
  pub in_icu : Bool
  pub name : List ℕ
  pub rest : List (List ℕ)
  pub onto : r ≡ Ok (goes in_icu name rest)
  pub long : is_long rest ≡ true

abbrev pub IsFollowed : Result Bool LookError → SearchState → Result Step LookError → Type 0
IsFollowed (Ok true) p r = GoesOn p r
IsFollowed (Ok false) p r = GoesLong r
IsFollowed (Err e) p r = r ≡ Err e

-- what a level gives, and the state after it
abbrev pub IsOutcome : {N : Type 0} → (N → Resource) → (ℕ → Option (List ℕ × Resource)) → Result (Outcome N) LookError
    → SearchState → Result Step LookError → Type 0
IsOutcome tree stop (Ok (outcome.Found f)) p r = r ≡ Ok (found (hit_at tree stop f))
IsOutcome tree stop (Ok outcome.Next) p r = GoesOn p r
IsOutcome tree stop (Ok outcome.TooLong) p r = GoesLong r
IsOutcome tree stop (Err e) p r = r ≡ Err e
