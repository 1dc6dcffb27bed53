-- A search never answers that its path has no form of one.
use Rattle.std.proofs.Common.{◌≡◌, ℕ, List, [], ◌∷◌, Bool, Option, Some, None, Result, Ok, Err, subst}
use Rattle.std.specs.Option.{ok_or}
use Rattle.rb_tree.specs.Resource.{Resource}
use Rattle.rb_tree.specs.Walk.{Walked, ends, links, gone}
use Rattle.rb_parents.specs.Trail.{Bundles, Trail, names, stops}
use Rattle.rb_fallback.specs.Alias.{Target, leads, bad_text, bad_package, target}
use Rattle.rb_fallback.specs.Search.{Decided, decide, by_stops, by_trail, follow, step, step_of}
use Rattle.rb_fallback.specs.inner.Steps.{IsOutcome}
use Rattle.rb_fallback.specs.declared.search.Outcome.{Outcome}
use Rattle.rb_fallback.specs.declared.search.SearchState.{SearchState}
use Rattle.rb_fallback.specs.declared.fault.BoundedError.{BoundedError}
use Rattle.rb_fallback.specs.declared.fault.BoundedError.TheVariants as bounded
use Rattle.rb_fallback.specs.declared.fault.LookError.{LookError}
use Rattle.rb_fallback.specs.declared.fault.LookError.TheVariants as fault

decide_never : (o : Option Decided) → ok_or o fault.Missing ≡ Err fault.BadPath → ⊥
decide_never None e = cc
decide_never (Some d) e = cc

stops_never : (bundles : Bundles) (ns ss : List (List ℕ)) → by_stops bundles ns ss ≡ Err fault.BadPath → ⊥
stops_never bundles [] ss e = cc
stops_never bundles (n ∷ ns) ss e = decide_never (decide bundles (n ∷ ns) ss) e

pub trail_never : (bundles : Bundles) (t : Trail) (ss : List (List ℕ)) → by_trail bundles t ss ≡ Err fault.BadPath → ⊥
trail_never bundles (names ns) ss e = stops_never bundles (stops bundles ns) ss e
trail_never bundles t ss e = cc

follow_never : (rest : List (List ℕ)) (t : Target) → follow rest t ≡ Err fault.BadPath → ⊥
follow_never rest (leads in_icu n ss) e = cc
follow_never rest bad_text e = cc
follow_never rest bad_package e = cc

walked_never : (in_icu : Bool) (valid n : List ℕ) (w : Walked) → step_of in_icu valid n w ≡ Err fault.BadPath → ⊥
walked_never in_icu valid n (ends t) e = cc
walked_never in_icu valid n (links us walked rest) e = follow_never rest (target us in_icu valid walked) e
walked_never in_icu valid n gone e = cc

-- nor does what ends a level
pub outcome_never : {N : Type 0} (tree : N → Resource) (stop : ℕ → Option (List ℕ × Resource)) (x : Result (Outcome N) LookError) (p : SearchState) (in_icu : Bool)
    (valid : List ℕ) (d : Decided) → IsOutcome tree stop x p (step in_icu valid (Ok d)) → x ≡ Err fault.BadPath → ⊥
outcome_never tree stop x p in_icu valid d h e =
    walked_never in_icu valid d.stop d.walked (subst (λ y. IsOutcome tree stop y p (step in_icu valid (Ok d))) e h)

-- the error that a `?` returns of a level or of a search
pub fault_never : {A : Type 0} (x : Result A BoundedError) (f : BoundedError) → x ≡ Err f → (f ≡ bounded.Search fault.BadPath → ⊥) → x ≡ Err (bounded.Search fault.BadPath) → ⊥
fault_never x f is never e = let same : f ≡ bounded.Search fault.BadPath = cc in never same

pub searched_never : (f : LookError) → (f ≡ fault.BadPath → ⊥) → bounded.Search f ≡ bounded.Search fault.BadPath → ⊥
searched_never f never e = let same : f ≡ fault.BadPath = cc in never same
