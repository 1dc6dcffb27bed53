-- For proofs only. Defines the end of a level before the name of its stop is read.
use Rattle.std.specs.Prelude.{◌≡◌, ◌≢◌, ◌≤◌, ℕ, List, Option, Some, None, codes, option_map, unwrap_or, Result, Ok, Err, length}
use Rattle.rb_tree.specs.Resource.{Resource}
use Rattle.rb_tree.specs.Path.{segments}
use Rattle.rb_parents.specs.Trail.{Bundles, stops}
use Rattle.rb_fallback.specs.Search.{Decided, Hit, by_stops, first_of}
use Rattle.rb_fallback.specs.Stops.{stop_among}
use Rattle.rb_fallback.specs.inner.LevelResult.{IsLevelResult}
use Rattle.rb_fallback.specs.declared.fault.BoundedError.{BoundedError}
use Rattle.rb_fallback.specs.declared.fault.LookError.{LookError}
use Rattle.rb_fallback.specs.declared.fault.LookError.TheVariants as fault
use Rattle.rb_fallback.specs.declared.found.Found.{Found}
use Rattle.rb_fallback.specs.declared.level.LevelResult.{LevelResult}
use Rattle.rb_fallback.specs.declared.stops.At.{At}
use Rattle.rb_fallback.specs.declared.stops.At.TheVariants as at
use Rattle.rb_fallback.specs.declared.stops.FoundAt.{FoundAt}
use Rattle.rb_fallback.specs.declared.stops.Reached.{Reached}

-- the name of a stop; of one that isn't there, the root's
abbrev pub stop_name : (ℕ → Option (List ℕ × Resource)) → ℕ → List ℕ
stop_name stop i = unwrap_or (option_map (λ s. s.0) (stop i)) (codes "root")

abbrev pub name_at : (ℕ → Option (List ℕ × Resource)) → At → List ℕ
name_at stop (at.Stop i) = stop_name stop i
name_at stop (at.Bundle n) = n

-- the stops that are given, or none
abbrev pub given_stop : {T : Type 0} → (T → ℕ → Option (List ℕ × Resource)) → Option T → ℕ → Option (List ℕ × Resource)
given_stop stop None = λ i. None
given_stop stop (Some t) = stop t

-- the end of a level with its name, and that of a first stop
abbrev pub named : {N : Type 0} → (ℕ → Option (List ℕ × Resource)) → List ℕ → Reached N → LevelResult N
named stop first d = record { first = first; actual = name_at stop d.at; ending = d.ending }

-- the end of a level whose stops have their names
abbrev pub reached_of : {N : Type 0} → LevelResult N → Reached N
reached_of d = record { at = at.Bundle d.actual; ending = d.ending }

-- what a level gives, whatever its first stop is
pub record IsReached {N : Type 0} (tree : N → Resource) (stop : ℕ → Option (List ℕ × Resource)) (d : Reached N) (path : List ℕ)
    (r : Result Decided LookError)
    : Type 0 where
  pub first : List ℕ
  pub head : Option (List ℕ)
  pub level : IsLevelResult tree (named stop first d) path r head

abbrev pub IsReachedLevel : {N : Type 0} → (N → Resource) → (ℕ → Option (List ℕ × Resource)) → Result (Reached N) LookError
    → List ℕ → Result Decided LookError → Type 0
IsReachedLevel tree stop (Ok d) path r = IsReached tree stop d path r
IsReachedLevel tree stop (Err e) path r = r ≡ Err e

-- some walk of the path ends so
abbrev pub IsSomeReached : {N : Type 0} → (N → Resource) → (ℕ → Option (List ℕ × Resource)) → Reached N → List ℕ → Type 0
IsSomeReached tree stop d path = (r : Result Decided LookError) × IsReached tree stop d path r

-- of the stops that are given this one decides, whatever the bundles and the names are whose stops they are
pub record IsDeciding {N : Type 0} (tree : N → Resource) (stop : ℕ → Option (List ℕ × Resource)) (path : List ℕ) (d : Reached N)
    : Type 0 where
  pub level : (b : Bundles) (ns : List (List ℕ)) → length ns ≤ 32 → ((i : ℕ) → stop i ≡ stop_among b ns i)
      → IsLevelResult tree (named stop (stop_name stop 0) d) path (by_stops b (stops b ns) (segments path)) (first_of (stops b ns))
  pub walk : IsSomeReached tree stop d path

-- or no stop decides
pub record IsUndecided (stop : ℕ → Option (List ℕ × Resource)) (path : List ℕ) (e : LookError) : Type 0 where
  pub never : e ≢ fault.BadPath
  pub level : (b : Bundles) (ns : List (List ℕ)) → length ns ≤ 32 → ((i : ℕ) → stop i ≡ stop_among b ns i)
      → by_stops b (stops b ns) (segments path) ≡ Err e

abbrev pub Decides : {N : Type 0} → (N → Resource) → (ℕ → Option (List ℕ × Resource)) → List ℕ
    → Result (Reached N) LookError → Type 0
Decides tree stop path (Ok d) = IsDeciding tree stop path d
Decides tree stop path (Err e) = IsUndecided stop path e

-- what was found, with the name of its bundle and a valid name
abbrev pub found_at : {N : Type 0} → (ℕ → Option (List ℕ × Resource)) → FoundAt N → List ℕ → Found N
found_at stop f valid = record { node = f.node; actual = name_at stop f.at; valid = valid }

-- what was found, with the tree of its node and the name of its bundle
abbrev pub hit_at : {N : Type 0} → (N → Resource) → (ℕ → Option (List ℕ × Resource)) → FoundAt N → Hit
hit_at tree stop f = record { tree = tree f.node; actual = name_at stop f.at }

abbrev pub answer_at : {N : Type 0} → (N → Resource) → (ℕ → Option (List ℕ × Resource)) → Result (FoundAt N) BoundedError
    → Result Hit BoundedError
answer_at tree stop (Ok f) = Ok (hit_at tree stop f)
answer_at tree stop (Err e) = Err e
