-- For proofs only. Defines the program's results at one level, and at its stops so far.
use Rattle.std.specs.Prelude.{◌≡◌, ◌++◌, ℕ, List, Option, Some, None, Result, Ok, Err}
use Rattle.rb_tree.specs.Resource.{Resource}
use Rattle.rb_tree.specs.Parts.{kind_of}
use Rattle.rb_tree.specs.declared.kind.Kind.TheVariants as Kinds
use Rattle.rb_tree.specs.Path.{segments}
use Rattle.rb_tree.specs.Walk.{Walked, links, stop_of, rest_of}
use Rattle.rb_tree.specs.Ending.{stop_at, RestIs}
use Rattle.rb_tree.specs.declared.ending.Ending.{Ending}
use Rattle.rb_tree.specs.declared.ending.Ending.TheVariants.{End, Link, Gone}
use Rattle.rb_parents.specs.Trail.{Bundles}
use Rattle.rb_fallback.specs.Search.{Decided, decide, first_of}
use Rattle.rb_fallback.specs.declared.fault.LookError.{LookError}
use Rattle.rb_fallback.specs.declared.level.LevelState.{LevelState}
use Rattle.rb_fallback.specs.declared.level.LevelResult.{LevelResult}

-- the segments that a walk entered and those after it are all segments
abbrev pub Whole : Walked → List (List ℕ) → Type 0
Whole (links us walked rest) ss = walked ++ rest ≡ ss
Whole w ss = Unit {0}

-- the walk that decides among stops, in the program's types
pub record DecidingWalk {N : Type 0} (tree : N → Resource) (b : Bundles) (path : List ℕ) (ending : Ending N)
    (actual : List ℕ) (all : List (List ℕ))
    : Type 0 where
  pub walked : Walked
  pub decides : decide b all (segments path) ≡ Some (record { stop = actual; walked = walked })
  pub whole : Whole walked (segments path)
  pub stop : stop_at tree ending ≡ stop_of walked
  pub rest : RestIs ending path (rest_of walked)

-- no stop decides yet, or this one does
abbrev pub IsEnding : {N : Type 0} → (N → Resource) → Bundles → List ℕ → Ending N → List ℕ → List (List ℕ) → Type 0
IsEnding tree b path Gone actual all = decide b all (segments path) ≡ None
IsEnding tree b path (End n) actual all = DecidingWalk tree b path (End n) actual all
IsEnding tree b path (Link n k) actual all = DecidingWalk tree b path (Link n k) actual all

-- the stops so far
pub record IsLevelState {N : Type 0} (tree : N → Resource) (b : Bundles) (path : List ℕ) (state : LevelState N)
    (all : List (List ℕ)) : Type 0 where
  pub first : state.first ≡ first_of all
  pub ending : IsEnding tree b path state.ending state.actual all

-- the walk that decides at a level and the first stop, in the program's types
pub record IsLevelResult {N : Type 0} (tree : N → Resource) (h : LevelResult N) (path : List ℕ)
    (r : Result Decided LookError) (head : Option (List ℕ))
    : Type 0 where
  pub walked : Walked
  pub decides : r ≡ Ok (record { stop = h.actual; walked = walked })
  pub whole : Whole walked (segments path)
  pub stop : stop_at tree h.ending ≡ stop_of walked
  pub rest : RestIs h.ending path (rest_of walked)
  pub first : head ≡ Some h.first

abbrev pub IsLevel : {N : Type 0} → (N → Resource) → Result (LevelResult N) LookError → List ℕ
    → Result Decided LookError → Option (List ℕ) → Type 0
IsLevel tree (Ok h) path r head = IsLevelResult tree h path r head
IsLevel tree (Err e) path r head = r ≡ Err e

-- an ending at an alias has an alias's node
abbrev pub IsAliasAt : {N : Type 0} → (N → Resource) → Ending N → Type 0
IsAliasAt tree (End n) = Unit {0}
IsAliasAt tree (Link n cut) = kind_of (tree n) ≡ Kinds.Alias
IsAliasAt tree Gone = Unit {0}
