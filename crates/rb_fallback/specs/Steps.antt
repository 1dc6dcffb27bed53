-- Defines the steps of a search, and what a lookup with a limit on its steps gives.
use Rattle.std.specs.Prelude.{◌+◌, ◌*◌, ◌≤◌, ℕ, zero, suc, List, length, Bool, false, nat_lt}
use Rattle.std.specs.Prelude.{Option, Some, None, Result, Ok, Err, if◌then◌else◌}
use Rattle.rb_tree.specs.Path.{IsPath, segments}
use Rattle.rb_parents.specs.Trail.{Bundles, ParentsOf, Trail, names, chain, bad_parent, trail}
use Rattle.rb_fallback.specs.Limits.{level_limit}
use Rattle.rb_fallback.specs.Search.{Hit, Setting, Step, found, goes, bundles_of, is_long, level, look_up, setting}
use Rattle.rb_fallback.specs.Search.{step}
use Rattle.rb_fallback.specs.declared.fault.BoundedError.{BoundedError}
use Rattle.rb_fallback.specs.declared.fault.BoundedError.TheVariants as bounded
use Rattle.rb_fallback.specs.declared.fault.LookError.{LookError}

-- how many names a trail has; a level whose trail is refused is the last one, and no step of it counts
abbrev pub trail_length : Trail → ℕ
trail_length (names ns) = length ns
trail_length chain = 0
trail_length bad_parent = 0

-- at a level each name of the trail takes one step for its bundle, and one for each segment of the path
abbrev pub level_steps : Bundles → ParentsOf → List ℕ → List (List ℕ) → ℕ
level_steps bundles parents n ss = trail_length (trail bundles parents n) * (1 + length ss)

-- the steps that follow a level, where `go` are those from a place on
abbrev pub go_steps : (Bool → List ℕ → List (List ℕ) → ℕ) → Result Step LookError → ℕ
go_steps go (Err e) = 0
go_steps go (Ok (found hit)) = 0
go_steps go (Ok (goes in_icu n ss)) = go in_icu n ss

-- the steps of a search of a path, with this many levels left
unfoldable pub search_steps : ℕ → Setting → Bool → List ℕ → List (List ℕ) → ℕ
search_steps zero s in_icu n ss = 0
search_steps (suc k) s in_icu n ss =
    let bundles = bundles_of s.own s.icu in_icu in
    let next = step in_icu s.valid (level bundles s.parents n ss) in
    if is_long ss then 0 else (level_steps bundles s.parents n ss + go_steps (λ p m ts. search_steps k s p m ts) next)

-- the steps of a lookup of a path from a name
abbrev pub look_steps : Bundles → Bundles → ParentsOf → List ℕ → List (List ℕ) → ℕ
look_steps own icu parents n ss = search_steps level_limit (setting own icu parents n) false n ss

-- a lookup of a path takes at most 256 levels × 32 names × (1 + 512) steps: 1,024 bytes have at most 512 segments
abbrev pub HasFewSteps : Type 0
HasFewSteps =
    (own icu : Bundles) (parents : ParentsOf) (n p : List ℕ) → IsPath p
    → look_steps own icu parents n (segments p) ≤ 4202496

-- ---- lookups that may take only this many steps
abbrev pub searched : Result Hit LookError → Result Hit BoundedError
searched (Ok hit) = Ok hit
searched (Err e) = Err (bounded.Search e)

-- an answer, if the steps are enough that it takes
abbrev pub if_within : ℕ → ℕ → Result Hit LookError → Result Hit BoundedError
if_within steps taken answer = if nat_lt steps taken then Err bounded.TooManySteps else searched answer

-- an answer, if a limit suffices for the steps that it takes; `None` is no limit
abbrev pub within : Option ℕ → ℕ → Result Hit LookError → Result Hit BoundedError
within None taken answer = searched answer
within (Some steps) taken answer = if_within steps taken answer

-- what a lookup gives under a limit, or without one
abbrev pub look_up_limited : Option ℕ → Bundles → Bundles → ParentsOf → List ℕ → List (List ℕ) → Result Hit BoundedError
look_up_limited left own icu parents n ss = within left (look_steps own icu parents n ss) (look_up own icu parents n ss)

abbrev pub look_up_within : ℕ → Bundles → Bundles → ParentsOf → List ℕ → List (List ℕ) → Result Hit BoundedError
look_up_within steps own icu parents n ss = if_within steps (look_steps own icu parents n ss)
    (look_up own icu parents n ss)
