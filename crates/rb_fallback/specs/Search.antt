-- Defines the search of a path from a name: it finds the name's trail, walks the path through the trees of the trail's
-- stops, and continues where an alias leads. This is the lookup with fallback of ICU's `ures_*` calls over the locale
-- inheritance of UTS #35 (LDML). This project's own rules: an alias is final, so that no later stop is asked; a
-- search has at most 256 levels; a path has at most 1,024 bytes.
use Rattle.std.specs.Prelude.{ℕ, zero, suc, List, [], ◌∷◌, ◌++◌, length, Bool, true, false, nat_lt, if◌then◌else◌}
use Rattle.std.specs.Prelude.{Option, Some, None, unwrap_or, Result, Ok, Err}
use Rattle.std.specs.List.{join_with_byte}
use Rattle.std.specs.Option.{ok_or}
use Rattle.rb_tree.specs.Resource.{Resource}
use Rattle.rb_tree.specs.SourceTree.{SourceTree}
use Rattle.rb_tree.specs.Walk.{Walked, ends, links, gone, walk}
use Rattle.rb_parents.specs.Trail.{Bundles, ParentsOf, Trail, names, chain, bad_parent, trail, stops}
use Rattle.rb_fallback.specs.Alias.{Target, leads, bad_text, bad_package, target}
use Rattle.rb_fallback.specs.declared.fault.LookError.{LookError}
use Rattle.rb_fallback.specs.declared.fault.LookError.TheVariants as fault
use Rattle.rb_fallback.specs.Limits.{path_limit, level_limit}

-- ---- the stops of one level
abbrev pub walk_of : Option SourceTree → List (List ℕ) → Walked
walk_of None ss = gone
walk_of (Some b) ss = walk b.tree ss

-- the stop that decides, and the walk through its tree
pub record Decided : Type 0 where
  pub stop : List ℕ
  pub walked : Walked

abbrev pub unless_gone : List ℕ → Walked → Option Decided → Option Decided
unless_gone n (ends t) later = Some (record { stop = n; walked = ends t })
unless_gone n (links us walked rest) later = Some (record { stop = n; walked = links us walked rest })
unless_gone n gone later = later

-- of the stops in order, the first whose walk does not end nowhere
abbrev pub decide : Bundles → List (List ℕ) → List (List ℕ) → Option Decided
decide bundles [] ss = None
decide bundles (n ∷ ns) ss = unless_gone n (walk_of (bundles n) ss) (decide bundles ns ss)

-- there is no stop, or each walk ends nowhere, or one decides
abbrev pub by_stops : Bundles → List (List ℕ) → List (List ℕ) → Result Decided LookError
by_stops bundles [] ss = Err fault.NoBundle
by_stops bundles (n ∷ ns) ss = ok_or (decide bundles (n ∷ ns) ss) fault.Missing

abbrev pub by_trail : Bundles → Trail → List (List ℕ) → Result Decided LookError
by_trail bundles (names ns) ss = by_stops bundles (stops bundles ns) ss
by_trail bundles chain ss = Err fault.Chain
by_trail bundles bad_parent ss = Err fault.BadParent

abbrev pub level : Bundles → ParentsOf → List ℕ → List (List ℕ) → Result Decided LookError
level bundles parents n ss = by_trail bundles (trail bundles parents n) ss

-- the first stop of a name's trail: the valid name of a lookup from there
abbrev pub first_of : List (List ℕ) → Option (List ℕ)
first_of [] = None
first_of (n ∷ ns) = Some n

abbrev pub first_in : Bundles → Trail → Option (List ℕ)
first_in bundles (names ns) = first_of (stops bundles ns)
first_in bundles chain = None
first_in bundles bad_parent = None

abbrev pub first_stop : Bundles → ParentsOf → List ℕ → Option (List ℕ)
first_stop bundles parents n = first_in bundles (trail bundles parents n)

-- ---- one level
-- an item that is found: its tree, and the name of the bundle that has it
pub record Hit : Type 0 where
  pub tree : Resource
  pub actual : List ℕ

-- an item is found, or the search continues: whether in ICUDATA, the name, the path
pub data Step : Type 0 where
  found : Hit → Step
  goes : Bool → List ℕ → List (List ℕ) → Step

-- after an alias come its target's segments and those that were not walked
abbrev pub follow : List (List ℕ) → Target → Result Step LookError
follow rest (leads in_icu n ss) = Ok (goes in_icu n (ss ++ rest))
follow rest bad_text = Err fault.AliasText
follow rest bad_package = Err fault.AliasPackage

abbrev pub step_of : Bool → List ℕ → List ℕ → Walked → Result Step LookError
step_of in_icu valid n (ends t) = Ok (found (record { tree = t; actual = n }))
step_of in_icu valid n (links us walked rest) = follow rest (target us in_icu valid walked)
step_of in_icu valid n gone = Err fault.Missing

-- the step of a level, in ICUDATA or not, with the valid name of the lookup
abbrev pub step : Bool → List ℕ → Result Decided LookError → Result Step LookError
step in_icu valid (Err e) = Err e
step in_icu valid (Ok d) = step_of in_icu valid d.stop d.walked

-- ---- all levels
-- what is the same at all of them: the bundles, the explicit parents and the valid name
pub record Setting : Type 0 where
  pub own : Bundles
  pub icu : Bundles
  pub parents : ParentsOf
  pub valid : List ℕ

abbrev pub bundles_of : Bundles → Bundles → Bool → Bundles
bundles_of own icu true = icu
bundles_of own icu false = own

-- what follows a level, where `go` searches from a place on
abbrev pub go_on : (Bool → List ℕ → List (List ℕ) → Result Hit LookError) → Result Step LookError → Result Hit LookError
go_on go (Err e) = Err e
go_on go (Ok (found hit)) = Ok hit
go_on go (Ok (goes in_icu n ss)) = go in_icu n ss

-- more than 1,024 bytes, with slashes between the segments
abbrev pub is_long : List (List ℕ) → Bool
is_long ss = nat_lt path_limit (length (join_with_byte 47 ss))

-- the item to which a path leads, with this many levels left
unfoldable pub search : ℕ → Setting → Bool → List ℕ → List (List ℕ) → Result Hit LookError
search zero s in_icu n ss = Err fault.TooManyAliases
search (suc k) s in_icu n ss =
    if is_long ss then Err fault.PathTooLong
    else go_on (λ p m ts. search k s p m ts)
    (step in_icu s.valid (level (bundles_of s.own s.icu in_icu) s.parents n ss))

abbrev pub setting_of : Bundles → Bundles → ParentsOf → List ℕ → Setting
setting_of own icu parents valid = record { own = own; icu = icu; parents = parents; valid = valid }

-- the valid name of a lookup is the first stop; of a name without one it is the name, which nothing reads, since no
-- walk decides
abbrev pub setting : Bundles → Bundles → ParentsOf → List ℕ → Setting
setting own icu parents n = setting_of own icu parents (unwrap_or (first_stop own parents n) n)

-- what a lookup of a path from a name gives
abbrev pub look_up : Bundles → Bundles → ParentsOf → List ℕ → List (List ℕ) → Result Hit LookError
look_up own icu parents n ss = search level_limit (setting own icu parents n) false n ss
