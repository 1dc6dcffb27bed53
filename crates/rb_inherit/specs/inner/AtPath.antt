-- Defines, for private contracts, what the stops of a trail have at a path, as they are asked in their order.
use Rattle.std.specs.Prelude.{◌≡◌, ◌<◌, ◌≤◌, ◌+◌, ◌++◌, ℕ, List, [], ◌∷◌, length, drop, take, true, false, nat_lt}
use Rattle.std.specs.Prelude.{Option, Some, None}
use Rattle.rb_tree.specs.Resource.{Resource}
use Rattle.rb_tree.specs.Parts.{kind_of}
use Rattle.rb_tree.specs.Path.{segments}
use Rattle.rb_tree.specs.Walk.{walk}
use Rattle.rb_tree.specs.declared.kind.Kind.{Kind}
use Rattle.rb_tree.specs.declared.kind.Kind.TheVariants as kind
use Rattle.rb_tree.specs.declared.node.Node.{Ghosts}
use Rattle.rb_fallback.specs.declared.fault.LookError.{LookError}
use Rattle.rb_fallback.specs.declared.fault.LookError.TheVariants as look
use Rattle.rb_parents.specs.Trail.{Bundles, ParentsOf, names, stops, trail}
use Rattle.rb_inherit.specs.Merged.{Here, Layered, Part, alias_fault, at_path, ended, room_below}
use Rattle.rb_inherit.specs.inner.Earlier.{BeginsEmpty, Ends, Refuses, and_error, is_open_of}
use Rattle.rb_inherit.specs.inner.Earlier.{layered_in, part_of}
use Rattle.rb_inherit.specs.inner.Paths.{AreFilled, steps_of}
use Rattle.rb_inherit.specs.declared.found.Found.{Found}
use Rattle.rb_inherit.specs.declared.follow.Link.{Link}
use Rattle.rb_inherit.specs.declared.layer.Layer.{Layer}
use Rattle.rb_inherit.specs.declared.place.Level.{Level}
use Rattle.rb_inherit.specs.declared.place.Place.{Place}

-- the path at which a level begins
abbrev pub path_in : List ℕ → Level → List ℕ
path_in paths level = take level.path_len (drop level.path_at paths)

-- nothing is final yet, and no path is too long
pub record IsOpen {N : Type 0} (used : ℕ) (level : Level) (found : Found N) : Type 0 where
  pub is_open : is_open_of found ≡ true
  pub short : nat_lt level.keys_most used ≡ false

pub record CanAdd {N : Type 0} (used : ℕ) (k : Kind) (level : Level) (found : Found N) : Type 0 where
  pub is : IsOpen used level found
  pub no_alias : k ≡ kind.Alias → ⊥

-- a level can be asked: its path is one of segments
pub record CanAsk {N : Type 0} (used : ℕ) (paths : List ℕ) (level : Level) (found : Found N) : Type 0 where
  pub is : IsOpen used level found
  pub within : level.path_at + level.path_len ≤ length paths
  pub filled : AreFilled (steps_of (path_in paths level))

-- what trees have at a path, in their order
abbrev pub parts_in : ℕ → List Resource → List (List ℕ) → List Part
parts_in most [] ss = []
parts_in most (t ∷ ts) ss = ended most (walk t ss) ++ parts_in most ts ss

-- as `Adds`, of several stops
pub record AddsAll {N : Type 0} {G : Ghosts N} (tree : N → Resource) (used : ℕ) (ps : List Part) (before : Found N)
    (old : List (Layer N G)) (after : Found N) (new : List (Layer N G)) : Type 0 where
  pub more : List (Layer N G)
  pub layers : new ≡ old ++ more
  pub begins : (ls : List Layered) → BeginsEmpty before ls → BeginsEmpty after (ls ++ layered_in tree more)
  pub decided : 0 < length ps → (ls : List Layered) → BeginsEmpty after ls
  pub ends : (ls : List Layered) (qs : List Part) (h : Here) → BeginsEmpty before ls
      → Ends tree used after (ls ++ layered_in tree more) qs h → Ends tree used before ls (ps ++ qs) h

-- the stops up to an alias were asked
pub record AddsUpTo {N : Type 0} {G : Ghosts N} (tree : N → Resource) (used : ℕ) (ps : List Part) (before : Found N)
    (old : List (Layer N G)) (after : Found N) (link : Link N) (new : List (Layer N G)) : Type 0 where
  pub asked : List Part
  pub others : List Part
  pub split : ps ≡ asked ++ part_of tree link.node link.level ∷ others
  pub alias : kind_of (tree link.node) ≡ kind.Alias
  pub short : nat_lt link.level.keys_most used ≡ false
  pub is_open : is_open_of after ≡ true
  pub adds : AddsAll tree used asked before old after new

-- no stop has anything there
pub record AddsNone {N : Type 0} {G : Ghosts N} (before : Found N) (old : List (Layer N G)) (after : Found N)
    (new : List (Layer N G)) : Type 0 where
  pub found : after ≡ and_error before look.Missing
  pub layers : new ≡ old

abbrev pub AddsSome : {N : Type 0} {G : Ghosts N} → (N → Resource) → ℕ → List Part → Found N → List (Layer N G)
    → Found N → List (Layer N G) → Type 0
AddsSome tree used [] before old after new = AddsNone before old after new
AddsSome tree used (p ∷ ps) before old after new = AddsAll tree used (p ∷ ps) before old after new

-- all stops were asked, up to an alias or one that is final
abbrev pub AddsStops : {N : Type 0} {G : Ghosts N} → (N → Resource) → ℕ → List Part → Found N → List (Layer N G)
    → Found N → Option (Link N) → List (Layer N G) → Type 0
AddsStops tree used ps before old after None new = AddsSome tree used ps before old after new
AddsStops tree used ps before old after (Some link) new = AddsUpTo tree used ps before old after link new

-- ---- aliases that can't be read
abbrev pub RefusesLink : {N : Type 0} {G : Ghosts N} → Option LookError → Found N → List (Layer N G) → Found N
    → Option (Link N) → List (Layer N G) → Type 0
RefusesLink None before old after link new = Unit {0}
RefusesLink (Some e) before old after link new = (link ≡ None) × ((after ≡ and_error before e) × (new ≡ old))

-- the alias of a walk that ended at one was refused
abbrev pub RefusesAfter : {N : Type 0} {G : Ghosts N} → (N → Resource) → Option (Link N) → Found N → List (Layer N G)
    → Found N → List (Layer N G) → Type 0
RefusesAfter tree None before old after new = Unit {0}
RefusesAfter tree (Some link) before old after new = Refuses (alias_fault (tree link.node)) before old after new

-- ---- the root of a tree
-- nothing was added, and no trail is known
pub record IsNew {N : Type 0} {G : Ghosts N} (place : Place N G) : Type 0 where
  pub layers : place.layers.items ≡ []
  pub keys : place.keys.items ≡ []
  pub trail : place.trail.is_known ≡ false

-- a stop of a name has something at a path
pub record HasParts (bundles : Bundles) (parents : ParentsOf) (n path : List ℕ) : Type 0 where
  pub ns : List (List ℕ)
  pub trail : trail bundles parents n ≡ names ns
  pub some : 0 < length (at_path (room_below (length path)) bundles (stops bundles ns) (segments path))
