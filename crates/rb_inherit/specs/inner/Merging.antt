-- Defines, for private contracts, which of the merged tables has the next key, and what follows it in each.
-- Keys ascend by their bytes, as those of a table do (ICU `uresdata.h`).
use Rattle.std.specs.Prelude.{◌≡◌, ◌<◌, ◌≤◌, ℕ, suc, List, [], ◌∷◌, ◌++◌, map, take, drop, Bool, true, false, cond}
use Rattle.std.specs.Prelude.{Option, Some, None, option_and_then, slice_get, slice_set, nat_eq}
use Rattle.std.specs.Map.{keys_of}
use Rattle.std.specs.Ordering.{nat_cmp, is_lt}
use Rattle.std.specs.Cmp.Lexicographic.{pointwise, slice_cmp}
use Rattle.rb_tree.specs.Resource.{Resource}
use Rattle.rb_tree.specs.Parts.{children_of, pairs_of}
use Rattle.rb_tree.specs.declared.node.Node.{Ghosts}
use Rattle.rb_inherit.specs.Merged.{Decides, Part}
use Rattle.rb_inherit.specs.declared.found.Found.{Found}
use Rattle.rb_inherit.specs.declared.layer.Layer.{Layer}
use Rattle.rb_inherit.specs.declared.place.Level.{Level}
use Rattle.rb_inherit.specs.inner.Earlier.{Adds, here_of, layered_in}

-- a table's key at an index, if it has so many
abbrev pub key_of : Resource → ℕ → Option (List ℕ)
key_of t i = slice_get (keys_of (pairs_of t)) i

-- the next key of the layer at an index
abbrev pub key_in : {N : Type 0} {G : Ghosts N} → (N → Resource) → List (Layer N G) → ℕ → Option (List ℕ)
key_in tree layers i = option_and_then (λ l. key_of (tree l.table.node) l.at) (slice_get layers i)

-- one key is less than another; a layer without a next key comes last
abbrev pub precedes : Option (List ℕ) → Option (List ℕ) → Bool
precedes None other = false
precedes (Some key) None = true
precedes (Some key) (Some other) = is_lt (slice_cmp nat_cmp key other)

-- of the layers from one index up to another, the first that has the least next key
pub record IsLeast (key : ℕ → Option (List ℕ)) (from to least : ℕ) : Type 0 where
  pub begins : from ≤ least
  pub others : (i : ℕ) → from ≤ i → i < to → precedes (key i) (key least) ≡ false
  pub first : (i : ℕ) → from ≤ i → i < least → precedes (key least) (key i) ≡ true

-- none of some layers has a next key
abbrev pub HasNoKey : (ℕ → Option (List ℕ)) → ℕ → ℕ → Type 0
HasNoKey key from to = (least : ℕ) × (IsLeast key from to least × (key least ≡ None))

-- ---- the next entries of layers
abbrev pub is_key : List ℕ → Option (List ℕ) → Bool
is_key k None = false
is_key k (Some j) = pointwise nat_eq k j

-- the layer after its next entry
abbrev pub stepped : {N : Type 0} {G : Ghosts N} → Layer N G → Layer N G
stepped l = record l { at = suc l.at }

-- the layer after its next entry, if that has the key
abbrev pub moved : {N : Type 0} {G : Ghosts N} → (N → Resource) → List ℕ → Layer N G → Layer N G
moved tree k l = record l { at = cond (is_key k (key_of (tree l.table.node) l.at)) (suc l.at) l.at }

abbrev pub part_if : Bool → Option Resource → ℕ → List Part
part_if false t most = []
part_if true None most = []
part_if true (Some t) most = record { tree = t; most = most } ∷ []

-- the next child of a layer, if it has the key
abbrev pub next_part : {N : Type 0} {G : Ghosts N} → (N → Resource) → List ℕ → Layer N G → List Part
next_part tree k l =
    part_if (is_key k (key_of (tree l.table.node) l.at)) (slice_get (children_of (tree l.table.node)) l.at)
    l.level.keys_most

abbrev pub next_parts : {N : Type 0} {G : Ghosts N} → (N → Resource) → List ℕ → List (Layer N G) → List Part
next_parts tree k [] = []
next_parts tree k (l ∷ ls) = next_part tree k l ++ next_parts tree k ls

-- the next child of the layer at an index and its level were taken
pub record Takes {N : Type 0} {G : Ghosts N} (tree : N → Resource) (old : List (Layer N G)) (i : ℕ)
    (new : List (Layer N G)) (r : N × Level) : Type 0 where
  pub layer : Layer N G
  pub at : slice_get old i ≡ Some layer
  pub child : slice_get (children_of (tree layer.table.node)) layer.at ≡ Some (tree r.0)
  pub level : r.1 ≡ layer.level
  pub layers : new ≡ slice_set old i (stepped layer)

-- there is none
abbrev pub HasNoChild : {N : Type 0} {G : Ghosts N} → (N → Resource) → Option (Layer N G) → Type 0
HasNoChild tree None = Unit {0}
HasNoChild tree (Some l) = slice_get (children_of (tree l.table.node)) l.at ≡ None

-- the next child of the layer at an index was added to what was found
abbrev pub AddsNext : {N : Type 0} {G : Ghosts N} → (N → Resource) → ℕ → Found N → List (Layer N G) → ℕ
    → Found N → List (Layer N G) → Type 0
AddsNext {N} {G} tree used before old i after new =
    (l : Layer N G) (t : Resource) → slice_get old i ≡ Some l
    → slice_get (children_of (tree l.table.node)) l.at ≡ Some t
    → Adds tree used (record { tree = t; most = l.level.keys_most }) before (slice_set old i (stepped l)) after new

-- what the layers from an index on have at a key was found, and they are past it
pub record FindsAt {N : Type 0} {G : Ghosts N} (tree : N → Resource) (used : ℕ) (key : List ℕ) (from : ℕ)
    (old : List (Layer N G)) (found : Found N) (new : List (Layer N G)) : Type 0 where
  pub more : List (Layer N G)
  pub layers : new ≡ (take from old ++ map (λ l. moved tree key l) (drop from old)) ++ more
  pub decides : Decides used (next_parts tree key (drop from old)) (here_of tree found (layered_in tree more))
