-- Defines, for private contracts, what a place has once some stops are asked, and what it has at last if others follow:
-- the earliest stop wins.
use Rattle.std.specs.Prelude.{◌≡◌, ℕ, List, [], ◌∷◌, ◌++◌, map, drop, Bool, true, false, Option, Some, None}
use Rattle.std.specs.Prelude.{Result, Ok, Err}
use Rattle.rb_tree.specs.Resource.{Resource}
use Rattle.rb_tree.specs.Parts.{pairs_of}
use Rattle.rb_tree.specs.declared.node.Node.{Ghosts}
use Rattle.rb_fallback.specs.declared.fault.LookError.{LookError}
use Rattle.rb_fallback.specs.declared.fault.LookError.TheVariants as look
use Rattle.rb_inherit.specs.Merged.{Decides, Here, Layered, Merges, Part, layered, nothing, tables, item, fails}
use Rattle.rb_inherit.specs.declared.found.Found.{Found}
use Rattle.rb_inherit.specs.declared.found.Found.TheVariants.{Nothing, Tables, Item, Failed}
use Rattle.rb_inherit.specs.declared.layer.Layer.{Layer}
use Rattle.rb_inherit.specs.declared.place.Level.{Level}

abbrev pub IsTables : {N : Type 0} → Found N → Type 0
IsTables Nothing = ⊥
IsTables (Tables is_open) = Unit {0}
IsTables (Item n level) = ⊥
IsTables (Failed e) = ⊥

-- what the first stops have, and what they have together with later ones
abbrev pub Stays : {N : Type 0} → Found N → Found N → Type 0
Stays Nothing later = Unit {0}
Stays (Tables is_open) later = IsTables later
Stays (Item n level) later = later ≡ Item n level
Stays (Failed e) later = later ≡ Failed e

-- ---- one more stop
abbrev pub and_table : {N : Type 0} → Found N → Found N
and_table Nothing = Tables true
and_table (Tables is_open) = Tables is_open
and_table (Item n level) = Item n level
and_table (Failed e) = Failed e

abbrev pub and_item : {N : Type 0} → Found N → N → Level → Found N
and_item Nothing n level = Item n level
and_item (Tables is_open) n level = Tables false
and_item (Item m other) n level = Item m other
and_item (Failed e) n level = Failed e

abbrev pub and_error : {N : Type 0} → Found N → LookError → Found N
and_error Nothing e = Failed e
and_error (Tables is_open) e = Tables false
and_error (Item n level) e = Item n level
and_error (Failed first) e = Failed first

abbrev pub closed_of : {N : Type 0} → Found N → Found N
closed_of before = and_error before look.Missing

abbrev pub is_open_of : {N : Type 0} → Found N → Bool
is_open_of Nothing = true
is_open_of (Tables is_open) = is_open
is_open_of (Item n level) = false
is_open_of (Failed e) = false

-- ---- the tables of layers
-- the entries of a layer's table that aren't written yet
abbrev pub layered_of : {N : Type 0} {G : Ghosts N} → (N → Resource) → Layer N G → Layered
layered_of tree l = record { entries = drop l.at (pairs_of (tree l.table.node)); most = l.level.keys_most }

abbrev pub layered_in : {N : Type 0} {G : Ghosts N} → (N → Resource) → List (Layer N G) → List Layered
layered_in tree ls = map (λ l. layered_of tree l) ls

abbrev pub part_of : {N : Type 0} → (N → Resource) → N → Level → Part
part_of tree n level = record { tree = tree n; most = level.keys_most }

-- what was found, with the tables of its layers
abbrev pub here_of : {N : Type 0} → (N → Resource) → Found N → List Layered → Here
here_of tree Nothing ls = nothing
here_of tree (Tables is_open) ls = tables ls
here_of tree (Item n level) ls = item (part_of tree n level)
here_of tree (Failed e) ls = fails e

-- what the place has at last if the next stops have these parts
abbrev pub Ends : {N : Type 0} → (N → Resource) → ℕ → Found N → List Layered → List Part → Here → Type 0
Ends tree used Nothing ls ps h = Decides used ps h
Ends tree used (Tables true) ls ps h = (more : List Layered) × ((h ≡ tables (ls ++ more)) × Merges used ps more)
Ends tree used (Tables false) ls ps h = h ≡ tables ls
Ends tree used (Item n level) ls ps h = h ≡ item (part_of tree n level)
Ends tree used (Failed e) ls ps h = h ≡ fails e

-- a call returned this error
abbrev pub IsFault : {A : Type 0} → Option LookError → Result A LookError → Type 0
IsFault None r = Unit {0}
IsFault (Some e) r = r ≡ Err e

abbrev pub fault_in : {A : Type 0} → Result A LookError → Option LookError
fault_in (Ok x) = None
fault_in (Err e) = Some e

-- an alias whose text can't be read has added its error alone
abbrev pub Refuses : {N : Type 0} {G : Ghosts N} → Option LookError → Found N → List (Layer N G) → Found N
    → List (Layer N G) → Type 0
Refuses None before old after new = Unit {0}
Refuses (Some e) before old after new = (after ≡ and_error before e) × (new ≡ old)

-- there are no layers as long as nothing is found
abbrev pub BeginsEmpty : {N : Type 0} → Found N → List Layered → Type 0
BeginsEmpty Nothing ls = ls ≡ []
BeginsEmpty (Tables is_open) ls = Unit {0}
BeginsEmpty (Item n level) ls = Unit {0}
BeginsEmpty (Failed e) ls = Unit {0}

-- layers were added, and no others changed
abbrev pub Grows : {A : Type 0} → List A → List A → Type 0
Grows {A} old new = (more : List A) × (new ≡ old ++ more)

-- a layer of this table was added, none of whose entries is written yet
pub record AddsLayer {N : Type 0} {G : Ghosts N} (tree : N → Resource) (n : N) (level : Level)
    (old new : List (Layer N G)) : Type 0 where
  pub layer : Layer N G
  pub layers : new ≡ old ++ (layer ∷ [])
  pub is : layered_of tree layer ≡ layered (part_of tree n level)

-- the layers have become longer by what the next stop has, if that is asked
pub record Adds {N : Type 0} {G : Ghosts N} (tree : N → Resource) (used : ℕ) (p : Part) (before : Found N)
    (old : List (Layer N G)) (after : Found N) (new : List (Layer N G)) : Type 0 where
  pub more : List (Layer N G)
  pub layers : new ≡ old ++ more
  pub decided : (ls : List Layered) → BeginsEmpty after ls
  pub ends : (ls : List Layered) (ps : List Part) (h : Here) → BeginsEmpty before ls
      → Ends tree used after (ls ++ layered_in tree more) ps h → Ends tree used before ls (p ∷ ps) h
