-- Defines the tree with inheritance below a path as one JSON value, by what the stops of a trail have there: tables are
-- merged key by key, and for the rest the earliest stop decides (the locale inheritance of UTS #35, LDML). An alias
-- whose text can't be read is its error; what another leads to is left open, on the way to the path and below it. This
-- project's own rules: how deep a tree is, how long a path may be, and the form of errors.
use Rattle.std.specs.Prelude.{◌≡◌, ◌+◌, ◌-◌, ℕ, zero, suc, List, [], ◌∷◌, ◌++◌, length, map, Bool, true, false, nat_lt}
use Rattle.std.specs.Prelude.{Option, Some, None, nat_eq, codes, decimal}
use Rattle.std.specs.List.{AllByRecursion}
use Rattle.std.specs.List.Sorted.{IsStrictlySortedBy}
use Rattle.std.specs.Map.{keys_of, lookup}
use Rattle.std.specs.Ordering.{match_ordering, nat_cmp}
use Rattle.std.specs.Cmp.Lexicographic.{pointwise, slice_cmp}
use Rattle.serde_json.specs.Data.{Data, string, array, object, Members, no_members, member}
use Rattle.serde_json.specs.View.{items_of}
use Rattle.serde_json.specs.Written.{compact_text}
use Rattle.rb_tree.specs.Limits.{height_limit}
use Rattle.rb_tree.specs.Path.{segments}
use Rattle.rb_tree.specs.Resource.{Resource, alias}
use Rattle.rb_tree.specs.Walk.{Walked, ends, links, gone}
use Rattle.rb_tree.specs.Parts.{children_of, kind_of, pairs_of}
use Rattle.rb_tree.specs.declared.kind.Kind.{Kind}
use Rattle.rb_tree.specs.declared.kind.Kind.TheVariants as kind
use Rattle.rb_json.specs.Value.{key_text, tagged, value_of}
use Rattle.rb_parents.specs.Trail.{Bundles, ParentsOf, names, stops, trail}
use Rattle.rb_fallback.specs.Alias.{Aim, aim, aims, no_package, no_text}
use Rattle.rb_fallback.specs.Limits.{path_limit}
use Rattle.rb_fallback.specs.Search.{walk_of}
use Rattle.rb_fallback.specs.Words.{look_word}
use Rattle.rb_fallback.specs.declared.fault.LookError.{LookError}
use Rattle.rb_fallback.specs.declared.fault.LookError.TheVariants as look

-- an item that a stop has, and the most bytes of keys, each after a slash, with which no path below it is too long
pub record Part : Type 0 where
  pub tree : Resource
  pub most : ℕ

-- a table that is merged with others: its entries
pub record Layered : Type 0 where
  pub entries : List (List ℕ × Resource)
  pub most : ℕ

-- what the tree has at a place
pub data Here : Type 0 where
  nothing : Here
  tables : List Layered → Here
  item : Part → Here
  fails : LookError → Here

abbrev pub layered : Part → Layered
layered p = record { entries = pairs_of p.tree; most = p.most }

-- ---- aliases
-- the error of a text that aims at nothing
abbrev pub fault_of : Aim → Option LookError
fault_of (aims icu n ss) = None
fault_of no_text = Some look.AliasText
fault_of no_package = Some look.AliasPackage

-- the error of an alias whose text can't be read, whatever the valid locale
abbrev pub alias_fault : Resource → Option LookError
alias_fault (alias us) = fault_of (aim us [])
alias_fault t = Some look.AliasText

-- an alias that can't be read is its error, or ends the tables of earlier stops; where another leads is left open
abbrev pub Refused : Option LookError → Here → Type 0
Refused None h = Unit {0}
Refused (Some e) h = h ≡ fails e

abbrev pub JoinsRefused : Option LookError → List Layered → Type 0
JoinsRefused None more = Unit {0}
JoinsRefused (Some e) more = more ≡ []

-- ---- what the stops decide that have these parts, in their order, below `used` bytes of keys
-- the tables that are merged into that of an earlier stop: those up to a stop that has something else
abbrev pub Joins : Bool → Kind → Part → (List Layered → Type 0) → List Layered → Type 0
Joins true k p Rest more = more ≡ []
Joins false kind.Table p Rest more = (rest : List Layered) × ((more ≡ layered p ∷ rest) × Rest rest)
Joins false kind.Alias p Rest more = JoinsRefused (alias_fault p.tree) more
Joins false k p Rest more = more ≡ []

abbrev pub Merges : ℕ → List Part → List Layered → Type 0
Merges used [] more = more ≡ []
Merges used (p ∷ ps) more = Joins (nat_lt p.most used) (kind_of p.tree) p (λ rest. Merges used ps rest) more

-- the first one decides: an error if its path is too long, tables that are merged, or its item
abbrev pub Begins : Bool → Kind → Part → (List Layered → Type 0) → Here → Type 0
Begins true k p Rest h = h ≡ fails look.PathTooLong
Begins false kind.Table p Rest h = (rest : List Layered) × ((h ≡ tables (layered p ∷ rest)) × Rest rest)
Begins false kind.Alias p Rest h = Refused (alias_fault p.tree) h
Begins false k p Rest h = h ≡ item p

abbrev pub Decides : ℕ → List Part → Here → Type 0
Decides used [] h = h ≡ nothing
Decides used (p ∷ ps) h = Begins (nat_lt p.most used) (kind_of p.tree) p (λ rest. Merges used ps rest) h

-- ---- merged tables
-- a key among others, which ascend by their bytes, each once
abbrev pub with_key : List ℕ → List (List ℕ) → List (List ℕ)
with_key k [] = k ∷ []
with_key k (j ∷ js) = match_ordering (slice_cmp nat_cmp k j) (k ∷ j ∷ js) (j ∷ js) (j ∷ with_key k js)

abbrev pub with_keys : List (List ℕ × Resource) → List (List ℕ) → List (List ℕ)
with_keys [] ks = ks
with_keys (e ∷ es) ks = with_key e.0 (with_keys es ks)

-- the keys of all tables
abbrev pub all_keys : List Layered → List (List ℕ)
all_keys [] = []
all_keys (l ∷ ls) = with_keys l.entries (all_keys ls)

abbrev pub parts_of : Option Resource → ℕ → List Part
parts_of None most = []
parts_of (Some t) most = record { tree = t; most = most } ∷ []

-- what tables have at a key, in their order
abbrev pub at_key : List ℕ → List Layered → List Part
at_key k [] = []
at_key k (l ∷ ls) = parts_of (lookup (pointwise nat_eq k) l.entries) l.most ++ at_key k ls

-- keys ascend, as those of each bundle do
abbrev pub Ascends : Layered → Type 0
Ascends l = IsStrictlySortedBy (slice_cmp nat_cmp) (keys_of l.entries)

-- ---- JSON
abbrev pub error_data : List ℕ → Data
error_data code = tagged (codes ":error") (string code)

abbrev pub members_data : List (List ℕ × Data) → Members
members_data [] = no_members
members_data (e ∷ es) = member (key_text e.0) e.1 (members_data es)

-- the bytes of keys with one key more
abbrev pub longer : ℕ → List ℕ → ℕ
longer used k = used + suc (length k)

-- the value of parts at a key
abbrev pub IsAt : (ℕ → Here → Data → Type 0) → ℕ → List ℕ → List Part → Data → Type 0
IsAt Is used k ps d = (h : Here) × (Decides (longer used k) ps h × Is (longer used k) h d)

-- the members of merged tables, whose keys ascend
pub record AreMembers (Is : ℕ → Here → Data → Type 0) (used : ℕ) (ls : List Layered) (es : List (List ℕ × Data))
    : Type 0 where
  pub keys : map (λ e. e.0) es ≡ all_keys ls
  pub each : AllByRecursion (λ e. IsAt Is used e.0 (at_key e.0 ls) e.1) es

-- the items of an array from an index on, each under its index as a key
abbrev pub AreItems : (ℕ → Here → Data → Type 0) → ℕ → ℕ → ℕ → List Resource → List Data → Type 0
AreItems Is used most i [] ds = ds ≡ []
AreItems Is used most i (t ∷ ts) [] = ⊥
AreItems Is used most i (t ∷ ts) (d ∷ ds) =
    IsAt Is used (decimal i) (record { tree = t; most = most } ∷ []) d × AreItems Is used most (suc i) ts ds

-- an item that is no table and no alias
abbrev pub IsItem : (ℕ → Here → Data → Type 0) → ℕ → Kind → Part → Data → Type 0
IsItem Is used kind.Array p d =
    (ds : List Data) × ((d ≡ array (items_of ds)) × AreItems Is used p.most 0 (children_of p.tree) ds)
IsItem Is used kind.Table p d = Unit {0}
IsItem Is used kind.Alias p d = Unit {0}
IsItem Is used k p d = d ≡ value_of p.tree

abbrev pub IsValue : (ℕ → Here → Data → Type 0) → ℕ → Here → Data → Type 0
IsValue Is used nothing d = d ≡ error_data (codes "Missing")
IsValue Is used (fails e) d = d ≡ error_data (look_word e)
IsValue Is used (item p) d = IsItem Is used (kind_of p.tree) p d
IsValue Is used (tables ls) d =
    (es : List (List ℕ × Data)) × ((d ≡ object (members_data es))
    × (AllByRecursion Ascends ls → AreMembers Is used ls es))

-- the value of a place, with at most the given number of levels
unfoldable pub IsTree : ℕ → ℕ → Here → Data → Type 0
IsTree zero used h d = d ≡ error_data (codes "TooDeep")
IsTree (suc n) used h d = IsValue (λ u g e. IsTree n u g e) used h d

-- the JSON of some value was written
pub record Writes (Takes : List ℕ → Type 0) (Is : Data → Type 0) : Type 0 where
  pub value : Data
  pub takes : Takes (compact_text value)
  pub is : Is value

-- ---- the tree of a path
-- the most bytes of keys, each after a slash, with which a path of some bytes isn't too long
abbrev pub room_below : ℕ → ℕ
room_below zero = suc path_limit
room_below (suc n) = path_limit - suc n

-- the item at which a walk ends; an alias, even if segments remain
abbrev pub ended : ℕ → Walked → List Part
ended most (ends t) = record { tree = t; most = most } ∷ []
ended most (links us walked rest) = record { tree = alias us; most = most } ∷ []
ended most gone = []

-- what the stops have at a path, in their order
abbrev pub at_path : ℕ → Bundles → List (List ℕ) → List (List ℕ) → List Part
at_path most bundles [] ss = []
at_path most bundles (n ∷ ns) ss = ended most (walk_of (bundles n) ss) ++ at_path most bundles ns ss

-- the value of a path: that of what the stops of a name's trail have there
pub record IsTreeAt (bundles : Bundles) (parents : ParentsOf) (n path : List ℕ) (d : Data) : Type 0 where
  pub ns : List (List ℕ)
  pub trail : trail bundles parents n ≡ names ns
  pub here : Here
  pub decides : Decides 0 (at_path (room_below (length path)) bundles (stops bundles ns) (segments path)) here
  pub value : IsTree height_limit 0 here d
