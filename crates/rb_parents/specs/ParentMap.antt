-- Defines the map of explicit parents that the entries of the table at `parentLocales` name (the parent locales of UTS
-- #35). Each key is a parent, and its value names the parent's children, as an array of strings or as one string.
use Rattle.std.specs.Prelude.{◌≡◌, ◌↔◌, ◌<◌, ℕ, List, [], ◌∷◌, ◌++◌, length, Option, Some, None, map, slice_get}
use Rattle.std.specs.Prelude.{unwrap_or}
use Rattle.rb_tree.specs.Resource.{Resource, string, array, table}
use Rattle.rb_tree.specs.Keys.{items, pairs}
use Rattle.rb_locales.specs.Locale.{name, in_front}
use Rattle.rb_parents.specs.Trail.{ParentsOf, text_of}

-- the entries of a table, in order
abbrev pub Entries : Type 0
Entries = List (List ℕ × Resource)

abbrev pub entries_in : Option Resource → Option Entries
entries_in (Some (table es)) = Some (pairs es)
entries_in o = None

-- the texts of the trees, if all are strings
abbrev pub texts_of : List Resource → Option (List (List ℕ))
texts_of [] = Some []
texts_of (t ∷ ts) = in_front (text_of t) (texts_of ts)

-- the texts of the children that a value names, if it has a valid shape
abbrev pub texts_in : Resource → Option (List (List ℕ))
texts_in (string us) = Some (us ∷ [])
texts_in (array ts) = texts_of (items ts)
texts_in t = None

-- texts of children, each with the key of its entry
abbrev pub Mentions : Type 0
Mentions = List (List ℕ × List ℕ)

abbrev pub mentions_by : List ℕ → List (List ℕ) → Mentions
mentions_by key uss = map (λ us. (us, key)) uss

-- the mentions of some entries, in order
abbrev pub mentions : Entries → Mentions
mentions [] = []
mentions (e ∷ es) = mentions_by e.0 (unwrap_or (texts_in e.1) []) ++ mentions es

abbrev pub mentions_in : Option Entries → Mentions
mentions_in None = []
mentions_in (Some es) = mentions es

-- the mention at an index names a child and its parent
pub record Names (ms : Mentions) (i : ℕ) (child parent : List ℕ) : Type 0 where
  pub text : List ℕ
  pub key : List ℕ
  pub there : slice_get ms i ≡ Some (text, key)
  pub child_is : name text ≡ Some child
  pub parent_is : name key ≡ Some parent

-- a child has a parent if and only if a mention names them, and no two mentions name one child
pub record IsParentMap (ms : Mentions) (m : ParentsOf) : Type 0 where
  pub same : (child parent : List ℕ) → (m child ≡ Some parent) ↔ ((i : ℕ) × Names ms i child parent)
  pub once : (i j : ℕ) (child p q : List ℕ) → Names ms i child p → Names ms j child q → i ≡ j

-- each mention names a child and its parent, and the map is the one that they name
pub record IsNamed (ms : Mentions) (m : ParentsOf) : Type 0 where
  pub names : (i : ℕ) → i < length ms → (child : List ℕ) × (parent : List ℕ) × Names ms i child parent
  pub is_map : IsParentMap ms m
