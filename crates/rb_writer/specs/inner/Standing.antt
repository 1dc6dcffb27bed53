-- Defines that a tree was written with an item that denotes it, for private contracts and proofs only.
use Rattle.rb_writer.specs.declared.area.KeyArea.{KeyArea}
use Rattle.std.specs.Prelude.{◌≡◌, ◌⊎◌, ℕ, ◌+◌, ◌/◌, ◌%◌, ◌^◌, ◌<◌, ◌≤◌, List, [], ◌∷◌, length, get_or, drop, Some, Ok}
use Rattle.std.specs.Prelude.{slice_get}
use Rattle.rb_tree.specs.Resource.{Resource, Members, height}
use Rattle.rb_format.specs.Place.{key}
use Rattle.std.specs.Map.{keys_of}
use Rattle.rb_tree.specs.Keys.{pairs, IsTable}
use Rattle.rb_format.specs.declared.kind.ItemKind.TheVariants.{Table, LongTable}
use Rattle.rb_format.specs.inner.FirstFault.{read}
use Rattle.rb_format.specs.Item.{kind_of, offset_of}
use Rattle.rb_writer.specs.inner.Growth.{Adds, IsDraft, draft, Laid, PutsWord, PutsWords, PutsHalf, PutsHalves}
use Rattle.rb_writer.specs.inner.Most.{data_most}
use Rattle.rb_writer.specs.inner.Places.{EachKey}
use Rattle.rb_writer.specs.inner.Keyed.{IsPlace, HasPlace}
use Rattle.rb_writer.specs.declared.keys.KeyOffsets.{KeyOffsets}
use Rattle.std.specs.Prelude.{Bool, true, false, take, ◌++◌}
use Rattle.rb_format.specs.declared.kind.ItemKind.{ItemKind}
use Rattle.rb_writer.specs.Bytes.{padded}
use Rattle.rb_writer.specs.Values.{are_halves, item_word, data_of, item_of}

-- a tree was written, and an item denotes it
pub record Stands (area : KeyArea) (old new : List ℕ) (t : Resource) (item : ℕ) : Type 0 where
  pub adds : Adds old new
  pub drafted : IsDraft area new
  pub little : length new ≤ length old + data_most t
  pub reads : read (draft area new) new (height t) item ≡ Ok t

abbrev pub children_most : List Resource → ℕ
children_most [] = 0
children_most (t ∷ ts) = data_most t + children_most ts

-- the first n of these trees were written, and items denote them
pub record ChildrenStand (area : KeyArea) (old new : List ℕ) (cs : List Resource) (items : List ℕ)
    (n : ℕ) : Type 0 where
  pub adds : Adds old new
  pub drafted : IsDraft area new
  pub little : length new + children_most (drop n cs) ≤ length old + children_most cs
  pub count : length items ≡ n
  pub reads : (j : ℕ) (u : Resource) → j < n → Some u ≡ slice_get cs j
      → read (draft area new) new (height u) (get_or items j 0) ≡ Ok u

-- each key with an offset is stored there
abbrev pub KeysStand : KeyArea → List ℕ → KeyOffsets → Type 0
KeysStand area body keys = (k : List ℕ) (o : ℕ) → IsPlace keys k o → key (draft area body) body o ≡ Some k

-- each key of the tree has an offset
abbrev pub HasPlaces : KeyOffsets → Resource → Type 0
HasPlaces keys t = EachKey (λ k. HasPlace keys k) t

-- a function gives the offset of each key
abbrev pub AreAt : KeyOffsets → (List ℕ → ℕ) → Type 0
AreAt keys at = (k : List ℕ) (o : ℕ) → IsPlace keys k o → at k ≡ o

-- the data and the items of consecutive trees that follow n bytes
abbrev pub children_data : (List ℕ → ℕ) → ℕ → List Resource → List ℕ
children_data at n [] = []
children_data at n (t ∷ ts) = data_of at n t ++ children_data at (n + length (data_of at n t)) ts

abbrev pub children_items : (List ℕ → ℕ) → ℕ → List Resource → List ℕ
children_items at n [] = []
children_items at n (t ∷ ts) = item_of at n t ∷ children_items at (n + length (data_of at n t)) ts

-- the first n of these trees were appended, byte by byte
pub record ChildrenLaid (at : List ℕ → ℕ) (old new : List ℕ) (cs : List Resource) (items : List ℕ)
    (n : ℕ) : Type 0 where
  pub joined : new ≡ old ++ children_data at (length old) (take n cs)
  pub items_are : items ≡ children_items at (length old) (take n cs)

-- the trees were appended, wherever the keys are
abbrev pub EachLaid : KeyOffsets → List ℕ → List ℕ → List Resource → List ℕ → ℕ → Type 0
EachLaid keys old new cs items n = (at : List ℕ → ℕ) → AreAt keys at → ChildrenLaid at old new cs items n

-- a tree was appended, byte by byte
abbrev pub TreeLaid : KeyOffsets → List ℕ → List ℕ → Resource → ℕ → Type 0
TreeLaid keys old new t item = (at : List ℕ → ℕ) → AreAt keys at
    → Laid old new (data_of at (length old) t) (item_of at (length old) t) item

-- the offsets of the first n of these keys
pub record PlacesAre (keys : KeyOffsets) (ks : List (List ℕ)) (offsets : List ℕ) (n : ℕ) : Type 0 where
  pub count : length offsets ≡ n
  pub are : (j : ℕ) (k : List ℕ) → j < n → Some k ≡ slice_get ks j → IsPlace keys k (get_or offsets j 0)

-- ---- the data after the children

-- an array's count and items, or nothing if it is empty
pub record PutsArray (old new items : List ℕ) (offset : ℕ) : Type 0 where
  pub a : List ℕ
  pub count : PutsWord old a (length items)
  pub children : PutsWords a new items (length items)
  pub stands : offset ≡ length old / 4

-- a table's count, key offsets as half words, padding, and items
pub record PutsShort (old new offsets items : List ℕ) (offset : ℕ) : Type 0 where
  pub a : List ℕ
  pub b : List ℕ
  pub c : List ℕ
  pub count : PutsHalf old a (length items)
  pub keys : PutsHalves a b offsets (length items)
  pub adds : Adds b c
  pub filled : c ≡ padded b
  pub whole : length c % 4 ≡ 0
  pub near : length c < length b + 4
  pub children : PutsWords c new items (length items)
  pub stands : offset ≡ length old / 4

-- a table's count and key offsets as words, and items
pub record PutsLong (old new offsets items : List ℕ) (offset : ℕ) : Type 0 where
  pub a : List ℕ
  pub b : List ℕ
  pub count : PutsWord old a (length items)
  pub keys : PutsWords a b offsets (length items)
  pub children : PutsWords b new items (length items)
  pub stands : offset ≡ length old / 4

-- a table was written with this kind, with short offsets or without
pub record WritesAs (kind : ItemKind) (short : Bool) (Puts : Type 0) (offsets items : List ℕ) (item : ℕ) : Type 0 where
  pub kind_is : kind_of item ≡ Some kind
  pub puts : Puts
  pub fitting : are_halves (length items ∷ offsets) ≡ short
  pub word : item ≡ item_word kind (offset_of item)

-- a table with these key offsets and items was appended, a short one if it fits, and this is its item
abbrev pub PutsTable : (old new offsets items : List ℕ) (item : ℕ) → Type 0
PutsTable old new offsets items item =
    WritesAs Table true (PutsShort old new offsets items (offset_of item)) offsets items item
    ⊎ WritesAs LongTable false (PutsLong old new offsets items (offset_of item)) offsets items item

-- a table was written with the items of its values, and an item points to it
pub record WritesTable (keys : KeyOffsets) (es : Members) (old new items : List ℕ) (item : ℕ) : Type 0 where
  pub offsets : List ℕ
  pub places : PlacesAre keys (keys_of (pairs es)) offsets (length (pairs es))
  pub ordered : IsTable es
  pub small : offset_of item < 2 ^ 28
  pub written : PutsTable old new offsets items item
