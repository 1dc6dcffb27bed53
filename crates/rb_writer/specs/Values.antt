-- Defines the bytes of values and the items that point to them (`uresdata.h`). What the format leaves open, such as the
-- post-order, is a rule of this project.
use Rattle.std.specs.Prelude.{ℕ, ℤ, ◌+◌, ◌*◌, ◌-◌, ◌%◌, ◌^◌, List, [], ◌∷◌, ◌++◌, length, map, replicate}
use Rattle.std.specs.Prelude.{Bool, true, false, if◌then◌else◌, nat_lt}
use Rattle.std.specs.Int.{cast_unsigned, w32}
use Rattle.std.specs.Map.{keys_of}
use Rattle.rb_tree.specs.Resource.{Resource, string, int, ints, binary, alias, array, table, Resources, no_trees}
use Rattle.rb_tree.specs.Resource.{tree_and, Members, no_entries, entry_and}
use Rattle.rb_tree.specs.Keys.{pairs}
use Rattle.rb_format.specs.declared.kind.ItemKind.{ItemKind}
use Rattle.rb_format.specs.declared.kind.ItemKind.TheVariants as kinds
use Rattle.rb_writer.specs.Bytes.{words, halves, padded, if_any, place_of}

-- ---- values without children; the padding of a Binary depends on the n bytes before it

-- a text: its count, its units and a zero unit
abbrev pub text_data : List ℕ → List ℕ
text_data us = if_any us (padded (words (length us ∷ []) ++ halves us ++ halves (0 ∷ [])))

abbrev pub numbers_data : List ℤ → List ℕ
numbers_data zs = if_any zs (words (length zs ∷ map (cast_unsigned w32) zs))

-- the padding that aligns the bytes of a Binary to a multiple of 16
abbrev pub skipped : ℕ → ℕ
skipped n = (28 - n % 16) % 16

abbrev pub binary_data : ℕ → List ℕ → List ℕ
binary_data n bs = if_any bs (padded (replicate (skipped n) 0xAA ++ words (length bs ∷ []) ++ bs))

-- ---- items

-- the types' numbers (`UResType`)
abbrev pub type_of : ItemKind → ℕ
type_of kinds.String = 0
type_of kinds.Binary = 1
type_of kinds.Table = 2
type_of kinds.Alias = 3
type_of kinds.LongTable = 4
type_of kinds.Int = 7
type_of kinds.Array = 8
type_of kinds.Ints = 14

-- a type above an offset, or above an Int's number
abbrev pub item_word : ItemKind → ℕ → ℕ
item_word kind offset = type_of kind * 2 ^ 28 + offset

-- ---- an array or a table, from the items of its children

abbrev pub array_data : List ℕ → List ℕ
array_data items = if_any items (words (length items ∷ items))

-- each number fits in a half word
abbrev pub are_halves : List ℕ → Bool
are_halves [] = true
are_halves (n ∷ ns) = if nat_lt n 65536 then are_halves ns else false

-- the count and the offsets of the keys, as half words if all of them fit, and the items
abbrev pub table_data : List ℕ → List ℕ → List ℕ
table_data offsets items = if_any items (if are_halves (length items ∷ offsets)
    then padded (halves (length items ∷ offsets)) ++ words items
    else words (length items ∷ (offsets ++ items)))

abbrev pub table_item : ℕ → List ℕ → List ℕ → ℕ
table_item n offsets items =
    item_word (if are_halves (length items ∷ offsets) then kinds.Table else kinds.LongTable) (place_of n items)

-- ---- a tree that follows n bytes, each value after its children, those of a table in the order of its keys; `at`
-- gives the offsets of keys
abbrev mutual
  pub data_of : (List ℕ → ℕ) → ℕ → Resource → List ℕ
  data_of at n (string us) = text_data us
  data_of at n (int i) = []
  data_of at n (ints zs) = numbers_data zs
  data_of at n (binary bs) = binary_data n bs
  data_of at n (alias us) = text_data us
  data_of at n (array ts) = trees_data at n ts ++ array_data (trees_items at n ts)
  data_of at n (table es) = entries_data at n es ++ table_data (map at (keys_of (pairs es))) (entries_items at n es)

  pub item_of : (List ℕ → ℕ) → ℕ → Resource → ℕ
  item_of at n (string us) = item_word kinds.String (place_of n us)
  item_of at n (int i) = item_word kinds.Int i
  item_of at n (ints zs) = item_word kinds.Ints (place_of n zs)
  item_of at n (binary bs) = item_word kinds.Binary (place_of (n + skipped n) bs)
  item_of at n (alias us) = item_word kinds.Alias (place_of n us)
  item_of at n (array ts) = item_word kinds.Array (place_of (n + length (trees_data at n ts)) (trees_items at n ts))
  item_of at n (table es) =
      table_item (n + length (entries_data at n es)) (map at (keys_of (pairs es))) (entries_items at n es)

  pub trees_data : (List ℕ → ℕ) → ℕ → Resources → List ℕ
  trees_data at n no_trees = []
  trees_data at n (tree_and t ts) = data_of at n t ++ trees_data at (n + length (data_of at n t)) ts

  pub trees_items : (List ℕ → ℕ) → ℕ → Resources → List ℕ
  trees_items at n no_trees = []
  trees_items at n (tree_and t ts) = item_of at n t ∷ trees_items at (n + length (data_of at n t)) ts

  pub entries_data : (List ℕ → ℕ) → ℕ → Members → List ℕ
  entries_data at n no_entries = []
  entries_data at n (entry_and k t es) = data_of at n t ++ entries_data at (n + length (data_of at n t)) es

  pub entries_items : (List ℕ → ℕ) → ℕ → Members → List ℕ
  entries_items at n no_entries = []
  entries_items at n (entry_and k t es) = item_of at n t ∷ entries_items at (n + length (data_of at n t)) es
