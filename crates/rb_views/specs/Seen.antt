-- Defines the models of the views (`uresdata.h`, format version 1): an item is the tree that it denotes, and a view of
-- its contents is their list, in the order of the file. Also defines the data that each view reads.
use Rattle.std.specs.Prelude.{◌≡◌, ℕ, ℤ, ◌+◌, ◌*◌, List, Option, Some, IfSome, take, drop, slice_get}
use Rattle.std.specs.Map.{keys_of}
use Rattle.std.specs.Borrow.{Bor}
use Rattle.std.specs.Iterator.{YieldsFirstBy}
use Rattle.std.specs.Int.{cast_signed, w32}
use Rattle.rb_tree.specs.Resource.{Resource}
use Rattle.rb_format.specs.Place.{word_at, half_at, values, key, layout_of}
use Rattle.rb_format.specs.declared.geometry.TableParts.{TableParts}
use Rattle.rb_format.specs.Geometry.{key_offset}
use Rattle.rb_views.specs.Trees.{item_tree, entry_at}
use Rattle.rb_views.specs.declared.item.Item.{Item}
use Rattle.rb_views.specs.declared.leaves.Units.{Units}
use Rattle.rb_views.specs.declared.leaves.Ints.{Ints}
use Rattle.rb_views.specs.declared.array.Array.{Array}
use Rattle.rb_views.specs.declared.table.Table.{Table}
use Rattle.rb_views.specs.declared.table.Pairs.{Pairs}

abbrev pub tree_seen : Item → Resource
tree_seen item = item_tree item.body.now item.word

abbrev pub units_seen : Units → List ℕ
units_seen units = values (half_at units.body.now) units.first units.count

-- the bytes of the file in which they are
abbrev pub units_bytes : Units → List ℕ
units_bytes units = take (2 * units.count) (drop (2 * units.first) units.body.now)

abbrev pub numbers_bytes : Ints → List ℕ
numbers_bytes ints = take (4 * ints.count) (drop (4 * ints.first) ints.body.now)

abbrev pub numbers_seen : Ints → List ℤ
numbers_seen ints = values (λ i. cast_signed w32 (word_at ints.body.now i)) ints.first ints.count

abbrev pub trees_seen : Array → List Resource
trees_seen array = values (λ i. item_tree array.body.now (word_at array.body.now (array.first + i))) 0 array.count

abbrev pub entries_seen : Table → List (List ℕ × Resource)
entries_seen table = values (λ i. entry_at table.body.now table.parts i) 0 table.parts.count

-- the remaining values of an iterator
abbrev pub rest_seen : Pairs → List (List ℕ × Resource)
rest_seen pairs = drop pairs.next (entries_seen pairs.table)

-- the data that a view reads, and the word of an item, which has its kind and its offset
abbrev pub item_data : Item → List ℕ
item_data item = item.body.now

abbrev pub item_word : Item → ℕ
item_word item = item.word

abbrev pub array_data : Array → List ℕ
array_data array = array.body.now

abbrev pub table_data : Table → List ℕ
table_data table = table.body.now

-- the index of the word at which an array's items begin, and the parts of a table
abbrev pub first_item : Array → ℕ
first_item array = array.first

abbrev pub parts_seen : Table → TableParts
parts_seen table = table.parts

-- the word of item i
abbrev pub array_word : Array → ℕ → ℕ
array_word array i = word_at (array_data array) (first_item array + i)

abbrev pub table_word : Table → ℕ → ℕ
table_word table i = word_at (table_data table) ((parts_seen table).first + i)

-- the key at a table's key offset i
abbrev pub key_placed : Table → ℕ → Option (List ℕ)
key_placed table i = key (layout_of (table_data table)) (table_data table)
    (key_offset (table_data table) (parts_seen table).keys i)

-- the item reads a table's data, and its word is that of entry i
abbrev pub IsItemOf : Table → ℕ → Item → Type 0
IsItemOf table i item = (item_data item ≡ table_data table) × (item_word item ≡ table_word table i)

-- the item reads a table's data, and its word is that of the entry with a key
abbrev pub IsItemWith : Table → List ℕ → Item → Type 0
IsItemWith table key item = (i : ℕ) × (slice_get (keys_of (entries_seen table)) i ≡ Some key) × IsItemOf table i item

abbrev pub pairs_table : Pairs → Table
pairs_table pairs = pairs.table

-- a step of an iterator returns the first of the remaining entries with its item, and leaves the others
pub record GivesFirst (old : Pairs) (given : Option (Bor (List ℕ) × Item)) (new : Pairs) : Type 0 where
  pub first : YieldsFirstBy (λ e. (e.0.now, tree_seen e.1)) rest_seen old given new
  pub item : IfSome given (λ e. IsItemOf (pairs_table old) old.next e.1)
  pub others : pairs_table new ≡ pairs_table old
