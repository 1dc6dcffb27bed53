-- Defines where the parts of tables and arrays are (`uresdata.h`, URES_TABLE, URES_TABLE32 and URES_ARRAY). A table has
-- a half word that counts its entries, half words with the offsets of its keys, a half word of padding if the count is
-- even, and its items. A long table has words only. An array has a word that counts its items, and the items.
use Rattle.std.specs.Prelude.{Bool, true, false, ℕ, ◌+◌, ◌*◌, ◌/◌, List}
use Rattle.rb_format.specs.declared.geometry.KeyPlaces.{KeyPlaces}
use Rattle.rb_format.specs.declared.geometry.KeyPlaces.TheVariants.{Halves, Words}
use Rattle.rb_format.specs.declared.geometry.TableParts.{TableParts}
use Rattle.rb_format.specs.declared.kind.ItemKind.{ItemKind}
use Rattle.rb_format.specs.declared.kind.ItemKind.TheVariants.{Table, LongTable, Array}
use Rattle.rb_format.specs.Place.{word_at, half_at}

-- the offset of key i, in bytes from the root item
abbrev pub key_offset : List ℕ → KeyPlaces → ℕ → ℕ
key_offset body (Halves first) i = half_at body (first + i)
key_offset body (Words first) i = word_at body (first + i)

-- the byte at which the first n key offsets end
abbrev pub keys_end : KeyPlaces → ℕ → ℕ
keys_end (Halves first) n = 2 * (first + n)
keys_end (Words first) n = 4 * (first + n)

-- the parts of the table at word o
abbrev pub table_parts : List ℕ → ℕ → TableParts
table_parts body o = record {
  keys = Halves (2 * o + 1);
  first = o
      + (half_at body (2 * o) + 2) / 2;
  count = half_at body (2 * o);
}

-- the parts of the long table at word o
abbrev pub long_table_parts : List ℕ → ℕ → TableParts
long_table_parts body o = record { keys = Words (o + 1); first = o + 1 + word_at body o; count = word_at body o }

-- the index of the first item's word of the array at word o, and the number of its items
abbrev pub array_first : ℕ → ℕ
array_first o = o + 1

abbrev pub array_count : List ℕ → ℕ → ℕ
array_count body o = word_at body o

-- the kinds whose data have items
abbrev pub has_children : ItemKind → Bool
has_children Table = true
has_children LongTable = true
has_children Array = true
has_children k = false

-- the number of items of the data at word o, by kind
abbrev pub child_count : List ℕ → ItemKind → ℕ → ℕ
child_count body Table o = (table_parts body o).count
child_count body LongTable o = (long_table_parts body o).count
child_count body Array o = array_count body o
child_count body k o = 0

-- the index of the first item's word; the others follow it
abbrev pub first_child : List ℕ → ItemKind → ℕ → ℕ
first_child body Table o = (table_parts body o).first
first_child body LongTable o = (long_table_parts body o).first
first_child body Array o = array_first o
first_child body k o = o
