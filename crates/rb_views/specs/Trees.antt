-- Defines the data of a file and what they contain: the tree of an item, a key, an entry of a table, the bytes of a
-- binary, the parts of a table (`uresdata.h`, format version 1).
use Rattle.std.specs.Prelude.{ℕ, ◌+◌, ◌*◌, List, [], Option, Some, None, take, drop, unwrap_or}
use Rattle.rb_tree.specs.Limits.{height_limit}
use Rattle.rb_tree.specs.Resource.{Resource, int}
use Rattle.rb_format.specs.declared.geometry.TableParts.{TableParts}
use Rattle.rb_format.specs.declared.kind.ItemKind.{ItemKind}
use Rattle.rb_format.specs.declared.kind.ItemKind.TheVariants.{LongTable}
use Rattle.rb_format.specs.Place.{word_at, half_at, key, layout_of}
use Rattle.rb_format.specs.Geometry.{key_offset, table_parts, long_table_parts}
use Rattle.rb_format.specs.Item.{kind_of, offset_of}
use Rattle.rb_format.specs.Denotation.{tree_at}

-- the data of a file: the bytes after its header, whose size is its first half word
abbrev pub data_of : List ℕ → List ℕ
data_of bytes = drop (half_at bytes 0) bytes

-- the tree of at most 64 levels that an item denotes
unfoldable pub item_tree : List ℕ → ℕ → Resource
item_tree body item = unwrap_or (tree_at (layout_of body) body height_limit item) (int 0)

-- the key at an offset
abbrev pub key_from : List ℕ → ℕ → List ℕ
key_from body offset = unwrap_or (key (layout_of body) body offset) []

-- entry i of a table with these parts
abbrev pub entry_at : List ℕ → TableParts → ℕ → List ℕ × Resource
entry_at body p i = (key_from body (key_offset body p.keys i), item_tree body (word_at body (p.first + i)))

-- the bytes of the binary at word o, after their count
abbrev pub bytes_at : List ℕ → ℕ → List ℕ
bytes_at body o = take (word_at body o) (drop (4 * o + 4) body)

-- the parts of the table at word o, by the kind of its item
abbrev pub parts_of_kind : List ℕ → ℕ → Option ItemKind → TableParts
parts_of_kind body o (Some LongTable) = long_table_parts body o
parts_of_kind body o (Some k) = table_parts body o
parts_of_kind body o None = table_parts body o

-- the parts of the table of an item with data
abbrev pub parts_at : List ℕ → ℕ → TableParts
parts_at body item = parts_of_kind body (offset_of item) (kind_of item)
