-- Defines what a file denotes: the tree of its root item and its flag, if the header and the indexes are valid (ICU's
-- `UDataInfo` and `uresdata.h`, format version 1.1 and later minor versions). The limits of a tree's height and a
-- file's length are rules of this project.
use Rattle.std.specs.Prelude.{◌≡◌, Bool, false, ℕ, ◌+◌, ◌/◌, ◌%◌, ◌==◌, ◌&&◌, not}
use Rattle.std.specs.Prelude.{nat_lt, nat_le, List, length, drop, slice_index, Option, Some, option_map, unwrap_or}
use Rattle.rb_tree.specs.Limits.{height_limit}
use Rattle.rb_tree.specs.Resource.{Resource, int}
use Rattle.rb_tree.specs.SourceTree.{SourceTree}
use Rattle.rb_format.specs.Place.{word_at, half_at, layout_of}
use Rattle.rb_format.specs.Item.{kind_of, is_table}
use Rattle.rb_format.specs.Attributes.{attributes_of, no_fallback, has_pool}
use Rattle.rb_format.specs.Denotation.{where_holds, tree_at}
use Rattle.rb_format.specs.Limits.{file_limit}

-- the greatest length of a file
abbrev pub is_short_enough : List ℕ → Bool
is_short_enough bytes = nat_le (length bytes) file_limit

-- the two magic bytes 0xDA and 0x27, and `ResB`
abbrev pub has_magic : List ℕ → Bool
has_magic bytes =
    slice_index bytes 2 == 218 && slice_index bytes 3 == 39
    && slice_index bytes 12 == 82 && slice_index bytes 13 == 101 && slice_index bytes 14 == 115
    && slice_index bytes 15 == 66

-- ASCII keys, and units of two bytes
abbrev pub has_family : List ℕ → Bool
has_family bytes = slice_index bytes 9 == 0 && slice_index bytes 10 == 2

-- version 1.1 or 1 with a later minor version
abbrev pub has_version : List ℕ → Bool
has_version bytes = slice_index bytes 16 == 1 && nat_le 1 (slice_index bytes 17)

-- a header inside the file, whose size is a multiple of 16 and at least that of the info block
abbrev pub has_sizes : List ℕ → Bool
has_sizes bytes =
    half_at bytes 0 % 16 == 0 && nat_le 32 (half_at bytes 0) && nat_le (half_at bytes 0) (length bytes)
    && nat_le 20 (half_at bytes 2) && nat_le (half_at bytes 2 + 4) (half_at bytes 0)

-- the header of a resource bundle with little-endian numbers
abbrev pub has_header : List ℕ → Bool
has_header bytes = nat_le 24 (length bytes) && has_magic bytes && slice_index bytes 8 == 0 && has_family bytes
    && has_version bytes && has_sizes bytes

-- enough indexes, and the ends of the keys, the resources and the bundle in order, within the data
abbrev pub are_in_order : List ℕ → Bool
are_in_order body =
    nat_le 5 (word_at body 1) && nat_lt (word_at body 1) (word_at body 2)
    && nat_le (word_at body 2) (word_at body 3) && nat_le (word_at body 3) (word_at body 4)
    && nat_le (word_at body 4) (length body / 4)

abbrev pub has_valid_indexes : List ℕ → Bool
has_valid_indexes body = nat_le 24 (length body) && are_in_order body

-- a tree, with the flag that the attributes give
abbrev pub flagged : ℕ → Resource → SourceTree
flagged bits t = record { tree = t; no_fallback = no_fallback bits }

-- what the data of a file with a minor version denote: the tree of a table, which the first word denotes, with a height
-- of at most h, and its flag
unfoldable pub source_of_data : ℕ → ℕ → List ℕ → Option SourceTree
source_of_data h minor body =
    where_holds (has_valid_indexes body && not (has_pool (attributes_of minor body))
    && is_table (kind_of (word_at body 0)))
    (option_map (flagged (attributes_of minor body)) (tree_at (layout_of body) body h (word_at body 0)))

-- what a file denotes; its data follow the header
unfoldable pub source_of_file : ℕ → List ℕ → Option SourceTree
source_of_file h bytes = where_holds (is_short_enough bytes && has_header bytes)
    (source_of_data h (slice_index bytes 17) (drop (half_at bytes 0) bytes))

-- the file denotes this bundle, whose tree has a height of at most h
abbrev pub DenotesWithin : ℕ → List ℕ → SourceTree → Type 0
DenotesWithin h bytes s = source_of_file h bytes ≡ Some s

-- the file denotes this bundle
abbrev pub Denotes : List ℕ → SourceTree → Type 0
Denotes bytes s = DenotesWithin height_limit bytes s

-- the bundle of a file that denotes one
abbrev pub source_tree_of : List ℕ → SourceTree
source_tree_of bytes = unwrap_or (source_of_file height_limit bytes) (record { tree = int 0; no_fallback = false })

-- its tree
abbrev pub tree_of : List ℕ → Resource
tree_of bytes = (source_tree_of bytes).tree
