-- Defines the checks of a file as one ordered list of pairs: the error, and whether the file fails the check
-- (`uresdata.h`, format version 1). The checks of the file itself come first, then those of its items depth first, an
-- item before its children. Which checks there are, and their order, are rules of this project.
use Rattle.std.specs.Prelude.{Bool, true, ℕ, zero, suc, ◌+◌, ◌*◌, ◌==◌, ◌&&◌, ◌||◌, not, nat_lt, nat_le, if◌then◌else◌}
use Rattle.std.specs.Prelude.{List, [], ◌∷◌, ◌++◌, length, drop, slice_index, Option, Some, None, is_none, unwrap_or}
use Rattle.std.specs.Prelude.{Result, Ok, Err}
use Rattle.std.specs.Ordering.{is_lt, nat_cmp}
use Rattle.std.specs.Cmp.Lexicographic.{slice_cmp}
use Rattle.rb_tree.specs.Limits.{height_limit}
use Rattle.rb_format.specs.declared.layout.Layout.{Layout}
use Rattle.rb_format.specs.declared.header.Header.{Header}
use Rattle.rb_format.specs.declared.geometry.TableParts.{TableParts}
use Rattle.rb_format.specs.declared.kind.ItemKind.{ItemKind}
use Rattle.rb_format.specs.declared.kind.ItemKind.TheVariants.{String, Binary, Table, Alias, LongTable, Int, Array}
use Rattle.rb_format.specs.declared.kind.ItemKind.TheVariants.{Ints}
use Rattle.rb_format.specs.declared.fault.FileFault.{FileFault}
use Rattle.rb_format.specs.declared.fault.FileFault.TheVariants as faults
use Rattle.rb_format.specs.declared.fault.FileFault.TheVariants.{TooLong, BigEndian, Family, FormatVersion, Indexes}
use Rattle.rb_format.specs.declared.fault.FileFault.TheVariants.{Root, ItemType}
use Rattle.rb_format.specs.declared.fault.FileFault.TheVariants.{Offset, Length, NotTerminated, Key, KeyOrder, TooDeep}
use Rattle.rb_format.specs.Place.{word_at, half_at, key, layout_of}
use Rattle.rb_format.specs.Geometry.{key_offset, table_parts, long_table_parts, array_first, array_count, child_count}
use Rattle.rb_format.specs.Geometry.{first_child}
use Rattle.rb_format.specs.Item.{kind_of, offset_of, is_table, has_data}
use Rattle.rb_format.specs.Attributes.{attributes_of, has_pool}
use Rattle.rb_format.specs.File.{is_short_enough, has_magic, has_family, has_version, has_sizes, has_valid_indexes}

-- pairs of an error, and whether its check fails
abbrev pub CheckList : Type 0
CheckList = List (FileFault × Bool)

-- the error of the first check that fails
abbrev pub first_failed : CheckList → Option FileFault
first_failed [] = None
first_failed (c ∷ cs) = if c.1 then Some c.0 else first_failed cs

-- ---- the checks of the file itself

abbrev pub header_checks : List ℕ → CheckList
header_checks bytes =
    (faults.Header, not (nat_le 24 (length bytes) && has_magic bytes))
    ∷ (BigEndian, not (slice_index bytes 8 == 0))
    ∷ (Family, not (has_family bytes))
    ∷ (FormatVersion, not (has_version bytes))
    ∷ (faults.Header, not (has_sizes bytes))
    ∷ []

-- the header of a file, or its first error
abbrev pub header_unless : List ℕ → Option FileFault → Result Header FileFault
header_unless bytes None = Ok (record { size = half_at bytes 0; minor = slice_index bytes 17 })
header_unless bytes (Some e) = Err e

unfoldable pub header_of : List ℕ → Result Header FileFault
header_of bytes = header_unless bytes (first_failed (header_checks bytes))

-- the checks of the data, in a file with this minor version
abbrev pub data_checks : ℕ → List ℕ → CheckList
data_checks minor body =
    (Indexes, not (has_valid_indexes body))
    ∷ (faults.Attributes, has_pool (attributes_of minor body))
    ∷ (Root, not (is_table (kind_of (word_at body 0))))
    ∷ []

-- ---- the checks of an item

-- the key before index i; before the first key it is the empty list, which is below all keys
abbrev pub key_before : Layout → List ℕ → (ℕ → ℕ) → ℕ → List ℕ
key_before y body place zero = []
key_before y body place (suc i) = unwrap_or (key y body (place i)) []

-- for each of the n keys from index i on: whether it is a key, and whether it is above the previous one
abbrev pub key_checks : Layout → List ℕ → (ℕ → ℕ) → ℕ → ℕ → CheckList
key_checks y body place i zero = []
key_checks y body place i (suc n) =
    (Key, is_none (key y body (place i)))
    ∷ (KeyOrder, not (is_lt (slice_cmp nat_cmp (key_before y body place i) (unwrap_or (key y body (place i)) []))))
    ∷ key_checks y body place (suc i) n

-- the checks of a table with these parts: its items end below the top, and its keys are valid
abbrev pub table_checks : Layout → List ℕ → TableParts → CheckList
table_checks y body p = (Length, nat_lt y.top (p.first + p.count))
    ∷ key_checks y body (key_offset body p.keys) 0 p.count

-- the checks of a text: it ends below the top, with a zero unit
abbrev pub text_checks : Layout → List ℕ → ℕ → CheckList
text_checks y body o =
    let n = word_at body o in
    (Length, nat_lt (4 * y.top) (4 * o + 6 + 2 * n)) ∷ (NotTerminated, not (half_at body (2 * o + 2 + n) == 0)) ∷ []

-- the checks of the data at an offset
abbrev pub value_checks : Layout → List ℕ → ℕ → ItemKind → CheckList
value_checks y body o String = text_checks y body o
value_checks y body o Binary = (Length, nat_lt (4 * y.top) (4 * o + 4 + word_at body o)) ∷ []
value_checks y body o Table = table_checks y body (table_parts body o)
value_checks y body o Alias = text_checks y body o
value_checks y body o LongTable = table_checks y body (long_table_parts body o)
value_checks y body o Int = []
value_checks y body o Array = (Length, nat_lt y.top (array_first o + array_count body o)) ∷ []
value_checks y body o Ints = (Length, nat_lt y.top (o + 1 + word_at body o)) ∷ []

-- the checks of an item with an offset: its type is known, its data begin between the bounds, and the data are valid
abbrev pub kind_checks : Layout → List ℕ → ℕ → Option ItemKind → CheckList
kind_checks y body o None = (ItemType, true) ∷ []
kind_checks y body o (Some k) =
    if has_data k o then (Offset, nat_lt o y.keys_top || not (nat_lt o y.top)) ∷ value_checks y body o k else []

-- ---- the items of a file

-- the number of children of an item with an offset, and child i
abbrev pub count_of : List ℕ → ℕ → Option ItemKind → ℕ
count_of body o None = 0
count_of body o (Some k) = if has_data k o then child_count body k o else 0

abbrev pub child_of : List ℕ → ℕ → Option ItemKind → ℕ → ℕ
child_of body o None i = 0
child_of body o (Some k) i = word_at body (first_child body k o + i)

-- the checks of n items from item i on, in order
abbrev pub all_checks : (ℕ → CheckList) → ℕ → ℕ → CheckList
all_checks of i zero = []
all_checks of i (suc n) = of i ++ all_checks of (suc i) n

-- the checks of an item with d levels left, and then of its children
unfoldable pub item_checks : Layout → List ℕ → ℕ → ℕ → CheckList
item_checks y body zero item = (TooDeep, true) ∷ []
item_checks y body (suc d) item =
    let o = offset_of item in let k = kind_of item in
    kind_checks y body o k ++ all_checks (λ i. item_checks y body d (child_of body o k i)) 0 (count_of body o k)

-- ---- the first fault

-- the checks of a file and its items
abbrev pub file_checks : List ℕ → CheckList
file_checks bytes =
    let body = drop (half_at bytes 0) bytes in
    (TooLong, not (is_short_enough bytes))
    ∷ (header_checks bytes
    ++ (data_checks (slice_index bytes 17) body ++ item_checks (layout_of body) body height_limit (word_at body 0)))

unfoldable pub first_fault : List ℕ → Option FileFault
first_fault bytes = first_failed (file_checks bytes)
