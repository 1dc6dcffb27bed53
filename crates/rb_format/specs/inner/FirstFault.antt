-- Defines the reading of a file check by check, like the code, for proofs only: a file that is read without a fault
-- denotes the result, and a fault is the first one of `Checks`.
use Rattle.std.specs.Prelude.{Bool, true, false, ℕ, zero, suc, ◌+◌, ◌*◌, ◌==◌, nat_lt, nat_le, if◌then◌else◌, List}
use Rattle.std.specs.Prelude.{[], ◌∷◌, length, take, drop, map, slice_index, Option, Some, None, Result, Ok, Err}
use Rattle.std.specs.Ordering.{is_lt, nat_cmp}
use Rattle.std.specs.Cmp.Lexicographic.{slice_cmp}
use Rattle.std.specs.Int.{cast_signed, w32}
use Rattle.rb_tree.specs.Resource.{Resource, string, binary, table, alias, int, array, ints, Resources, no_trees}
use Rattle.rb_tree.specs.Resource.{tree_and, Members, no_entries, entry_and}
use Rattle.rb_tree.specs.SourceTree.{SourceTree}
use Rattle.rb_format.specs.declared.layout.Layout.{Layout}
use Rattle.rb_format.specs.declared.header.Header.{Header}
use Rattle.rb_format.specs.declared.kind.ItemKind.{ItemKind}
use Rattle.rb_format.specs.declared.kind.ItemKind.TheVariants.{String, Binary, Table, Alias, LongTable, Int, Array}
use Rattle.rb_format.specs.declared.kind.ItemKind.TheVariants.{Ints}
use Rattle.rb_format.specs.declared.fault.FileFault.{FileFault}
use Rattle.rb_format.specs.declared.fault.FileFault.TheVariants as faults
use Rattle.rb_format.specs.declared.fault.FileFault.TheVariants.{TooLong, BigEndian, Family, FormatVersion, Indexes}
use Rattle.rb_format.specs.declared.fault.FileFault.TheVariants.{Root, ItemType}
use Rattle.rb_format.specs.declared.fault.FileFault.TheVariants.{Offset, Length, NotTerminated, Key, KeyOrder, TooDeep}
use Rattle.rb_format.specs.declared.geometry.TableParts.{TableParts}
use Rattle.rb_format.specs.Place.{word_at, half_at, key, values, layout_of}
use Rattle.rb_format.specs.Geometry.{key_offset, table_parts, long_table_parts, array_first, array_count}
use Rattle.rb_format.specs.Item.{kind_of, offset_of, is_table, has_data, bare}
use Rattle.rb_format.specs.Attributes.{attributes_of, has_pool}
use Rattle.rb_format.specs.File.{has_magic, has_family, has_version, has_sizes, has_valid_indexes, flagged}
use Rattle.rb_format.specs.Limits.{file_limit}

infixl 10 ◌>>=◌
abbrev pub ◌>>=◌ : {A B : Type 0} → Result A FileFault → (A → Result B FileFault) → Result B FileFault
(Ok x) >>= f = f x
(Err e) >>= f = Err e

-- ---- leaves

-- the units at word o, with a zero unit after them
unfoldable pub units : Layout → List ℕ → ℕ → Result (List ℕ) FileFault
units y body o =
    let n = word_at body o in
    if nat_lt (4 * y.top) (4 * o + 6 + 2 * n) then Err Length else
    (if half_at body (2 * o + 2 + n) == 0 then Ok (values (half_at body) (2 * o + 2) n) else Err NotTerminated)

unfoldable pub bytes : Layout → List ℕ → ℕ → Result (List ℕ) FileFault
bytes y body o =
    let n = word_at body o in
    if nat_lt (4 * y.top) (4 * o + 4 + n) then Err Length else Ok (take n (drop (4 * o + 4) body))

unfoldable pub numbers : Layout → List ℕ → ℕ → Result (List ℕ) FileFault
numbers y body o =
    let n = word_at body o in
    if nat_lt y.top (o + 1 + n) then Err Length else Ok (values (word_at body) (o + 1) n)

-- ---- children

-- the trees of the n items from index i on
unfoldable pub trees : (ℕ → Result Resource FileFault) → (ℕ → ℕ) → ℕ → ℕ → Result Resources FileFault
trees child item i zero = Ok no_trees
trees child item i (suc n) = do
  t ← child (item i)
  ts ← trees child item (suc i) n
  Ok (tree_and t ts)

abbrev pub key_or_fault : Option (List ℕ) → Result (List ℕ) FileFault
key_or_fault None = Err Key
key_or_fault (Some k) = Ok k

-- the key at an offset, or a fault if it isn't above the last one
unfoldable pub next_key : Layout → List ℕ → List ℕ → ℕ → Result (List ℕ) FileFault
next_key y body last offset = do
  k ← key_or_fault (key y body offset)
  if is_lt (slice_cmp nat_cmp last k) then Ok k else Err KeyOrder

-- the n keys from index i on, each above the one before
unfoldable pub keys : Layout → List ℕ → (ℕ → ℕ) → List ℕ → ℕ → ℕ → Result (List (List ℕ)) FileFault
keys y body place last i zero = Ok []
keys y body place last i (suc n) = do
  k ← next_key y body last (place i)
  ks ← keys y body place k (suc i) n
  Ok (k ∷ ks)

-- the entries with these keys, with the trees of the items from index i on
unfoldable pub members : (ℕ → Result Resource FileFault) → (ℕ → ℕ) → ℕ → List (List ℕ) → Result Members FileFault
members child item i [] = Ok no_entries
members child item i (k ∷ ks) = do
  t ← child (item i)
  es ← members child item (suc i) ks
  Ok (entry_and k t es)

unfoldable pub array_at : Layout → List ℕ → (ℕ → Result Resource FileFault) → ℕ → Result Resources FileFault
array_at y body child o =
    let n = array_count body o in
    if nat_lt y.top (array_first o + n) then Err Length else trees child (λ i. word_at body (array_first o + i)) 0 n

-- a table of n entries, with its key offsets and its first item's word; all keys are read before the first child
unfoldable pub table_of : Layout → List ℕ → (ℕ → Result Resource FileFault) → (ℕ → ℕ) → ℕ → ℕ → Result Members FileFault
table_of y body child place from n =
    if nat_lt y.top (from + n) then Err Length else (do
      ks ← keys y body place [] 0 n
      members child (λ i. word_at body (from + i)) 0 ks)

-- the table with these parts
abbrev pub table_with : Layout → List ℕ → (ℕ → Result Resource FileFault) → TableParts → Result Members FileFault
table_with y body child p = table_of y body child (key_offset body p.keys) p.first p.count

unfoldable pub table16_at : Layout → List ℕ → (ℕ → Result Resource FileFault) → ℕ → Result Members FileFault
table16_at y body child o = table_with y body child (table_parts body o)

unfoldable pub table32_at : Layout → List ℕ → (ℕ → Result Resource FileFault) → ℕ → Result Members FileFault
table32_at y body child o = table_with y body child (long_table_parts body o)

-- ---- items

abbrev pub result_map : {A B : Type 0} → (A → B) → Result A FileFault → Result B FileFault
result_map f (Ok x) = Ok (f x)
result_map f (Err e) = Err e

-- whether an item has data, which then are between the keys and the top
abbrev pub within : Layout → ItemKind → ℕ → Result Bool FileFault
within y k o =
    if has_data k o then (if nat_lt o y.keys_top then Err Offset else (if nat_lt o y.top then Ok true else Err Offset))
    else Ok false

-- the value of the data, where `child` gives the tree of an item in them
unfoldable pub contents : Layout → List ℕ → (ℕ → Result Resource FileFault) → ℕ → ItemKind → Result Resource FileFault
contents y body child o String = result_map string (units y body o)
contents y body child o Binary = result_map binary (bytes y body o)
contents y body child o Table = result_map table (table16_at y body child o)
contents y body child o Alias = result_map alias (units y body o)
contents y body child o LongTable = result_map table (table32_at y body child o)
contents y body child o Int = Ok (int o)
contents y body child o Array = result_map array (array_at y body child o)
contents y body child o Ints = result_map (λ ns. ints (map (cast_signed w32) ns)) (numbers y body o)

unfoldable pub value : Layout → List ℕ → (ℕ → Result Resource FileFault) → ℕ → ItemKind → Result Resource FileFault
value y body child o k = do
  there ← within y k o
  if there then contents y body child o k else Ok (bare k o)

abbrev pub kind_or_fault : Option ItemKind → Result ItemKind FileFault
kind_or_fault None = Err ItemType
kind_or_fault (Some k) = Ok k

-- an item, where `child` gives the trees of its children
unfoldable pub node : Layout → List ℕ → (ℕ → Result Resource FileFault) → ℕ → Result Resource FileFault
node y body child item = kind_or_fault (kind_of item) >>= λ k. value y body child (offset_of item) k

-- the tree of height at most d that an item denotes, or the first fault
unfoldable pub read : Layout → List ℕ → ℕ → ℕ → Result Resource FileFault
read y body zero item = Err TooDeep
read y body (suc d) item = node y body (λ w. read y body d w) item

-- the fault, if there is one
abbrev pub fault_of : {A : Type 0} → Result A FileFault → Option FileFault
fault_of (Ok x) = None
fault_of (Err e) = Some e

-- a value of this height at a level where d levels are left
abbrev pub limited : {A : Type 0} → ℕ → ℕ → A → Result A FileFault
limited d height x = if nat_le height d then Ok x else Err TooDeep

-- ---- files

-- the header, with its checks in order
unfoldable pub header : List ℕ → Result Header FileFault
header bytes =
    if nat_lt (length bytes) 24 then Err faults.Header else
    (if has_magic bytes then
    (if slice_index bytes 8 == 0 then
    (if has_family bytes then
    (if has_version bytes then
    (if has_sizes bytes then Ok (record { size = half_at bytes 0; minor = slice_index bytes 17 })
    else Err faults.Header)
    else Err FormatVersion)
    else Err Family)
    else Err BigEndian)
    else Err faults.Header)

-- the data of a file with this minor version, whose tree has a height of at most d
unfoldable pub read_data : ℕ → ℕ → List ℕ → Result SourceTree FileFault
read_data d minor body =
    if has_valid_indexes body then
    (if has_pool (attributes_of minor body) then Err faults.Attributes else
    (if is_table (kind_of (word_at body 0))
    then result_map (flagged (attributes_of minor body)) (read (layout_of body) body d (word_at body 0)) else Err Root))
    else Err Indexes

unfoldable pub read_file : ℕ → List ℕ → Result SourceTree FileFault
read_file d bytes =
    if nat_lt file_limit (length bytes) then Err TooLong else (do
      h ← header bytes
      read_data d h.minor (drop h.size bytes))
