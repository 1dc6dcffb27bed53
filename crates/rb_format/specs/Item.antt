-- Defines items: a type, and an offset in words from the root item or a value (`uresdata.h`, RES_GET_TYPE and
-- RES_GET_OFFSET).
use Rattle.std.specs.Prelude.{Bool, true, false, ℕ, ◌^◌, ◌/◌, ◌%◌, ◌==◌, nat_lt, if◌then◌else◌, [], Option, Some, None}
use Rattle.rb_format.specs.declared.kind.ItemKind.{ItemKind}
use Rattle.rb_format.specs.declared.kind.ItemKind.TheVariants.{String, Binary, Table, Alias, LongTable, Int, Array}
use Rattle.rb_format.specs.declared.kind.ItemKind.TheVariants.{Ints}
use Rattle.rb_tree.specs.Resource.{Resource, string, binary, table, alias, int, array, ints, no_trees, no_entries}

-- bits 31 to 28
abbrev pub type_of : ℕ → ℕ
type_of item = item / 2 ^ 28

-- bits 27 to 0
abbrev pub offset_of : ℕ → ℕ
offset_of item = item % 2 ^ 28

abbrev pub kind_of : ℕ → Option ItemKind
kind_of item =
    let k = type_of item in
    if k == 0 then Some String else (if k == 1 then Some Binary else (if k == 2 then Some Table else
    (if k == 3 then Some Alias else (if k == 4 then Some LongTable else (if k == 7 then Some Int else
    (if k == 8 then Some Array else (if k == 14 then Some Ints else None)))))))

-- both kinds of table
abbrev pub is_table : Option ItemKind → Bool
is_table (Some Table) = true
is_table (Some LongTable) = true
is_table (Some k) = false
is_table None = false

-- an Int and an offset of 0 have no data
abbrev pub has_data : ItemKind → ℕ → Bool
has_data Int o = false
has_data k o = nat_lt 0 o

-- the value of an item without data: an Int's number, or the empty value
abbrev pub bare : ItemKind → ℕ → Resource
bare String o = string []
bare Binary o = binary []
bare Table o = table no_entries
bare Alias o = alias []
bare LongTable o = table no_entries
bare Int o = int o
bare Array o = array no_trees
bare Ints o = ints []
