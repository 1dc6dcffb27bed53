-- Defines the tree that an item denotes, by cases on its type, or nothing if a condition fails (`uresdata.h`, the
-- resource types of format version 1). The order of checks and the faults are not part of it.
use Rattle.std.specs.Prelude.{Bool, true, false, ℕ, zero, suc, ◌+◌, ◌*◌, ◌==◌, ◌&&◌, nat_lt}
use Rattle.std.specs.Prelude.{nat_le, if◌then◌else◌, List, [], ◌∷◌, take, drop, map, Option, Some, None, option_map}
use Rattle.std.specs.Ordering.{is_lt, nat_cmp}
use Rattle.std.specs.Cmp.Lexicographic.{slice_cmp}
use Rattle.std.specs.Int.{cast_signed, w32}
use Rattle.rb_format.specs.declared.layout.Layout.{Layout}
use Rattle.rb_format.specs.declared.kind.ItemKind.{ItemKind}
use Rattle.rb_format.specs.declared.kind.ItemKind.TheVariants.{String, Binary, Table, Alias, LongTable, Int, Array}
use Rattle.rb_format.specs.declared.kind.ItemKind.TheVariants.{Ints}
use Rattle.rb_tree.specs.Resource.{Resource, string, binary, table, alias, int, array, ints, Resources, no_trees}
use Rattle.rb_tree.specs.Resource.{tree_and, Members, no_entries, entry_and}
use Rattle.rb_format.specs.declared.geometry.TableParts.{TableParts}
use Rattle.rb_format.specs.Place.{word_at, half_at, key, values}
use Rattle.rb_format.specs.Geometry.{key_offset, table_parts, long_table_parts, array_first, array_count}
use Rattle.rb_format.specs.Item.{kind_of, offset_of, has_data, bare}

-- x, if a condition holds
abbrev pub where_holds : {A : Type 0} → Bool → Option A → Option A
where_holds true x = x
where_holds false x = None

infixl 10 ◌>>?◌
abbrev pub ◌>>?◌ : {A B : Type 0} → Option A → (A → Option B) → Option B
(Some x) >>? f = f x
None >>? f = None

-- the trees of n items from index i on
abbrev pub trees_at : (ℕ → Option Resource) → (ℕ → ℕ) → ℕ → ℕ → Option Resources
trees_at child item i zero = Some no_trees
trees_at child item i (suc n) = child (item i) >>? λ t. trees_at child item (suc i) n >>? λ ts. Some (tree_and t ts)

-- the n keys from index i on, each above the one before
abbrev pub keys_at : Layout → List ℕ → (ℕ → ℕ) → List ℕ → ℕ → ℕ → Option (List (List ℕ))
keys_at y body place last i zero = Some []
keys_at y body place last i (suc n) = key y body (place i) >>? λ k. where_holds (is_lt (slice_cmp nat_cmp last k))
    (keys_at y body place k (suc i) n >>? λ ks. Some (k ∷ ks))

-- the entries with these keys, whose items begin at index i
abbrev pub members_at : (ℕ → Option Resource) → (ℕ → ℕ) → ℕ → List (List ℕ) → Option Members
members_at child item i [] = Some no_entries
members_at child item i (k ∷ ks) = child (item i) >>? λ t. members_at child item (suc i) ks >>? λ es. Some
    (entry_and k t es)

-- a table of n entries, whose items begin at word `from`
abbrev pub table_at : Layout → List ℕ → (ℕ → Option Resource) → (ℕ → ℕ) → ℕ → ℕ → Option Members
table_at y body child place from n = where_holds (nat_le (from + n) y.top)
    (keys_at y body place [] 0 n >>? λ ks. members_at child (λ i. word_at body (from + i)) 0 ks)

-- the table with these parts
abbrev pub table_with : Layout → List ℕ → (ℕ → Option Resource) → TableParts → Option Members
table_with y body child p = table_at y body child (key_offset body p.keys) p.first p.count

-- the units at an offset, with a zero unit after them
abbrev pub units_at : Layout → List ℕ → ℕ → Option (List ℕ)
units_at y body o = where_holds (nat_le (4 * o + 6 + 2 * word_at body o) (4 * y.top))
    (where_holds (half_at body (2 * o + 2 + word_at body o) == 0)
    (Some (values (half_at body) (2 * o + 2) (word_at body o))))

-- the value of the data at an offset, where `child` gives the tree of an item in them
abbrev pub value_at : Layout → List ℕ → (ℕ → Option Resource) → ℕ → ItemKind → Option Resource
value_at y body child o String = option_map string (units_at y body o)
value_at y body child o Binary = where_holds (nat_le (4 * o + 4 + word_at body o) (4 * y.top))
    (Some (binary (take (word_at body o) (drop (4 * o + 4) body))))
value_at y body child o Table = option_map table (table_with y body child (table_parts body o))
value_at y body child o Alias = option_map alias (units_at y body o)
value_at y body child o LongTable = option_map table (table_with y body child (long_table_parts body o))
value_at y body child o Int = Some (int o)
value_at y body child o Array =
    let n = array_count body o in
    where_holds (nat_le (array_first o + n) y.top)
    (option_map array (trees_at child (λ i. word_at body (array_first o + i)) 0 n))
value_at y body child o Ints = where_holds (nat_le (o + 1 + word_at body o) y.top)
    (Some (ints (map (cast_signed w32) (values (word_at body) (o + 1) (word_at body o)))))

-- the empty value for an item without data, else the value of its data, which begin between the keys and the top
abbrev pub item_at : Layout → List ℕ → (ℕ → Option Resource) → ℕ → ItemKind → Option Resource
item_at y body child o k = if has_data k o
    then where_holds (nat_le y.keys_top o && nat_lt o y.top) (value_at y body child o k) else Some (bare k o)

-- the tree of height at most d that an item denotes
unfoldable pub tree_at : Layout → List ℕ → ℕ → ℕ → Option Resource
tree_at y body zero item = None
tree_at y body (suc d) item = kind_of item >>? item_at y body (λ w. tree_at y body d w) (offset_of item)
