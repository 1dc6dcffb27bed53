-- Proves that the tree of an accepted file is a bundle's.
use Rattle.std.proofs.Common.{◌≡◌, ℕ, zero, suc, ◌+◌, ◌-◌, ◌<◌, ◌≤◌, ◌^◌, Bool, true, false, List, [], ◌∷◌, take, drop, Option, Some, None, Ordering, Less, nat_cmp}
use Rattle.std.proofs.Common.{refl, sym, ap, subst, ◌∙◌, arith, cond, leb}
use Rattle.std.specs.Prelude.{option_map, if◌then◌else◌, nat_lt, nat_le, ◌&&◌, ◌*◌, map, not, slice_index, All, position, ◌==◌}
use Rattle.std.specs.Map.{keys_of}
use Rattle.std.specs.Ordering.{is_lt}
use Rattle.std.specs.Int.{cast_signed, w32}
use Rattle.std.specs.Cmp.Lexicographic.{slice_cmp}
use Rattle.std.proofs.lemmas.Bool.{leb-true, and_parts}
use Rattle.rb_tree.specs.Resource.{Resource, string, int, ints, binary, alias, array, table, Resources, no_trees, tree_and, Members, no_entries, entry_and, height}
use Rattle.rb_tree.specs.Keys.{IsKey, IsTable, pairs}
use Rattle.rb_tree.specs.Parts.{kind_of as tree_kind_of}
use Rattle.rb_tree.specs.declared.kind.Kind.TheVariants as Kinds
use Rattle.rb_tree.specs.SourceTree.{SourceTree}
use Rattle.rb_grammar.proofs.Rows.{Ascend, AscendFrom, ascend_sorted, table_none}
use Rattle.rb_format.specs.declared.layout.Layout.{Layout}
use Rattle.rb_format.specs.declared.kind.ItemKind.{ItemKind}
use Rattle.rb_format.specs.declared.kind.ItemKind.TheVariants as kinds
use Rattle.std.proofs.lemmas.List.Elements.{All-cons}
use Rattle.rb_format.specs.Place.{word_at, half_at, layout_of, values, key, key_ok, key_before, key_front}
use Rattle.rb_format.specs.Geometry.{key_offset, table_parts, long_table_parts, array_first, array_count}
use Rattle.rb_format.specs.Item.{kind_of, offset_of, has_data, bare, is_table}
use Rattle.rb_format.specs.Denotation.{where_holds, ◌>>?◌, trees_at, keys_at, members_at, table_at, table_with, units_at, value_at, item_at, tree_at}
use Rattle.rb_format.proofs.Keys.{key_is}
use Rattle.rb_format.proofs.Plainly.{plain_limited}
use Rattle.rb_format.specs.Attributes.{attributes_of, has_pool}
use Rattle.rb_format.specs.File.{is_short_enough, has_header, has_valid_indexes, flagged, source_of_data, source_of_file, Denotes, source_tree_of, tree_of}
use Rattle.rb_views.specs.inner.Stands.{kind_named}
use Rattle.rb_views.specs.Trees.{item_tree}
use Rattle.rb_views.proofs.Values.{then_some, where_some, some_eq}
use Rattle.rb_views.proofs.Readings.{map_some, stands_from}
use Rattle.rb_views.proofs.TreeKinds.{tree_kind}
use Rattle.rb_printer.specs.Sound.{IsWell, AreWell, EachWell, IsBundleTree}
use Rattle.rb_printer.proofs.Forming.{KeysAre}

-- ---- keys

before_is_key : (run : List ℕ) (place : Option ℕ) (k : List ℕ) → key_before run place ≡ Some k → IsKey k
before_is_key run None k e = absurd cc
before_is_key run (Some n) k e = by (key_ok (take n run)) refl e where
  by : (b : Bool) → key_ok (take n run) ≡ b → (if b then Some (take n run) else None) ≡ Some k → IsKey k
  by true holds e = let same : take n run ≡ k = cc in subst IsKey same ((key_is (take n run)).0 holds)
  by false fails e = absurd cc

is_key : (y : Layout) (body : List ℕ) (o : ℕ) (k : List ℕ) → key y body o ≡ Some k → IsKey k
unfolding key
is_key y body o k e = first (nat_lt o (4 * (1 + y.indexes))) e where
  run : List ℕ
  run = take (4 * y.keys_top - o) (drop o body)

  second : (b : Bool) → (if b then key_front (take (4 * y.keys_top - o) (drop o body)) else None) ≡ Some k → IsKey k
  second true e = before_is_key (take (4 * y.keys_top - o) (drop o body)) (position (λ b. b == 0) (take (4 * y.keys_top - o) (drop o body))) k e
  second false e = absurd cc

  first : (b : Bool) → (if b then None else (if nat_lt o (4 * y.keys_top) then key_front (take (4 * y.keys_top - o) (drop o body)) else None)) ≡ Some k → IsKey k
  first true e = absurd cc
  first false e = second (nat_lt o (4 * y.keys_top)) e

less : (r : Ordering) → is_lt r ≡ true → r ≡ Less
less Less e = refl
less r e = cc

-- keys, each above the one before
abbrev Chain : List ℕ → List (List ℕ) → Type 0
Chain last [] = Unit {0}
Chain last (k ∷ ks) = IsKey k × (slice_cmp nat_cmp last k ≡ Less) × Chain k ks

chain : (y : Layout) (body : List ℕ) (place : ℕ → ℕ) (n i : ℕ) (last : List ℕ) (ks : List (List ℕ)) → keys_at y body place last i n ≡ Some ks → Chain last ks
chain y body place zero i last ks e = let none : [] ≡ ks = cc in subst (Chain last) none tt
chain y body place (suc n) i last ks e =
    let a = then_some (key y body (place i))
    (λ k. where_holds (is_lt (slice_cmp nat_cmp last k)) (keys_at y body place k (suc i) n >>? λ ks. Some (k ∷ ks))) ks e in
    let b = where_some (is_lt (slice_cmp nat_cmp last a.0)) (keys_at y body place a.0 (suc i) n >>? λ ks. Some (a.0 ∷ ks)) ks a.2 in
    let c = then_some (keys_at y body place a.0 (suc i) n) (λ ks. Some (a.0 ∷ ks)) ks b.1 in
    let all : Chain last (a.0 ∷ c.0) =
    (is_key y body (place i) a.0 a.1, less (slice_cmp nat_cmp last a.0) b.0, chain y body place n (suc i) a.0 c.0 c.1) in
    let same : a.0 ∷ c.0 ≡ ks = cc in
    subst (Chain last) same all

-- ---- children

is_key_all : (es : Members) → KeysAre es → All IsKey (keys_of (pairs es))
is_key_all no_entries h = λ i d e. absurd (omega arith)
is_key_all (entry_and k t es) h = All-cons IsKey k (keys_of (pairs es)) h.0 (is_key_all es h.1)

ascends : (last : List ℕ) (es : Members) → AscendFrom last es → Ascend es
ascends last no_entries up = tt
ascends last (entry_and k t es) up = up.1

in_order : (last : List ℕ) (es : Members) → AscendFrom last es → KeysAre es → IsTable es
in_order last es up keys = record { keys_ok = is_key_all es keys; ascend = ascend_sorted es (ascends last es up) }

bare_well : (k : ItemKind) (o : ℕ) → o < 2 ^ 28 → IsWell (bare k o)
bare_well kinds.String o low = tt
bare_well kinds.Binary o low = tt
bare_well kinds.Table o low = (table_none, tt)
bare_well kinds.Alias o low = tt
bare_well kinds.LongTable o low = (table_none, tt)
bare_well kinds.Int o low = low
bare_well kinds.Array o low = tt
bare_well kinds.Ints o low = tt

module _ (child : ℕ → Option Resource) (well : (w : ℕ) (t : Resource) → child w ≡ Some t → IsWell t) where
  trees_well : (item : ℕ → ℕ) (n i : ℕ) (ts : Resources) → trees_at child item i n ≡ Some ts → AreWell ts
  trees_well item zero i ts e = let none : no_trees ≡ ts = cc in subst AreWell none tt
  trees_well item (suc n) i ts e =
      let a = then_some (child (item i)) (λ t. trees_at child item (suc i) n >>? λ us. Some (tree_and t us)) ts e in
      let b = then_some (trees_at child item (suc i) n) (λ us. Some (tree_and a.0 us)) ts a.2 in
      let all : AreWell (tree_and a.0 b.0) = (well (item i) a.0 a.1, trees_well item n (suc i) b.0 b.1) in
      let same : tree_and a.0 b.0 ≡ ts = cc in
      subst AreWell same all

  record Filled (last : List ℕ) (es : Members) : Type 0 where
    pub up : AscendFrom last es
    pub keys : KeysAre es
    pub each : EachWell es

  members_filled : (item : ℕ → ℕ) (last : List ℕ) (ks : List (List ℕ)) (i : ℕ) (es : Members) → Chain last ks → members_at child item i ks ≡ Some es → Filled last es
  members_filled item last [] i es c e = let none : no_entries ≡ es = cc in subst (Filled last) none (record { up = tt; keys = tt; each = tt })
  members_filled item last (k ∷ ks) i es c e =
      let a = then_some (child (item i)) (λ t. members_at child item (suc i) ks >>? λ fs. Some (entry_and k t fs)) es e in
      let b = then_some (members_at child item (suc i) ks) (λ fs. Some (entry_and k a.0 fs)) es a.2 in
      let later = members_filled item k ks (suc i) b.0 c.2 b.1 in
      let all : Filled last (entry_and k a.0 b.0) =
      record { up = (c.1, later.up); keys = (c.0, later.keys); each = (well (item i) a.0 a.1, later.each) } in
      let same : entry_and k a.0 b.0 ≡ es = cc in
      subst (Filled last) same all

  table_well : (y : Layout) (body : List ℕ) (place : ℕ → ℕ) (from n : ℕ) (es : Members) → table_at y body child place from n ≡ Some es → IsWell (table es)
  table_well y body place from n es e =
      let read = λ (ks : List (List ℕ)). members_at child (λ i. word_at body (from + i)) 0 ks in
      let a = where_some (nat_le (from + n) y.top) (keys_at y body place [] 0 n >>? read) es e in
      let b = then_some (keys_at y body place [] 0 n) read es a.1 in
      let filled = members_filled (λ i. word_at body (from + i)) [] b.0 0 es (chain y body place n 0 [] b.0 b.1) b.2 in
      (in_order [] es filled.up filled.keys, filled.each)

  -- the value of the data at an offset
  value_well : (y : Layout) (body : List ℕ) (o : ℕ) (k : ItemKind) (t : Resource) → o < 2 ^ 28 → value_at y body child o k ≡ Some t → IsWell t
  value_well y body o kinds.String t low e = let a = map_some string (units_at y body o) t e in subst IsWell a.2 tt
  value_well y body o kinds.Alias t low e = let a = map_some alias (units_at y body o) t e in subst IsWell a.2 tt
  value_well y body o kinds.Binary t low e =
      let value = binary (take (word_at body o) (drop (4 * o + 4) body)) in
      let a = where_some (nat_le (4 * o + 4 + word_at body o) (4 * y.top)) (Some value) t e in
      let same : value ≡ t = some_eq value t a.1 in
      subst IsWell same tt
  value_well y body o kinds.Table t low e =
      let p = table_parts body o in
      let a = map_some table (table_with y body child p) t e in
      subst IsWell a.2 (table_well y body (key_offset body p.keys) p.first p.count a.0 a.1)
  value_well y body o kinds.LongTable t low e =
      let p = long_table_parts body o in
      let a = map_some table (table_with y body child p) t e in
      subst IsWell a.2 (table_well y body (key_offset body p.keys) p.first p.count a.0 a.1)
  value_well y body o kinds.Int t low e = let same : int o ≡ t = some_eq (int o) t e in subst IsWell same low
  value_well y body o kinds.Array t low e =
      let n = array_count body o in
      let all = trees_at child (λ i. word_at body (array_first o + i)) 0 n in
      let a = where_some (nat_le (array_first o + n) y.top) (option_map array all) t e in
      let b = map_some array all t a.1 in
      subst IsWell b.2 (trees_well (λ i. word_at body (array_first o + i)) n 0 b.0 b.1)
  value_well y body o kinds.Ints t low e =
      let value = ints (map (cast_signed w32) (values (word_at body) (o + 1) (word_at body o))) in
      let a = where_some (nat_le (o + 1 + word_at body o) y.top) (Some value) t e in
      let same : value ≡ t = some_eq value t a.1 in
      subst IsWell same tt

  item_well : (y : Layout) (body : List ℕ) (o : ℕ) (k : ItemKind) (t : Resource) → o < 2 ^ 28 → item_at y body child o k ≡ Some t → IsWell t
  item_well y body o k t low e = by (has_data k o) e where
    by : (b : Bool) → (if b then where_holds (nat_le y.keys_top o && nat_lt o y.top) (value_at y body child o k) else Some (bare k o)) ≡ Some t → IsWell t
    by true e = value_well y body o k t low (where_some (nat_le y.keys_top o && nat_lt o y.top) (value_at y body child o k) t e).1
    by false e = let same : bare k o ≡ t = some_eq (bare k o) t e in subst IsWell same (bare_well k o low)

tree_well : (y : Layout) (body : List ℕ) (d item : ℕ) (t : Resource) → tree_at y body d item ≡ Some t → IsWell t
unfolding tree_at
tree_well y body zero item t e = absurd cc
tree_well y body (suc d) item t e =
    let a = then_some (kind_of item) (item_at y body (λ w. tree_at y body d w) (offset_of item)) t e in
    item_well (λ w. tree_at y body d w) (λ w u q. tree_well y body d w u q) y body (offset_of item) a.0 t (omega arith) a.2

-- ---- levels

fits_level : (t : Resource) (b : Bool) → cond {A = Option Resource} b (Some t) None ≡ Some t → b ≡ true
fits_level t true e = refl
fits_level t false e = absurd cc

tree_low : (y : Layout) (body : List ℕ) (d item : ℕ) (t : Resource) → tree_at y body d item ≡ Some t → height t ≤ d
tree_low y body d item t e = leb-true (height t) d (fits_level t (leb (height t) d) (sym (plain_limited y body d d item t e) ∙ e))

-- ---- the root

table_item : (o : Option ItemKind) → is_table o ≡ true → (k : ItemKind) × (o ≡ Some k) × (kind_named k ≡ Kinds.Table)
table_item (Some kinds.Table) e = (kinds.Table, refl, refl)
table_item (Some kinds.LongTable) e = (kinds.LongTable, refl, refl)
table_item (Some k) e = absurd cc
table_item None e = absurd cc

record IsRead (h : ℕ) (body : List ℕ) (s : SourceTree) : Type 0 where
  pub table : is_table (kind_of (word_at body 0)) ≡ true
  pub tree : tree_at (layout_of body) body h (word_at body 0) ≡ Some s.tree

read_data : (h minor : ℕ) (body : List ℕ) (s : SourceTree) → source_of_data h minor body ≡ Some s → IsRead h body s
unfolding source_of_data
read_data h minor body s e =
    let bits = attributes_of minor body in
    let read = tree_at (layout_of body) body h (word_at body 0) in
    let a = where_some (has_valid_indexes body && not (has_pool bits) && is_table (kind_of (word_at body 0))) (option_map (flagged bits) read) s e in
    let m = map_some (flagged bits) read s a.1 in
    record {
      table = (and_parts (has_valid_indexes body && not (has_pool bits)) (is_table (kind_of (word_at body 0))) a.0).1;
      tree = m.1 ∙ ap (λ (x : SourceTree). Some x.tree) m.2;
    }

read_file : (h : ℕ) (bytes : List ℕ) (s : SourceTree) → source_of_file h bytes ≡ Some s → IsRead h (drop (half_at bytes 0) bytes) s
unfolding source_of_file
read_file h bytes s e =
    let body = drop (half_at bytes 0) bytes in
    let minor = slice_index bytes 17 in
    read_data h minor body s (where_some (is_short_enough bytes && has_header bytes) (source_of_data h minor body) s e).1

pub is_bundle_tree : (bytes : List ℕ) → Denotes bytes (source_tree_of bytes) → IsBundleTree (tree_of bytes)
is_bundle_tree bytes e =
    let body = drop (half_at bytes 0) bytes in
    let t = tree_of bytes in
    let read = read_file 64 bytes (source_tree_of bytes) e in
    let stands = stands_from body (word_at body 0) t read.tree in
    let item = table_item (kind_of (word_at body 0)) read.table in
    let named : tree_kind_of (item_tree body (word_at body 0)) ≡ Kinds.Table = tree_kind body (word_at body 0) item.0 stands.0 item.1 ∙ item.2 in
    record {
      is_table = subst (λ (x : Resource). tree_kind_of x ≡ Kinds.Table) stands.1 named;
      low = tree_low (layout_of body) body 64 (word_at body 0) t read.tree;
      well = tree_well (layout_of body) body 64 (word_at body 0) t read.tree;
    }
