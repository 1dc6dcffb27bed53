-- Proves where the items of arrays and the entries of tables are.
use Rattle.std.proofs.Common.{◌≡◌, ℕ, zero, suc, ◌+◌, ◌*◌, ◌<◌, ◌≤◌, ◌⊎◌, true, leb, List, [], ◌∷◌, Option, Some, refl, sym, ap, subst, ◌∙◌, arith, inl, inr}
use Rattle.std.specs.Prelude.{unwrap_or}
use Rattle.std.specs.Ordering.{is_lt, nat_cmp}
use Rattle.std.specs.Cmp.Lexicographic.{slice_cmp, nat_list_cmp_total}
use Rattle.std.specs.declared.cmp.Ordering.{Ordering}
use Rattle.std.specs.declared.cmp.Ordering.TheVariants.{Less, Equal, Greater}
use Rattle.std.proofs.lemmas.Bool.{leb-true, le-leb}
use Rattle.rb_tree.specs.declared.kind.Kind.TheVariants as named
use Rattle.rb_tree.specs.Keys.{items, pairs}
use Rattle.rb_tree.specs.Parts as parts
use Rattle.rb_tree.specs.Resource.{Resource, array, table, Resources, no_trees, tree_and, Members, no_entries, entry_and}
use Rattle.rb_format.specs.declared.geometry.KeyPlaces.{KeyPlaces}
use Rattle.rb_format.specs.declared.geometry.KeyPlaces.TheVariants.{Halves, Words}
use Rattle.rb_format.specs.declared.geometry.TableParts.{TableParts}
use Rattle.rb_format.specs.declared.kind.ItemKind.{ItemKind}
use Rattle.rb_format.specs.declared.kind.ItemKind.TheVariants.{Table, LongTable, Array}
use Rattle.rb_format.specs.declared.layout.Layout.{Layout}
use Rattle.rb_format.specs.Place.{word_at, key, values, layout_of}
use Rattle.rb_format.specs.Geometry.{key_offset, keys_end, table_parts, long_table_parts}
use Rattle.rb_format.specs.Item.{kind_of, offset_of}
use Rattle.rb_format.specs.Denotation.{where_holds, ◌>>?◌, tree_at, trees_at, keys_at, members_at, table_at, item_at}
use Rattle.rb_views.specs.inner.Stands.{all_stand, table_stands, StandsFor, AllStand, TableStands, HasEntriesAt}
use Rattle.rb_views.specs.Trees.{item_tree, key_from}
use Rattle.rb_views.proofs.Values.{some_is, is_some_from, some_eq, then_some, where_some, where_true}
use Rattle.rb_views.proofs.Readings.{map_some, of_kind, child_stands, with_data, without_data}
use Rattle.rb_views.proofs.TreeKinds.{kind_back, value_there, bare_there, tree_kind, only_array, only_table}

-- ---- arrays

-- the items of an array, place by place, where tree says what a child denotes
trees_are : (child : ℕ → Option Resource) (tree : ℕ → Resource) → ((w : ℕ) (t : Resource) → child w ≡ Some t → tree w ≡ t)
    → (item : ℕ → ℕ) (i n : ℕ) (ts : Resources) → trees_at child item i n ≡ Some ts → values (λ j. tree (item j)) i n ≡ items ts
trees_are child tree is item i zero ts e = ap items (some_eq no_trees ts e)
trees_are child tree is item i (suc n) ts e =
    let a = then_some (child (item i)) (λ t. trees_at child item (suc i) n >>? λ us. Some (tree_and t us)) ts e in
    let b = then_some (trees_at child item (suc i) n) (λ us. Some (tree_and a.0 us)) ts a.2 in
    let first : tree (item i) ≡ a.0 = is (item i) a.0 a.1 in
    rw first (ap (λ (xs : List Resource). a.0 ∷ xs) (trees_are child tree is item (suc i) n b.0 b.1) ∙ ap items (some_eq (tree_and a.0 b.0) ts b.2))

tree_there : (child : ℕ → Option Resource) (item : ℕ → ℕ) (i n : ℕ) (ts : Resources) (k : ℕ) → trees_at child item i n ≡ Some ts → k < n
    → (t : Resource) × (child (item (i + k)) ≡ Some t)
tree_there child item i zero ts k e h = absurd (omega arith)
tree_there child item i (suc n) ts zero e h =
    let a = then_some (child (item i)) (λ t. trees_at child item (suc i) n >>? λ us. Some (tree_and t us)) ts e in
    let z : i + 0 ≡ i = omega arith in
    (a.0, rw z a.1)
tree_there child item i (suc n) ts (suc k) e h =
    let a = then_some (child (item i)) (λ t. trees_at child item (suc i) n >>? λ us. Some (tree_and t us)) ts e in
    let b = then_some (trees_at child item (suc i) n) (λ us. Some (tree_and a.0 us)) ts a.2 in
    let r = tree_there child item (suc i) n b.0 k b.1 (omega arith) in
    let s : i + suc k ≡ suc i + k = omega arith in
    (r.0, rw s r.1)

-- each child of a view denotes a tree
pub array_child : (body : List ℕ) (first count i : ℕ) → AllStand body first count → i < count → StandsFor body (word_at body (first + i))
unfolding all_stand
array_child body first count i h l =
    let y = layout_of body in
    let all = trees_at (λ w. tree_at y body 63 w) (λ j. word_at body (first + j)) 0 count in
    let r = some_is (where_holds (leb (first + count) y.top) all) h in
    let a = where_some (leb (first + count) y.top) all r.0 r.1 in
    let c = tree_there (λ w. tree_at (layout_of body) body 63 w) (λ j. word_at body (first + j)) 0 count r.0 i a.1 l in
    let z : 0 + i ≡ i = omega arith in
    (child_stands body (word_at body (first + i)) c.0 (rw z at c.1)).0

pub array_room : (body : List ℕ) (first count : ℕ) → AllStand body first count → first + count ≤ (layout_of body).top
unfolding all_stand
array_room body first count h =
    let y = layout_of body in
    let all = trees_at (λ w. tree_at y body 63 w) (λ j. word_at body (first + j)) 0 count in
    let r = some_is (where_holds (leb (first + count) y.top) all) h in
    leb-true (first + count) y.top (where_some (leb (first + count) y.top) all r.0 r.1).0

pub record HasItemsAt (body : List ℕ) (o : ℕ) (t : Resource) : Type 0 where
  pub below : o < (layout_of body).top
  pub stand : AllStand body (o + 1) (word_at body o)
  pub are : values (λ i. item_tree body (word_at body (o + 1 + i))) 0 (word_at body o) ≡ parts.children_of t

array_at : (body : List ℕ) (o : ℕ) (t : Resource) → item_at (layout_of body) body (λ w. tree_at (layout_of body) body 63 w) o Array ≡ Some t → 0 < o
    → HasItemsAt body o t
unfolding all_stand
array_at body o t e h =
    let y = layout_of body in
    let child = λ (w : ℕ). tree_at y body 63 w in
    let v = with_data y body child o Array t refl e h in
    let a = where_some _ _ t v.1 in
    let m = map_some array _ t a.1 in
    record {
      below = v.0;
      stand = is_some_from _ m.0 (where_true _ _ a.0 ∙ m.1);
      are = trees_are child (item_tree body) (λ w u p. (child_stands body w u p).1) (λ i. word_at body (o + 1 + i)) 0 (word_at body o) m.0 m.1
          ∙ ap parts.children_of m.2;
    }

pub items_there : (body : List ℕ) (item o : ℕ) → o ≡ offset_of item → StandsFor body item → parts.kind_of (item_tree body item) ≡ named.Array → 0 < o
    → HasItemsAt body o (item_tree body item)
items_there body item o same h e p = array_at body o (item_tree body item) (value_there body item o Array named.Array only_array same h e) p

pub items_none : (body : List ℕ) (item o : ℕ) → o ≡ offset_of item → StandsFor body item → parts.kind_of (item_tree body item) ≡ named.Array → o ≡ 0
    → [] ≡ parts.children_of (item_tree body item)
items_none body item o same h e z = ap parts.children_of (bare_there body item o Array named.Array only_array refl same h e z)

pub none_stand : (body : List ℕ) → AllStand body 0 0
unfolding all_stand
none_stand body = is_some_from _ no_trees (where_true _ _ (le-leb 0 (layout_of body).top (omega arith)))

-- ---- keys

abbrev pub Below : List ℕ → List ℕ → Type 0
Below a b = slice_cmp nat_cmp a b ≡ Less

less_is : (o : Ordering) → is_lt o ≡ true → o ≡ Less
less_is Less e = refl
less_is Equal e = absurd cc
less_is Greater e = absurd cc

abbrev key_or : Layout → List ℕ → ℕ → List ℕ
key_or y body o = unwrap_or (key y body o) []

-- a key that is there, above the last one, and the keys after it
record NextKey (y : Layout) (body : List ℕ) (place : ℕ → ℕ) (last : List ℕ) (i n : ℕ) (ks : List (List ℕ)) : Type 0 where
  q : List ℕ
  others : List (List ℕ)
  there : key y body (place i) ≡ Some q
  above : Below last q
  rest : keys_at y body place q (suc i) n ≡ Some others
  are : ◌≡◌ {A = List (List ℕ)} (q ∷ others) ks

next_key : (y : Layout) (body : List ℕ) (place : ℕ → ℕ) (last : List ℕ) (i n : ℕ) (ks : List (List ℕ)) → keys_at y body place last i (suc n) ≡ Some ks
    → NextKey y body place last i n ks
next_key y body place last i n ks e =
    let a = then_some (key y body (place i))
    (λ k. where_holds (is_lt (slice_cmp nat_cmp last k)) (keys_at y body place k (suc i) n >>? λ ks. Some (k ∷ ks))) ks e in
    let b = where_some _ _ ks a.2 in
    let c = then_some (keys_at y body place a.0 (suc i) n) (λ ks. Some (a.0 ∷ ks)) ks b.1 in
    record { q = a.0; others = c.0; there = a.1; above = less_is _ b.0; rest = c.1; are = some_eq (a.0 ∷ c.0) ks c.2 }

keys_are : (y : Layout) (body : List ℕ) (place : ℕ → ℕ) (last : List ℕ) (i n : ℕ) (ks : List (List ℕ)) → keys_at y body place last i n ≡ Some ks
    → values (λ j. key_or y body (place j)) i n ≡ ks
keys_are y body place last i zero ks e = some_eq [] ks e
keys_are y body place last i (suc n) ks e =
    let x = next_key y body place last i n ks e in
    let first : key_or y body (place i) ≡ x.q = ap (λ (o : Option (List ℕ)). unwrap_or o []) x.there in
    rw first (ap (λ (xs : List (List ℕ)). x.q ∷ xs) (keys_are y body place x.q (suc i) n x.others x.rest) ∙ x.are)

key_there : (y : Layout) (body : List ℕ) (place : ℕ → ℕ) (last : List ℕ) (i n : ℕ) (ks : List (List ℕ)) (k : ℕ) → keys_at y body place last i n ≡ Some ks
    → k < n → (q : List ℕ) × (key y body (place (i + k)) ≡ Some q) × Below last q
key_there y body place last i zero ks k e h = absurd (omega arith)
key_there y body place last i (suc n) ks zero e h =
    let x = next_key y body place last i n ks e in
    let z : i + 0 ≡ i = omega arith in
    (x.q, rw z x.there, x.above)
key_there y body place last i (suc n) ks (suc k) e h =
    let x = next_key y body place last i n ks e in
    let r = key_there y body place x.q (suc i) n x.others k x.rest (omega arith) in
    let s : i + suc k ≡ suc i + k = omega arith in
    (r.0, rw s r.1, nat_list_cmp_total.trans last x.q r.0 x.above r.2)

keys_rise : (y : Layout) (body : List ℕ) (place : ℕ → ℕ) (last : List ℕ) (i n : ℕ) (ks : List (List ℕ)) (j k : ℕ) → keys_at y body place last i n ≡ Some ks
    → j < k → k < n → Below (key_or y body (place (i + j))) (key_or y body (place (i + k)))
keys_rise y body place last i zero ks j k e g h = absurd (omega arith)
keys_rise y body place last i (suc n) ks j zero e g h = absurd (omega arith)
keys_rise y body place last i (suc n) ks zero (suc k) e g h =
    let x = next_key y body place last i n ks e in
    let r = key_there y body place x.q (suc i) n x.others k x.rest (omega arith) in
    let z : i + 0 ≡ i = omega arith in
    let s : i + suc k ≡ suc i + k = omega arith in
    rw (z, s, x.there, r.1) r.2
keys_rise y body place last i (suc n) ks (suc j) (suc k) e g h =
    let x = next_key y body place last i n ks e in
    let s : i + suc j ≡ suc i + j = omega arith in
    let t : i + suc k ≡ suc i + k = omega arith in
    rw (s, t) (keys_rise y body place x.q (suc i) n x.others j k x.rest (omega arith) (omega arith))

-- ---- tables

members_are : (child : ℕ → Option Resource) (tree : ℕ → Resource) → ((w : ℕ) (t : Resource) → child w ≡ Some t → tree w ≡ t)
    → (item : ℕ → ℕ) (name : ℕ → List ℕ) (i n : ℕ) (es : Members) → members_at child item i (values name i n) ≡ Some es
    → values (λ j. (name j, tree (item j))) i n ≡ pairs es
members_are child tree is item name i zero es e = ap pairs (some_eq no_entries es e)
members_are child tree is item name i (suc n) es e =
    let a = then_some (child (item i)) (λ t. members_at child item (suc i) (values name (suc i) n) >>? λ us. Some (entry_and (name i) t us)) es e in
    let b = then_some (members_at child item (suc i) (values name (suc i) n)) (λ us. Some (entry_and (name i) a.0 us)) es a.2 in
    let first : tree (item i) ≡ a.0 = is (item i) a.0 a.1 in
    rw first (ap (λ (xs : List (List ℕ × Resource)). (name i, a.0) ∷ xs) (members_are child tree is item name (suc i) n b.0 b.1)
    ∙ ap pairs (some_eq (entry_and (name i) a.0 b.0) es b.2))

member_there : (child : ℕ → Option Resource) (item : ℕ → ℕ) (name : ℕ → List ℕ) (i n : ℕ) (es : Members) (k : ℕ)
    → members_at child item i (values name i n) ≡ Some es → k < n → (t : Resource) × (child (item (i + k)) ≡ Some t)
member_there child item name i zero es k e h = absurd (omega arith)
member_there child item name i (suc n) es zero e h =
    let a = then_some (child (item i)) (λ t. members_at child item (suc i) (values name (suc i) n) >>? λ us. Some (entry_and (name i) t us)) es e in
    let z : i + 0 ≡ i = omega arith in
    (a.0, rw z a.1)
member_there child item name i (suc n) es (suc k) e h =
    let a = then_some (child (item i)) (λ t. members_at child item (suc i) (values name (suc i) n) >>? λ us. Some (entry_and (name i) t us)) es e in
    let b = then_some (members_at child item (suc i) (values name (suc i) n)) (λ us. Some (entry_and (name i) a.0 us)) es a.2 in
    let r = member_there child item name (suc i) n b.0 k b.1 (omega arith) in
    let s : i + suc k ≡ suc i + k = omega arith in
    (r.0, rw s r.1)

-- a table that is read: its keys, and its entries
record TableRead (body : List ℕ) (p : TableParts) (es : Members) : Type 0 where
  room : p.first + p.count ≤ (layout_of body).top
  names : List (List ℕ)
  keys : keys_at (layout_of body) body (key_offset body p.keys) [] 0 p.count ≡ Some names
  members : members_at (λ w. tree_at (layout_of body) body 63 w) (λ i. word_at body (p.first + i)) 0
      (values (λ j. key_from body (key_offset body p.keys j)) 0 p.count) ≡ Some es

table_read : (body : List ℕ) (p : TableParts) (es : Members)
    → table_at (layout_of body) body (λ w. tree_at (layout_of body) body 63 w) (key_offset body p.keys) p.first p.count ≡ Some es → TableRead body p es
table_read body p es e =
    let y = layout_of body in
    let a = where_some _ _ es e in
    let b = then_some (keys_at y body (key_offset body p.keys) [] 0 p.count)
    (λ ks. members_at (λ w. tree_at y body 63 w) (λ i. word_at body (p.first + i)) 0 ks) es a.1 in
    record {
      room = leb-true (p.first + p.count) y.top a.0;
      names = b.0;
      keys = b.1;
      members = rw (keys_are y body (key_offset body p.keys) [] 0 p.count b.0 b.1) b.2;
    }

stands_read : (body : List ℕ) (p : TableParts) → TableStands body p → (es : Members) × TableRead body p es
unfolding table_stands
stands_read body p h =
    let r = some_is (table_at (layout_of body) body (λ w. tree_at (layout_of body) body 63 w) (key_offset body p.keys) p.first p.count) h in
    (r.0, table_read body p r.0 r.1)

pub table_room : (body : List ℕ) (p : TableParts) → TableStands body p → p.first + p.count ≤ (layout_of body).top
table_room body p h = (stands_read body p h).1.room

pub table_child : (body : List ℕ) (p : TableParts) (i : ℕ) → TableStands body p → i < p.count → StandsFor body (word_at body (p.first + i))
table_child body p i h l =
    let r = stands_read body p h in
    let c = member_there (λ w. tree_at (layout_of body) body 63 w) (λ j. word_at body (p.first + j))
    (λ j. key_from body (key_offset body p.keys j)) 0 p.count r.0 i r.1.members l in
    let z : 0 + i ≡ i = omega arith in
    (child_stands body (word_at body (p.first + i)) c.0 (rw z at c.1)).0

pub table_key : (body : List ℕ) (p : TableParts) (i : ℕ) → TableStands body p → i < p.count
    → key (layout_of body) body (key_offset body p.keys i) ≡ Some (key_from body (key_offset body p.keys i))
table_key body p i h l =
    let r = stands_read body p h in
    let c = key_there (layout_of body) body (key_offset body p.keys) [] 0 p.count r.1.names i r.1.keys l in
    let z : 0 + i ≡ i = omega arith in
    let there : key (layout_of body) body (key_offset body p.keys i) ≡ Some c.0 = rw z at c.1 in
    there ∙ ap Some (sym (ap (λ (o : Option (List ℕ)). unwrap_or o []) there))

pub table_rises : (body : List ℕ) (p : TableParts) (j k : ℕ) → TableStands body p → j < k → k < p.count
    → Below (key_from body (key_offset body p.keys j)) (key_from body (key_offset body p.keys k))
table_rises body p j k h g l =
    let r = stands_read body p h in
    let sj : 0 + j ≡ j = omega arith in
    let sk : 0 + k ≡ k = omega arith in
    rw (sj, sk) at (keys_rise (layout_of body) body (key_offset body p.keys) [] 0 p.count r.1.names j k r.1.keys g l)

entries_at : (body : List ℕ) (p : TableParts) (t : Resource) (es : Members) → keys_end p.keys p.count ≤ 4 * (p.first + p.count)
    → table_at (layout_of body) body (λ w. tree_at (layout_of body) body 63 w) (key_offset body p.keys) p.first p.count ≡ Some es → table es ≡ t
    → HasEntriesAt body p t
unfolding table_stands
entries_at body p t es h e s =
    let r = table_read body p es e in
    let room = r.room in
    record {
      below = omega arith;
      stand = is_some_from _ es e;
      are = members_are (λ w. tree_at (layout_of body) body 63 w) (item_tree body) (λ w u q. (child_stands body w u q).1) (λ i. word_at body (p.first + i))
          (λ j. key_from body (key_offset body p.keys j)) 0 p.count es r.members ∙ ap parts.pairs_of s;
    }

short_at : (body : List ℕ) (o : ℕ) (t : Resource) → item_at (layout_of body) body (λ w. tree_at (layout_of body) body 63 w) o Table ≡ Some t → 0 < o
    → HasEntriesAt body (table_parts body o) t
short_at body o t e h =
    let y = layout_of body in
    let v = with_data y body (λ w. tree_at y body 63 w) o Table t refl e h in
    let m = map_some table _ t v.1 in
    entries_at body (table_parts body o) t m.0 (omega arith) m.1 m.2

long_at : (body : List ℕ) (o : ℕ) (t : Resource) → item_at (layout_of body) body (λ w. tree_at (layout_of body) body 63 w) o LongTable ≡ Some t → 0 < o
    → HasEntriesAt body (long_table_parts body o) t
long_at body o t e h =
    let y = layout_of body in
    let v = with_data y body (λ w. tree_at y body 63 w) o LongTable t refl e h in
    let m = map_some table _ t v.1 in
    entries_at body (long_table_parts body o) t m.0 (omega arith) m.1 m.2

pub entries_short : (body : List ℕ) (item o : ℕ) → o ≡ offset_of item → StandsFor body item → kind_of item ≡ Some Table → 0 < o
    → (o < (layout_of body).top) × HasEntriesAt body (table_parts body o) (item_tree body item)
entries_short body item o same h e p =
    let v = of_kind body item Table h e in
    let y = layout_of body in
    let at : item_at y body (λ w. tree_at y body 63 w) o Table ≡ Some (item_tree body item) = rw same v.value in
    ((with_data y body (λ w. tree_at y body 63 w) o Table (item_tree body item) refl at p).0, short_at body o (item_tree body item) at p)

pub entries_long : (body : List ℕ) (item o : ℕ) → o ≡ offset_of item → StandsFor body item → kind_of item ≡ Some LongTable → 0 < o
    → (o < (layout_of body).top) × HasEntriesAt body (long_table_parts body o) (item_tree body item)
entries_long body item o same h e p =
    let v = of_kind body item LongTable h e in
    let y = layout_of body in
    let at : item_at y body (λ w. tree_at y body 63 w) o LongTable ≡ Some (item_tree body item) = rw same v.value in
    ((with_data y body (λ w. tree_at y body 63 w) o LongTable (item_tree body item) refl at p).0, long_at body o (item_tree body item) at p)

no_entries_at : (y : Layout) (body : List ℕ) (child : ℕ → Option Resource) (o : ℕ) (k : ItemKind) (t : Resource) → (k ≡ Table) ⊎ (k ≡ LongTable)
    → item_at y body child o k ≡ Some t → o ≡ 0 → [] ≡ parts.pairs_of t
no_entries_at y body child o k t (inl s) e z = ap parts.pairs_of
    (without_data y body child o Table t refl (subst (λ (j : ItemKind). item_at y body child o j ≡ Some t) s e) z)
no_entries_at y body child o k t (inr s) e z = ap parts.pairs_of
    (without_data y body child o LongTable t refl (subst (λ (j : ItemKind). item_at y body child o j ≡ Some t) s e) z)

pub entries_none : (body : List ℕ) (item o : ℕ) → o ≡ offset_of item → StandsFor body item → parts.kind_of (item_tree body item) ≡ named.Table → o ≡ 0
    → HasEntriesAt body (record { keys = Halves 0; first = 0; count = 0 }) (item_tree body item)
unfolding table_stands
entries_none body item o same h e z =
    let v = kind_back body item named.Table h e in
    let y = layout_of body in
    let at : item_at y body (λ w. tree_at y body 63 w) o v.0 ≡ Some (item_tree body item) = rw same v.1.value in
    record {
      below = omega arith;
      stand = is_some_from _ no_entries (where_true _ _ (le-leb 0 y.top (omega arith)));
      are = no_entries_at y body (λ w. tree_at y body 63 w) o v.0 (item_tree body item) (only_table v.0 v.2) at z;
    }

-- an item whose tree is a Table is one of the two kinds of table
pub table_kinds : (body : List ℕ) (item : ℕ) (k : ItemKind) → StandsFor body item → kind_of item ≡ Some k → parts.kind_of (item_tree body item) ≡ named.Table
    → (k ≡ Table) ⊎ (k ≡ LongTable)
table_kinds body item k h e t = only_table k (sym (tree_kind body item k h e) ∙ t)

pub keys_within : (keys : KeyPlaces) (n i : ℕ) → i < n → keys_end keys (i + 1) ≤ keys_end keys n
keys_within (Halves first) n i h = omega arith
keys_within (Words first) n i h = omega arith

-- the offset of a key that is among those of a table is within the data
pub offset_fits : (p : TableParts) (i size : ℕ) → keys_end p.keys p.count ≤ size → i < p.count → keys_end p.keys (i + 1) ≤ size
offset_fits p i size k h = let w = keys_within p.keys p.count i h in omega arith
