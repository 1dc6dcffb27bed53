-- Arrays and tables are after their children.
use Rattle.rb_writer.specs.declared.area.KeyArea.{KeyArea}
use Rattle.std.proofs.Common.{◌≡◌, ℕ, zero, suc, ◌+◌, ◌*◌, ◌/◌, ◌^◌, ◌<◌, ◌≤◌, false, ltb, List}
use Rattle.std.proofs.Common.{[], ◌∷◌, length, get_or, Some, Result, Ok, refl, sym, ◌∙◌, arith, inl, inr}
use Rattle.std.proofs.lemmas.Bool.{le-ltb}
use Rattle.std.proofs.lemmas.List.{length-map}
use Rattle.std.specs.Prelude.{slice_get, All}
use Rattle.std.specs.Ordering.{nat_cmp}
use Rattle.std.specs.declared.cmp.Ordering.TheVariants.{Less}
use Rattle.std.specs.Cmp.Lexicographic.{slice_cmp}
use Rattle.std.specs.List.Sorted.{IsStrictlySortedBy}
use Rattle.std.specs.Map.{keys_of, values_of}
use Rattle.rb_tree.specs.Resource.{Resource, array, table, Resources, no_trees, tree_and, Members, no_entries, entry_and, height, trees_height, entries_height}
use Rattle.rb_tree.specs.Keys.{items, pairs, IsKey, IsTable}
use Rattle.rb_tree.specs.inner.Lower.{item_low, value_low}
use Rattle.rb_tree.specs.View.{view_of}
use Rattle.rb_tree.specs.declared.tree.Tree.{Tree}
use Rattle.rb_tree.specs.declared.tree.Tree.TheVariants as trees
use Rattle.rb_format.specs.declared.fault.FileFault.{FileFault}
use Rattle.rb_format.specs.declared.layout.Layout.{Layout}
use Rattle.rb_format.specs.declared.kind.ItemKind.TheVariants as kinds
use Rattle.rb_format.specs.Place.{word_at, half_at, key}
use Rattle.rb_format.specs.inner.FirstFault as reading
use Rattle.rb_format.specs.inner.FirstFault.{◌>>=◌, result_map, node, contents, read, array_at, table_of, table16_at, table32_at, next_key, keys, members}
use Rattle.rb_format.specs.Item.{kind_of, offset_of}
use Rattle.rb_format.proofs.Levels.{read_raise}
use Rattle.rb_writer.specs.inner.Growth.{Adds, IsDraft, draft, Put}
use Rattle.rb_writer.specs.inner.Most.{data_most, trees_most, members_most}
use Rattle.rb_writer.specs.inner.Standing.{Stands, ChildrenStand, KeysStand, PlacesAre, PutsArray, PutsShort, PutsLong, WritesTable}
use Rattle.rb_writer.specs.declared.keys.KeyOffsets.{KeyOffsets}
use Rattle.rb_writer.proofs.Puts.{adds_trans, word_stays, half_stays}
use Rattle.rb_writer.proofs.Values.{drafted_on}
use Rattle.rb_writer.proofs.Nodes.{keys_stay, stays, array_most, table_most, put_stands}

some_below : {X : Type 0} (xs : List X) (j : ℕ) (u : X) → Some u ≡ slice_get xs j → j < length xs
some_below [] j u e = cc
some_below (x ∷ xs) zero u e = omega arith
some_below (x ∷ xs) (suc j) u e = omega (arith, some_below xs j u e)

-- the trees of an array, from the items of its children
pub trees_from : (child : ℕ → Result Resource FileFault) (item : ℕ → ℕ) (i : ℕ) (ts : Resources)
    → ((j : ℕ) (u : Resource) → Some u ≡ slice_get (items ts) j → child (item (i + j)) ≡ Ok u) → reading.trees child item i (length (items ts)) ≡ Ok ts
unfolding reading.trees
trees_from child item i no_trees h = refl
trees_from child item i (tree_and t ts) h =
    let first : child (item i) ≡ Ok t = (let same : i + 0 ≡ i = omega arith in rw same at (h 0 t refl)) in
    let rest : reading.trees child item (suc i) (length (items ts)) ≡ Ok ts = trees_from child item (suc i) ts
    (λ j u e. let same : suc i + j ≡ i + suc j = omega arith in rw same (h (suc j) u e)) in
    rw (first, rest) refl

pub members_from : (child : ℕ → Result Resource FileFault) (item : ℕ → ℕ) (i : ℕ) (es : Members)
    → ((j : ℕ) (u : Resource) → Some u ≡ slice_get (values_of (pairs es)) j → child (item (i + j)) ≡ Ok u) → members child item i (keys_of (pairs es)) ≡ Ok es
unfolding members
members_from child item i no_entries h = refl
members_from child item i (entry_and k t es) h =
    let first : child (item i) ≡ Ok t = (let same : i + 0 ≡ i = omega arith in rw same at (h 0 t refl)) in
    let rest : members child item (suc i) (keys_of (pairs es)) ≡ Ok es = members_from child item (suc i) es
    (λ j u e. let same : suc i + j ≡ i + suc j = omega arith in rw same (h (suc j) u e)) in
    rw (first, rest) refl

-- each key is above the one before
abbrev pub Ascends : List ℕ → List (List ℕ) → Type 0
Ascends last [] = Unit {0}
Ascends last (k ∷ ks) = (slice_cmp nat_cmp last k ≡ Less) × Ascends k ks

ascends_from : (last : List ℕ) (ks : List (List ℕ)) → IsStrictlySortedBy (slice_cmp nat_cmp) (last ∷ ks) → Ascends last ks
unfolding IsStrictlySortedBy
ascends_from last [] h = tt
ascends_from last (k ∷ ks) h = (h.0.0, ascends_from k ks h.1)

empty_first : (k : List ℕ) → 0 < length k → slice_cmp nat_cmp [] k ≡ Less
empty_first [] h = absurd (omega arith)
empty_first (x ∷ k) h = refl

first_key : (k : List ℕ) (ks : List (List ℕ)) → All IsKey (k ∷ ks) → 0 < length k
first_key k ks h = (h 0 k (omega arith)).0

pub table_ascends : (ks : List (List ℕ)) → All IsKey ks → IsStrictlySortedBy (slice_cmp nat_cmp) ks → Ascends [] ks
table_ascends [] a h = tt
table_ascends (k ∷ ks) a h = (empty_first k (first_key k ks a), ascends_from k ks h)

pub keys_from : (y : Layout) (body : List ℕ) (where_is : ℕ → ℕ) (last : List ℕ) (i : ℕ) (ks : List (List ℕ)) → Ascends last ks
    → ((j : ℕ) (k : List ℕ) → Some k ≡ slice_get ks j → key y body (where_is (i + j)) ≡ Some k) → keys y body where_is last i (length ks) ≡ Ok ks
unfolding keys next_key
keys_from y body where_is last i [] a h = refl
keys_from y body where_is last i (k ∷ ks) a h =
    let first : key y body (where_is i) ≡ Some k = (let same : i + 0 ≡ i = omega arith in rw same at (h 0 k refl)) in
    let rest : keys y body where_is k (suc i) (length ks) ≡ Ok ks = keys_from y body where_is k (suc i) ks a.1
    (λ j q e. let same : suc i + j ≡ i + suc j = omega arith in rw same (h (suc j) q e)) in
    rw (first, a.0, rest) refl

pub table_from : (y : Layout) (body : List ℕ) (child : ℕ → Result Resource FileFault) (where_is : ℕ → ℕ) (from n : ℕ) (es : Members) → n ≡ length (pairs es)
    → from + n ≤ y.top → IsTable es
    → ((j : ℕ) (k : List ℕ) → Some k ≡ slice_get (keys_of (pairs es)) j → key y body (where_is j) ≡ Some k)
    → ((j : ℕ) (u : Resource) → Some u ≡ slice_get (values_of (pairs es)) j → child (word_at body (from + j)) ≡ Ok u)
    → table_of y body child where_is from n ≡ Ok es
unfolding table_of
table_from y body child where_is from n es e fits t h g =
    let test : ltb y.top (from + n) ≡ false = le-ltb _ _ fits in
    let len : n ≡ length (keys_of (pairs es)) = e ∙ sym (length-map (pairs es) (λ p. p.0)) in
    let ks : keys y body where_is [] 0 n ≡ Ok (keys_of (pairs es)) = rw len
    (keys_from y body where_is [] 0 (keys_of (pairs es)) (table_ascends (keys_of (pairs es)) t.keys_ok t.ascend)
    (λ j k q. let z : 0 + j ≡ j = omega arith in rw z (h j k q))) in
    rw (test, ks) (members_from child (λ i. word_at body (from + i)) 0 es (λ j u q. let z : 0 + j ≡ j = omega arith in rw z (g j u q)))

-- ---- arrays

array_contents : (y : Layout) (body : List ℕ) (child : ℕ → Result Resource FileFault) (o : ℕ)
    → contents y body child o kinds.Array ≡ result_map array (array_at y body child o)
unfolding contents
array_contents y body child o = refl

short_contents : (y : Layout) (body : List ℕ) (child : ℕ → Result Resource FileFault) (o : ℕ)
    → contents y body child o kinds.Table ≡ result_map table (table16_at y body child o)
unfolding contents
short_contents y body child o = refl

long_contents : (y : Layout) (body : List ℕ) (child : ℕ → Result Resource FileFault) (o : ℕ)
    → contents y body child o kinds.LongTable ≡ result_map table (table32_at y body child o)
unfolding contents
long_contents y body child o = refl

-- a child that was written is in what grew from it, at each level that is enough
child_later : (area : KeyArea) (old mid new : List ℕ) (cs : List Resource) (is : List ℕ) (n d j : ℕ) (u : Resource) → ChildrenStand area old mid cs is n
    → Adds mid new → n ≡ length cs → Some u ≡ slice_get cs j → height u ≤ d → read (draft area new) new d (get_or is j 0) ≡ Ok u
child_later area old mid new cs is n d j u s a e f low =
    let below = some_below cs j u f in
    read_raise (draft area new) new (height u) d (get_or is j 0) u
    (stays area mid new (height u) (get_or is j 0) u s.drafted a (s.reads j u (omega arith) f)) low

array_put : (area : KeyArea) (old mid new : List ℕ) (is : List ℕ) (n o : ℕ) (ts : Resources) → ChildrenStand area old mid (items ts) is n
    → n ≡ length (items ts) → PutsArray mid new is o → o < 2 ^ 28
    → Put area old new (4 + trees_most ts) (λ y b p. array_at y b (λ w. read (draft area new) new (trees_height ts) w) p) ts no_trees o
unfolding array_at
array_put area old mid new is n o ts s e p small =
    let l = s.little in let m = array_most ts in let c = s.count in let w = s.drafted.whole in let hi = s.drafted.high in
    let pl = p.count.len in let ql = p.children.len in let at = p.stands in
    let start : length mid ≡ 4 * o = omega arith in
    let len : length is ≡ length (items ts) = c ∙ e in
    let count : word_at new o ≡ length (items ts) = word_stays p.a new o p.children.adds (omega arith) ∙ p.count.word_is o start ∙ len in
    let on = adds_trans mid p.a new p.count.adds p.children.adds in
    let room : ltb (length new / 4) (o + 1 + length (items ts)) ≡ false = le-ltb _ _ (omega arith) in
    let all : reading.trees (λ w. read (draft area new) new (trees_height ts) w) (λ i. word_at new (o + 1 + i)) 0
    (length (items ts)) ≡ Ok ts = trees_from _ _ 0 ts (λ j u f.
    let below = some_below (items ts) j u f in
    let word : word_at new (o + 1 + j) ≡ get_or is j 0 = p.children.words_are (o + 1) j (omega arith) (omega arith) in
    let z : 0 + j ≡ j = omega arith in
    rw (z, word) (child_later area old mid new (items ts) is n (trees_height ts) j u s on e f (item_low ts j u f))) in
    record {
      adds = adds_trans old mid new s.adds on;
      drafted = drafted_on area mid new s.drafted (omega arith) (omega arith);
      little = omega arith;
      small = small;
      stands = inr (omega arith, omega arith, rw (count, room) all);
    }

pub array_stands : (area : KeyArea) (old mid new : List ℕ) (is : List ℕ) (n o item : ℕ) (ts : Resources) (t : Tree) → t ≡ trees.Array ts
    → ChildrenStand area old mid (items ts) is n → n ≡ length (items ts) → PutsArray mid new is o → o < 2 ^ 28 → kind_of item ≡ Some kinds.Array
    → offset_of item ≡ o → Stands area old new (view_of t) item
array_stands area old mid new is n o item ts t eq s e p small ki oi = rw eq (put_stands area old new _ (trees_height ts) _ ts no_trees o item kinds.Array array
    (array_put area old mid new is n o ts s e p small) ki oi (λ q. refl) (array_contents _ _ _ o) refl refl refl)

-- without children nothing is put after them
none_put : {A : Type 0} (area : KeyArea) (old mid : List ℕ) (cs : List Resource) (is : List ℕ) (n most : ℕ)
    (reads : Layout → List ℕ → ℕ → Result A FileFault) (x none : A) → ChildrenStand area old mid cs is n → length mid ≤ length old + most → x ≡ none
    → Put area old mid most reads x none 0
none_put area old mid cs is n most reads x none s little same = record {
  adds = s.adds;
  drafted = s.drafted;
  little = little;
  small = omega arith;
  stands = inl (refl, same);
}

no_items : (ts : Resources) → length (items ts) ≡ 0 → ts ≡ no_trees
no_items no_trees e = refl
no_items (tree_and t ts) e = absurd (omega arith)

no_pairs : (es : Members) → length (pairs es) ≡ 0 → es ≡ no_entries
no_pairs no_entries e = refl
no_pairs (entry_and k t es) e = absurd (omega arith)

-- an array without children
pub empty_array_stands : (area : KeyArea) (old mid : List ℕ) (is : List ℕ) (n item : ℕ) (ts : Resources) (t : Tree) → t ≡ trees.Array ts
    → ChildrenStand area old mid (items ts) is n → n ≡ length (items ts) → length is ≡ 0 → kind_of item ≡ Some kinds.Array → offset_of item ≡ 0
    → Stands area old mid (view_of t) item
empty_array_stands area old mid is n item ts t eq s e none ki oi =
    let l = s.little in let c = s.count in let m = array_most ts in
    rw eq (put_stands area old mid (4 + trees_most ts) (trees_height ts) _ ts no_trees 0 item kinds.Array array
    (none_put area old mid (items ts) is n _ (λ y b p. array_at y b (λ w. read (draft area mid) mid (trees_height ts) w) p) ts no_trees s (omega arith)
    (no_items ts (omega arith))) ki oi (λ q. refl) (array_contents _ _ _ 0) refl refl refl)

-- ---- tables

short_put : (ps : KeyOffsets) (area : KeyArea) (old mid new is offsets : List ℕ) (n o : ℕ) (es : Members)
    → ChildrenStand area old mid (values_of (pairs es)) is n → n ≡ length (pairs es) → IsDraft area old → KeysStand area old ps
    → PlacesAre ps (keys_of (pairs es)) offsets (length (pairs es)) → IsTable es → PutsShort mid new offsets is o → o < 2 ^ 28
    → Put area old new (4 + members_most es) (λ y b p. table16_at y b (λ w. read (draft area new) new (entries_height es) w) p) es no_entries o
unfolding table16_at
short_put ps area old mid new is offsets n o es s e d ks at t p small =
    let l = s.little in let m = table_most es in let c = s.count in let w = s.drafted.whole in let hi = s.drafted.high in
    let pl = p.count.len in let ql = p.keys.len in let rl = p.adds.longer in let ne = p.near in let wh = p.whole in let cl = p.children.len in let st =
    p.stands in
    let vl : length (values_of (pairs es)) ≡ length (pairs es) = length-map (pairs es) (λ q. q.1) in
    let kl : length (keys_of (pairs es)) ≡ length (pairs es) = length-map (pairs es) (λ q. q.0) in
    let start : length mid ≡ 4 * o = omega arith in
    let len : length is ≡ length (pairs es) = c ∙ e in
    let on_c = p.children.adds in
    let on_b = adds_trans p.b p.c new p.adds on_c in
    let on_a = adds_trans p.a p.b new p.keys.adds on_b in
    let on = adds_trans mid p.a new p.count.adds on_a in
    let count : half_at new (2 * o) ≡ length (pairs es) = half_stays p.a new (2 * o) on_a (omega arith) ∙ p.count.half_is (2 * o) (omega arith) ∙ len in
    let items_at : length p.c ≡ 4 * (o + (length (pairs es) + 2) / 2) = omega arith in
    let all : table_of (draft area new) new (λ w. read (draft area new) new (entries_height es) w) (λ i. half_at new (2 * o + 1 + i))
    (o + (length (pairs es) + 2) / 2) (length (pairs es)) ≡ Ok es =
    table_from (draft area new) new _ _ _ (length (pairs es)) es refl (omega arith) t
    (λ j k f.
    let below = some_below (keys_of (pairs es)) j k f in
    let half : half_at new (2 * o + 1 + j) ≡ get_or offsets j 0 = half_stays p.b new (2 * o + 1 + j) on_b (omega arith)
    ∙ p.keys.halves_are (2 * o + 1) j (omega arith) (omega arith) in
    rw half (keys_stay area old new ps d (adds_trans old mid new s.adds on) ks k (get_or offsets j 0) (at.are j k (omega arith) f)))
    (λ j u f.
    let below = some_below (values_of (pairs es)) j u f in
    let word : word_at new (o + (length (pairs es) + 2) / 2 + j) ≡ get_or is j 0 = p.children.words_are (o + (length (pairs es) + 2) / 2) j items_at
    (omega arith) in
    rw word (child_later area old mid new (values_of (pairs es)) is n (entries_height es) j u s on (omega arith) f (value_low es j u f))) in
    record {
      adds = adds_trans old mid new s.adds on;
      drafted = drafted_on area mid new s.drafted (omega arith) (omega arith);
      little = omega arith;
      small = small;
      stands = inr (omega arith, omega arith, rw count all);
    }

long_put : (ps : KeyOffsets) (area : KeyArea) (old mid new is offsets : List ℕ) (n o : ℕ) (es : Members)
    → ChildrenStand area old mid (values_of (pairs es)) is n → n ≡ length (pairs es) → IsDraft area old → KeysStand area old ps
    → PlacesAre ps (keys_of (pairs es)) offsets (length (pairs es)) → IsTable es → PutsLong mid new offsets is o → o < 2 ^ 28
    → Put area old new (4 + members_most es) (λ y b p. table32_at y b (λ w. read (draft area new) new (entries_height es) w) p) es no_entries o
unfolding table32_at
long_put ps area old mid new is offsets n o es s e d ks at t p small =
    let l = s.little in let m = table_most es in let c = s.count in let w = s.drafted.whole in let hi = s.drafted.high in
    let pl = p.count.len in let ql = p.keys.len in let cl = p.children.len in let st = p.stands in
    let vl : length (values_of (pairs es)) ≡ length (pairs es) = length-map (pairs es) (λ q. q.1) in
    let kl : length (keys_of (pairs es)) ≡ length (pairs es) = length-map (pairs es) (λ q. q.0) in
    let start : length mid ≡ 4 * o = omega arith in
    let len : length is ≡ length (pairs es) = c ∙ e in
    let on_b = p.children.adds in
    let on_a = adds_trans p.a p.b new p.keys.adds on_b in
    let on = adds_trans mid p.a new p.count.adds on_a in
    let count : word_at new o ≡ length (pairs es) = word_stays p.a new o on_a (omega arith) ∙ p.count.word_is o start ∙ len in
    let all : table_of (draft area new) new (λ w. read (draft area new) new (entries_height es) w) (λ i. word_at new (o + 1 + i)) (o + 1 + length (pairs es))
    (length (pairs es)) ≡ Ok es =
    table_from (draft area new) new _ _ _ (length (pairs es)) es refl (omega arith) t
    (λ j k f.
    let below = some_below (keys_of (pairs es)) j k f in
    let half : word_at new (o + 1 + j) ≡ get_or offsets j 0 = word_stays p.b new (o + 1 + j) on_b (omega arith)
    ∙ p.keys.words_are (o + 1) j (omega arith) (omega arith) in
    rw half (keys_stay area old new ps d (adds_trans old mid new s.adds on) ks k (get_or offsets j 0) (at.are j k (omega arith) f)))
    (λ j u f.
    let below = some_below (values_of (pairs es)) j u f in
    let word : word_at new (o + 1 + length (pairs es) + j) ≡ get_or is j 0 = p.children.words_are (o + 1 + length (pairs es)) j (omega arith) (omega arith) in
    rw word (child_later area old mid new (values_of (pairs es)) is n (entries_height es) j u s on (omega arith) f (value_low es j u f))) in
    record {
      adds = adds_trans old mid new s.adds on;
      drafted = drafted_on area mid new s.drafted (omega arith) (omega arith);
      little = omega arith;
      small = small;
      stands = inr (omega arith, omega arith, rw count all);
    }

pub table_stands : (ps : KeyOffsets) (area : KeyArea) (old mid new is : List ℕ) (n item : ℕ) (es : Members) (t : Tree) → t ≡ trees.Table es
    → ChildrenStand area old mid (values_of (pairs es)) is n → n ≡ length (pairs es) → IsDraft area old → KeysStand area old ps
    → WritesTable ps es mid new is item → Stands area old new (view_of t) item
table_stands ps area old mid new is n item es t eq s e d ks w =
    rw eq (elim w.written [
      | inl p ↦ put_stands area old new _ (entries_height es) _ es no_entries (offset_of item) item kinds.Table table
          (short_put ps area old mid new is w.offsets n (offset_of item) es s e d ks w.places w.ordered p.puts w.small) p.kind_is refl (λ q. refl)
          (short_contents _ _ _ _) refl refl refl
      | inr p ↦ put_stands area old new _ (entries_height es) _ es no_entries (offset_of item) item kinds.LongTable table
          (long_put ps area old mid new is w.offsets n (offset_of item) es s e d ks w.places w.ordered p.puts w.small) p.kind_is refl (λ q. refl)
          (long_contents _ _ _ _) refl refl refl
    ])

pub empty_table_stands : (area : KeyArea) (old mid : List ℕ) (is : List ℕ) (n item : ℕ) (es : Members) (t : Tree) → t ≡ trees.Table es
    → ChildrenStand area old mid (values_of (pairs es)) is n → n ≡ length (pairs es) → length is ≡ 0 → kind_of item ≡ Some kinds.Table → offset_of item ≡ 0
    → Stands area old mid (view_of t) item
empty_table_stands area old mid is n item es t eq s e none ki oi =
    let l = s.little in let c = s.count in let m = table_most es in
    rw eq (put_stands area old mid (4 + members_most es) (entries_height es) _ es no_entries 0 item kinds.Table table
    (none_put area old mid (values_of (pairs es)) is n _ (λ y b p. table16_at y b (λ w. read (draft area mid) mid (entries_height es) w) p) es no_entries s
    (omega arith) (no_pairs es (omega arith))) ki oi (λ q. refl) (short_contents _ _ _ 0)
    refl refl refl)

-- ---- room after the children

pub array_room : (area : KeyArea) (old mid : List ℕ) (is : List ℕ) (n most : ℕ) (ts : Resources) (t : Tree) → t ≡ trees.Array ts
    → ChildrenStand area old mid (items ts) is n → n ≡ length (items ts) → length old + data_most (view_of t) ≤ most → length mid + (4 + 4 * length is) ≤ most
array_room area old mid is n most ts t eq s e h =
    let l = s.little in let c = s.count in let m = array_most ts in
    let g : length old + data_most (view_of (trees.Array ts)) ≤ most = rw eq at h in
    omega arith

pub table_room : (area : KeyArea) (old mid : List ℕ) (is : List ℕ) (n most : ℕ) (es : Members) (t : Tree) → t ≡ trees.Table es
    → ChildrenStand area old mid (values_of (pairs es)) is n → n ≡ length (pairs es) → length old + data_most (view_of t) ≤ most
    → length mid + (4 + 8 * length is) ≤ most
table_room area old mid is n most es t eq s e h =
    let l = s.little in let c = s.count in let m = table_most es in
    let g : length old + data_most (view_of (trees.Table es)) ≤ most = rw eq at h in
    omega arith
