-- An item that stands for a tree stands for it in every file that keeps these bytes and has more.
use Rattle.std.proofs.Common.{◌≡◌, ℕ, zero, suc, ◌+◌, ◌-◌, ◌*◌, ◌/◌, ◌<◌, ◌≤◌, Bool, true, false, cond, ltb, List, [], ◌∷◌, length}
use Rattle.std.proofs.Common.{take, drop, get_or, map, Result, Ok, Err, Option, None, refl, sym, ap, ◌∙◌, arith, inl, inr}
use Rattle.std.proofs.lemmas.Bool.{ltb-false, ltb-true, le-ltb, lt-ltb}
use Rattle.std.proofs.lemmas.List.{get_or-drop}
use Rattle.std.proofs.lemmas.List.{get_or-take, length-take, length-drop, ext_get_or}
use Rattle.std.specs.Int.{cast_signed, w32}
use Rattle.std.specs.Ordering.{is_lt, nat_cmp}
use Rattle.std.specs.Cmp.Lexicographic.{slice_cmp}
use Rattle.rb_format.specs.declared.fault.FileFault.{FileFault}
use Rattle.rb_format.specs.declared.fault.FileFault.TheVariants.{Length, KeyOrder}
use Rattle.rb_format.specs.declared.layout.Layout.{Layout}
use Rattle.rb_format.proofs.Growing.{Grows}
use Rattle.rb_tree.specs.Resource.{Resource, string, binary, table, alias, array, ints, Resources, tree_and, Members, entry_and}
use Rattle.rb_format.specs.Place.{word_at, half_at, values, key, key_front}
use Rattle.rb_format.specs.inner.FirstFault.{◌>>=◌, result_map, trees, node, read, within, contents, value, kind_or_fault, units}
use Rattle.rb_format.specs.inner.FirstFault.{bytes, numbers, array_at, table_of, table16_at, table32_at, next_key, keys, members, key_or_fault}
use Rattle.rb_format.specs.Item.{has_data, kind_of, offset_of}
use Rattle.rb_format.specs.declared.kind.ItemKind.{ItemKind}
use Rattle.rb_format.specs.declared.kind.ItemKind.TheVariants.{String, Binary, Table, Alias, LongTable, Int, Array, Ints}
use Rattle.rb_format.proofs.Steps.{bind_ok, map_ok, then_ok, guard}
use Rattle.rb_format.proofs.Faults.{keys_count}
use Rattle.rb_format.proofs.Cases.{value_cases, within_there, within_absent, within_data}

word_same : (y y' : Layout) (body body' : List ℕ) (g : Grows y body y' body') (i : ℕ) → y.keys_top ≤ i → i < y.top → word_at body' i ≡ word_at body i
unfolding word_at
word_same y y' body body' g i p q =
    let low = g.low in
    let byte : (j : ℕ) → j < 4 → get_or (drop (4 * i) body') j 0 ≡ get_or (drop (4 * i) body) j 0 = λ j h. get_or-drop (4 * i) body' j 0
    ∙ g.same (4 * i + j) (omega arith) (omega arith) ∙ sym (get_or-drop (4 * i) body j 0) in
    rw (byte 0 (omega arith), byte 1 (omega arith), byte 2 (omega arith), byte 3 (omega arith)) refl

half_same : (y y' : Layout) (body body' : List ℕ) (g : Grows y body y' body') (i : ℕ) → 2 * y.keys_top ≤ i → i < 2 * y.top → half_at body' i ≡ half_at body i
unfolding half_at
half_same y y' body body' g i p q =
    let low = g.low in
    let byte : (j : ℕ) → j < 2 → get_or (drop (2 * i) body') j 0 ≡ get_or (drop (2 * i) body) j 0 = λ j h. get_or-drop (2 * i) body' j 0
    ∙ g.same (2 * i + j) (omega arith) (omega arith) ∙ sym (get_or-drop (2 * i) body j 0) in
    rw (byte 0 (omega arith), byte 1 (omega arith)) refl

values_same : {X : Type 0} (f f' : ℕ → X) (i n : ℕ) → ((j : ℕ) → i ≤ j → j < i + n → f' j ≡ f j) → values f' i n ≡ values f i n
values_same f f' i zero h = refl
values_same f f' i (suc n) h = rw (h i (omega arith) (omega arith), values_same f f' (suc i) n (λ j p q. h j (omega arith) (omega arith))) refl

part_same : (y y' : Layout) (body body' : List ℕ) (g : Grows y body y' body') (k n : ℕ) → 4 * (1 + y.indexes) ≤ k → k + n ≤ 4 * y.top
    → take n (drop k body') ≡ take n (drop k body)
part_same y y' body body' g k n p q =
    let room = g.room in let room' = g.room' in
    let len : length (take n (drop k body')) ≡ length (take n (drop k body)) = omega
    (arith, length-take n (drop k body'), length-take n (drop k body), length-drop k body, length-drop k body') in
    ext_get_or 0 _ _ len (λ j h.
    let below : j < n = omega (arith, length-take n (drop k body')) in
    get_or-take n (drop k body') j 0 below ∙ get_or-drop k body' j 0 ∙ g.same (k + j) (omega arith) (omega arith) ∙ sym (get_or-drop k body j 0)
    ∙ sym (get_or-take n (drop k body) j 0 below))

then_same : {A B : Type 0} (r : Result A FileFault) (f f' : A → Result B FileFault) → ((x : A) → f' x ≡ f x) → (r >>= f') ≡ (r >>= f)
then_same (Ok x) f f' h = h x
then_same (Err d) f f' h = refl

either : {A : Type 0} (b : Bool) (x x' z z' : A) → (b ≡ true → x' ≡ x) → (b ≡ false → z' ≡ z) → cond b x' z' ≡ cond b x z
either true x x' z z' p q = p refl
either false x x' z z' p q = q refl

pub key_same : (y y' : Layout) (body body' : List ℕ) (g : Grows y body y' body') (k : ℕ) → key y' body' k ≡ key y body k
unfolding key
key_same y y' body body' g k =
    let high = g.high in
    rw (g.indexes, g.keys_top) (either (ltb k (4 * (1 + y.indexes))) None None _ _ (λ t. refl) (λ f.
    either (ltb k (4 * y.keys_top)) _ _ None None (λ t.
    let low : 4 * (1 + y.indexes) ≤ k = ltb-false _ _ f in
    let below : k < 4 * y.keys_top = ltb-true _ _ t in
    ap key_front (part_same y y' body body' g k (4 * y.keys_top - k) low (omega arith))) (λ u. refl)))

next_key_same : (y y' : Layout) (body body' : List ℕ) (g : Grows y body y' body') (last : List ℕ) (k : ℕ) → next_key y' body' last k ≡ next_key y body last k
unfolding next_key
next_key_same y y' body body' g last k = ap (λ (o : Option (List ℕ)). key_or_fault o >>= λ k. cond (is_lt (slice_cmp nat_cmp last k)) (Ok k) (Err KeyOrder))
    (key_same y y' body body' g k)

pub keys_same : (y y' : Layout) (body body' : List ℕ) (g : Grows y body y' body') (place place' : ℕ → ℕ) (last : List ℕ) (i n : ℕ)
    → ((j : ℕ) → i ≤ j → j < i + n → place' j ≡ place j) → keys y' body' place' last i n ≡ keys y body place last i n
unfolding keys
keys_same y y' body body' g place place' last i zero h = refl
keys_same y y' body body' g place place' last i (suc n) h =
    let first : next_key y' body' last (place' i) ≡ next_key y body last (place i) = rw (h i (omega arith) (omega arith))
    (next_key_same y y' body body' g last (place i)) in
    ap (λ (r : Result (List ℕ) FileFault). r >>= λ k. keys y' body' place' k (suc i) n >>= λ ks. Ok (k ∷ ks)) first
    ∙ then_same (next_key y body last (place i)) _ _
    (λ k. ap (λ (r : Result (List (List ℕ)) FileFault). r >>= λ ks. Ok (k ∷ ks))
    (keys_same y y' body body' g place place' k (suc i) n (λ j p q. h j (omega arith) (omega arith))))

units_grow : (y y' : Layout) (body body' : List ℕ) (g : Grows y body y' body') (o : ℕ) (us : List ℕ) → y.keys_top ≤ o → o < y.top → units y body o ≡ Ok us
    → units y' body' o ≡ Ok us
unfolding units
units_grow y y' body body' g o us p q e =
    let n = word_at body o in
    let a = guard (ltb (4 * y.top) (4 * o + 6 + 2 * n)) Length _ us e in
    let fits : 4 * o + 6 + 2 * n ≤ 4 * y.top = ltb-false _ _ a.0 in
    let top = g.top in
    let test : ltb (4 * y'.top) (4 * o + 6 + 2 * n) ≡ false = le-ltb _ _ (omega arith) in
    let zero_same : half_at body' (2 * o + 2 + n) ≡ half_at body (2 * o + 2 + n) = half_same y y' body body' g _ (omega arith) (omega arith) in
    let list_same : values (half_at body') (2 * o + 2) n ≡ values (half_at body) (2 * o + 2) n = values_same (half_at body) (half_at body') (2 * o + 2) n
    (λ j r s. half_same y y' body body' g j (omega arith) (omega arith)) in
    rw (word_same y y' body body' g o p q, test, zero_same, list_same) a.1

numbers_grow : (y y' : Layout) (body body' : List ℕ) (g : Grows y body y' body') (o : ℕ) (ns : List ℕ) → y.keys_top ≤ o → o < y.top → numbers y body o ≡ Ok ns
    → numbers y' body' o ≡ Ok ns
unfolding numbers
numbers_grow y y' body body' g o ns p q e =
    let n = word_at body o in
    let a = guard (ltb y.top (o + 1 + n)) Length _ ns e in
    let fits : o + 1 + n ≤ y.top = ltb-false _ _ a.0 in
    let top = g.top in
    let test : ltb y'.top (o + 1 + n) ≡ false = le-ltb _ _ (omega arith) in
    let list_same : values (word_at body') (o + 1) n ≡ values (word_at body) (o + 1) n = values_same (word_at body) (word_at body') (o + 1) n
    (λ j r s. word_same y y' body body' g j (omega arith) (omega arith)) in
    rw (word_same y y' body body' g o p q, test, list_same) a.1

bytes_grow : (y y' : Layout) (body body' : List ℕ) (g : Grows y body y' body') (o : ℕ) (bs : List ℕ) → y.keys_top ≤ o → o < y.top → bytes y body o ≡ Ok bs
    → bytes y' body' o ≡ Ok bs
unfolding bytes
bytes_grow y y' body body' g o bs p q e =
    let n = word_at body o in
    let a = guard (ltb (4 * y.top) (4 * o + 4 + n)) Length _ bs e in
    let fits : 4 * o + 4 + n ≤ 4 * y.top = ltb-false _ _ a.0 in
    let top = g.top in let low = g.low in
    let test : ltb (4 * y'.top) (4 * o + 4 + n) ≡ false = le-ltb _ _ (omega arith) in
    rw (word_same y y' body body' g o p q, test, part_same y y' body body' g (4 * o + 4) n (omega arith) (omega arith)) a.1

-- child' gives what child gives
abbrev pub IsKept : (ℕ → Result Resource FileFault) → (ℕ → Result Resource FileFault) → Type 0
IsKept child child' = (w : ℕ) (s : Resource) → child w ≡ Ok s → child' w ≡ Ok s

trees_grow : (child child' : ℕ → Result Resource FileFault) → IsKept child child' → (item item' : ℕ → ℕ) (i n : ℕ) (ts : Resources)
    → ((j : ℕ) → i ≤ j → j < i + n → item' j ≡ item j) → trees child item i n ≡ Ok ts → trees child' item' i n ≡ Ok ts
unfolding trees
trees_grow child child' keep item item' i zero ts same e = e
trees_grow child child' keep item item' i (suc n) ts same e =
    let a = bind_ok (child (item i)) (λ t. trees child item (suc i) n >>= λ us. Ok (tree_and t us)) ts e in
    let b = bind_ok (trees child item (suc i) n) (λ us. Ok (tree_and a.0 us)) ts a.2 in
    let first : child' (item' i) ≡ Ok a.0 = rw (same i (omega arith) (omega arith)) (keep (item i) a.0 a.1) in
    let rest = trees_grow child child' keep item item' (suc i) n b.0 (λ j p q. same j (omega arith) (omega arith)) b.1 in
    rw (first, rest) b.2

members_grow : (child child' : ℕ → Result Resource FileFault) → IsKept child child' → (item item' : ℕ → ℕ) (i : ℕ) (ks : List (List ℕ)) (es : Members)
    → ((j : ℕ) → i ≤ j → j < i + length ks → item' j ≡ item j) → members child item i ks ≡ Ok es → members child' item' i ks ≡ Ok es
unfolding members
members_grow child child' keep item item' i [] es same e = e
members_grow child child' keep item item' i (k ∷ ks) es same e =
    let a = bind_ok (child (item i)) (λ t. members child item (suc i) ks >>= λ us. Ok (entry_and k t us)) es e in
    let b = bind_ok (members child item (suc i) ks) (λ us. Ok (entry_and k a.0 us)) es a.2 in
    let first : child' (item' i) ≡ Ok a.0 = rw (same i (omega arith) (omega arith)) (keep (item i) a.0 a.1) in
    let rest = members_grow child child' keep item item' (suc i) ks b.0 (λ j p q. same j (omega arith) (omega arith)) b.1 in
    rw (first, rest) b.2

array_grow : (y y' : Layout) (body body' : List ℕ) (g : Grows y body y' body') (child child' : ℕ → Result Resource FileFault) → IsKept child child'
    → (o : ℕ) (ts : Resources) → y.keys_top ≤ o → o < y.top → array_at y body child o ≡ Ok ts → array_at y' body' child' o ≡ Ok ts
unfolding array_at
array_grow y y' body body' g child child' keep o ts p q e =
    let n = word_at body o in
    let a = guard (ltb y.top (o + 1 + n)) Length _ ts e in
    let fits : o + 1 + n ≤ y.top = ltb-false _ _ a.0 in
    let top = g.top in
    let test : ltb y'.top (o + 1 + n) ≡ false = le-ltb _ _ (omega arith) in
    rw (word_same y y' body body' g o p q, test)
    (trees_grow child child' keep _ _ 0 n ts (λ j r s. word_same y y' body body' g (o + 1 + j) (omega arith) (omega arith)) a.1)

table_grow : (y y' : Layout) (body body' : List ℕ) (g : Grows y body y' body') (child child' : ℕ → Result Resource FileFault) → IsKept child child'
    → (place place' : ℕ → ℕ) (from n : ℕ) (es : Members) → y.keys_top ≤ from → (from + n ≤ y.top → (j : ℕ) → j < n → place' j ≡ place j)
    → table_of y body child place from n ≡ Ok es → table_of y' body' child' place' from n ≡ Ok es
unfolding table_of
table_grow y y' body body' g child child' keep place place' from n es p same e =
    let a = guard (ltb y.top (from + n)) Length _ es e in
    let fits : from + n ≤ y.top = ltb-false _ _ a.0 in
    let top = g.top in
    let test : ltb y'.top (from + n) ≡ false = le-ltb _ _ (omega arith) in
    let b = bind_ok (keys y body place [] 0 n) (λ ks. members child (λ i. word_at body (from + i)) 0 ks) es a.1 in
    let again : keys y' body' place' [] 0 n ≡ Ok b.0 = keys_same y y' body body' g place place' [] 0 n (λ j r s. same fits j (omega arith)) ∙ b.1 in
    let count = keys_count y body place [] 0 n b.0 b.1 in
    rw (test, again) (members_grow child child' keep _ _ 0 b.0 es (λ j r s. word_same y y' body body' g (from + j) (omega arith) (omega arith)) b.2)

table16_grow : (y y' : Layout) (body body' : List ℕ) (g : Grows y body y' body') (child child' : ℕ → Result Resource FileFault) → IsKept child child'
    → (o : ℕ) (es : Members) → y.keys_top ≤ o → o < y.top → table16_at y body child o ≡ Ok es → table16_at y' body' child' o ≡ Ok es
unfolding table16_at
table16_grow y y' body body' g child child' keep o es p q e =
    let n = half_at body (2 * o) in
    let same : half_at body' (2 * o) ≡ n = half_same y y' body body' g (2 * o) (omega arith) (omega arith) in
    rw same (table_grow y y' body body' g child child' keep _ _ (o + (n + 2) / 2) n es (omega arith)
    (λ fits j h. half_same y y' body body' g (2 * o + 1 + j) (omega arith) (omega arith)) e)

table32_grow : (y y' : Layout) (body body' : List ℕ) (g : Grows y body y' body') (child child' : ℕ → Result Resource FileFault) → IsKept child child'
    → (o : ℕ) (es : Members) → y.keys_top ≤ o → o < y.top → table32_at y body child o ≡ Ok es → table32_at y' body' child' o ≡ Ok es
unfolding table32_at
table32_grow y y' body body' g child child' keep o es p q e =
    let n = word_at body o in
    let same : word_at body' o ≡ n = word_same y y' body body' g o p q in
    rw same (table_grow y y' body body' g child child' keep _ _ (o + 1 + n) n es (omega arith)
    (λ fits j h. word_same y y' body body' g (o + 1 + j) (omega arith) (omega arith)) e)

-- a value of a step that keeps what another step gives
map_grow : {A : Type 0} (f : A → Resource) (r r' : Result A FileFault) (t : Resource) → ((x : A) → r ≡ Ok x → r' ≡ Ok x) → result_map f r ≡ Ok t
    → result_map f r' ≡ Ok t
map_grow f r r' t h e = let a = map_ok f r t e in rw (h a.0 a.1) (ap Ok a.2)

contents_grow : (y y' : Layout) (body body' : List ℕ) (g : Grows y body y' body') (child child' : ℕ → Result Resource FileFault) → IsKept child child'
    → (o : ℕ) (k : ItemKind) (t : Resource) → y.keys_top ≤ o → o < y.top → contents y body child o k ≡ Ok t → contents y' body' child' o k ≡ Ok t
unfolding contents
contents_grow y y' body body' g child child' keep o String t p q e = map_grow string _ _ t (λ x h. units_grow y y' body body' g o x p q h) e
contents_grow y y' body body' g child child' keep o Binary t p q e = map_grow binary _ _ t (λ x h. bytes_grow y y' body body' g o x p q h) e
contents_grow y y' body body' g child child' keep o Table t p q e = map_grow table _ _ t (λ x h. table16_grow y y' body body' g child child' keep o x p q h) e
contents_grow y y' body body' g child child' keep o Alias t p q e = map_grow alias _ _ t (λ x h. units_grow y y' body body' g o x p q h) e
contents_grow y y' body body' g child child' keep o LongTable t p q e = map_grow table _ _ t
    (λ x h. table32_grow y y' body body' g child child' keep o x p q h) e
contents_grow y y' body body' g child child' keep o Int t p q e = e
contents_grow y y' body body' g child child' keep o Array t p q e = map_grow array _ _ t (λ x h. array_grow y y' body body' g child child' keep o x p q h) e
contents_grow y y' body body' g child child' keep o Ints t p q e = map_grow (λ ns. ints (map (cast_signed w32) ns)) _ _ t
    (λ x h. numbers_grow y y' body body' g o x p q h) e

within_again : (y y' : Layout) (k : ItemKind) (o : ℕ) → y'.keys_top ≡ y.keys_top → y.top ≤ y'.top → has_data k o ≡ true → y.keys_top ≤ o → o < y.top
    → within y' k o ≡ Ok true
within_again y y' k o e h d p q =
    let a : ltb o y'.keys_top ≡ false = le-ltb _ _ (omega arith) in
    let b : ltb o y'.top ≡ true = lt-ltb _ _ (omega arith) in
    rw (d, a, b) refl

value_grow : (y y' : Layout) (body body' : List ℕ) (g : Grows y body y' body') (child child' : ℕ → Result Resource FileFault) → IsKept child child'
    → (o : ℕ) (k : ItemKind) (t : Resource) → value y body child o k ≡ Ok t → value y' body' child' o k ≡ Ok t
unfolding value
value_grow y y' body body' g child child' keep o k t e =
    elim (value_cases y body child o k t e) [
      | inl p ↦
          let b = within_there y k o p.0 in
          let w = within_again y y' k o g.keys_top g.top (within_data y k o p.0) b.0 b.1 in
          rw w (contents_grow y y' body body' g child child' keep o k t b.0 b.1 p.1)
      | inr p ↦ let d = within_absent y k o p.0 in rw d (ap Ok p.1)
    ]

node_grow : (y y' : Layout) (body body' : List ℕ) (g : Grows y body y' body') (child child' : ℕ → Result Resource FileFault) → IsKept child child'
    → (item : ℕ) (t : Resource) → node y body child item ≡ Ok t → node y' body' child' item ≡ Ok t
unfolding node
node_grow y y' body body' g child child' keep item t e =
    let a = bind_ok (kind_or_fault (kind_of item)) (λ k. value y body child (offset_of item) k) t e in
    then_ok (kind_or_fault (kind_of item)) a.0 (λ k. value y' body' child' (offset_of item) k) a.1
    ∙ value_grow y y' body body' g child child' keep (offset_of item) a.0 t a.2

-- if an item stands for a tree, it stands for it in all data that grow from these
pub read_grow : (y y' : Layout) (body body' : List ℕ) (g : Grows y body y' body') (d item : ℕ) (t : Resource) → read y body d item ≡ Ok t
    → read y' body' d item ≡ Ok t
unfolding read
read_grow y y' body body' g zero item t e = absurd cc
read_grow y y' body body' g (suc d) item t e = node_grow y y' body body' g _ _ (λ w s h. read_grow y y' body body' g d w s h) item t e
