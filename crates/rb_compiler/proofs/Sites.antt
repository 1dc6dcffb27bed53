-- Proves that a file of the writer has as many places as its tree has arrays and tables with items.
use Rattle.std.proofs.Common.{◌≡◌, ℕ, zero, suc, ◌+◌, ◌-◌, ◌*◌, ◌/◌, ◌%◌, ◌^◌, ◌<◌, ◌≤◌, ℤ, Bool, true, false, cond, List, [], ◌∷◌, ◌++◌, length, get_or, drop, map, replicate, Option, Some, None, refl, sym, ap, subst, ◌∙◌, arith, inl, inr, ◌⊎◌}
use Rattle.std.specs.Prelude.{◌==◌, if◌then◌else◌}
use Rattle.std.specs.Int.{cast_unsigned, w32}
use Rattle.std.specs.Map.{keys_of}
use Rattle.std.specs.List.{AllByRecursion}
use Rattle.std.proofs.lemmas.Bool.{cases_eq}
use Rattle.std.proofs.lemmas.Grind.{flat_map-append}
use Rattle.std.proofs.lemmas.List.{append_assoc, length-append, length-replicate}
use Rattle.byteorder.specs.Endian.{little_bytes, little_number}
use Rattle.byteorder.specs.Numbers.{little_number-reads_back}
use Rattle.rb_tree.specs.Resource.{Resource, string, int, ints, binary, alias, array, table}
use Rattle.rb_tree.specs.Resource.{Resources, no_trees, tree_and, Members, no_entries, entry_and}
use Rattle.rb_tree.specs.Keys.{pairs}
use Rattle.rb_format.specs.declared.kind.ItemKind.{ItemKind}
use Rattle.rb_format.specs.declared.kind.ItemKind.TheVariants as kinds
use Rattle.rb_format.specs.Place.{word_at, half_at}
use Rattle.rb_format.specs.Geometry.{has_children, child_count, first_child}
use Rattle.rb_format.specs.Item.{kind_of, offset_of}
use Rattle.rb_writer.specs.Bytes.{words, halves, padded, place_of}
use Rattle.rb_writer.specs.Containers.{containers, containers_of_trees, containers_of_entries}
use Rattle.rb_writer.specs.Values.{text_data, numbers_data, binary_data, skipped, table_data, are_halves}
use Rattle.rb_writer.specs.Values.{type_of, item_word, data_of, item_of, trees_data, trees_items, entries_data, entries_items}
use Rattle.rb_writer.proofs.Halves.{first_fits}
use Rattle.rb_writer.proofs.Puts.{drop_append}
use Rattle.rb_validator.specs.Visits.{kind_at, IsChild, IsWay, IsPlace, IsPlaceAt, IsCount}
use Rattle.rb_validator.specs.inner.Marks.{cell, IsMet}
use Rattle.rb_validator.proofs.Cells.{slot_low, cell_at, cell_is, kind_inner}
use Rattle.rb_validator.proofs.Counts.{inner_count}
use Rattle.rb_validator.proofs.Ways.{met_child, met_place}
use Rattle.rb_compiler.proofs.Ints.{IsSmall, AreSmall, AreSmallIn}

-- ---- bytes in the data

-- the bytes are in the data, from byte n on
pub record IsAt (body : List ℕ) (n : ℕ) (bytes : List ℕ) : Type 0 where
  pub before : List ℕ
  pub after : List ℕ
  pub is : body ≡ before ++ (bytes ++ after)
  pub start : length before ≡ n

pub first : (body : List ℕ) (n : ℕ) (xs ys : List ℕ) → IsAt body n (xs ++ ys) → IsAt body n xs
first body n xs ys a = record {
  before = a.before;
  after = ys ++ a.after;
  is = a.is ∙ ap (λ (m : List ℕ). a.before ++ m) (append_assoc xs ys a.after);
  start = a.start;
}

second : (body : List ℕ) (n m : ℕ) (xs ys : List ℕ) → IsAt body n (xs ++ ys) → m ≡ n + length xs → IsAt body m ys
second body n m xs ys a e = record {
  before = a.before ++ xs;
  after = a.after;
  is = a.is ∙ ap (λ (m : List ℕ). a.before ++ m) (append_assoc xs ys a.after) ∙ sym (append_assoc a.before xs (ys ++ a.after));
  start = length-append a.before xs ∙ ap (λ (k : ℕ). k + length xs) a.start ∙ sym e;
}

pub inside : (body : List ℕ) (n : ℕ) (bytes : List ℕ) → IsAt body n bytes → n + length bytes ≤ length body
inside body n bytes a = let s = a.start in
    omega (arith, ap length a.is, length-append a.before (bytes ++ a.after), length-append bytes a.after, s)

pub word_is : (body : List ℕ) (i w : ℕ) → IsAt body (4 * i) (little_bytes 4 w) → w < 2 ^ 32 → word_at body i ≡ w
unfolding word_at
word_is body i w a h = ap (λ (m : List ℕ). little_number 4 (drop (4 * i) m)) a.is
    ∙ ap (little_number 4) (drop_append (4 * i) a.before (little_bytes 4 w ++ a.after) a.start) ∙ little_number-reads_back 4 w a.after h

half_is : (body : List ℕ) (i w : ℕ) → IsAt body (2 * i) (little_bytes 2 w) → w < 2 ^ 16 → half_at body i ≡ w
unfolding half_at
half_is body i w a h = ap (λ (m : List ℕ). little_number 2 (drop (2 * i) m)) a.is
    ∙ ap (little_number 2) (drop_append (2 * i) a.before (little_bytes 2 w ++ a.after) a.start) ∙ little_number-reads_back 2 w a.after h

abbrev pub AreWords : List ℕ → Type 0
AreWords ws = AllByRecursion (λ w. w < 2 ^ 32) ws

words_are : (body : List ℕ) (i j : ℕ) (ws : List ℕ) → IsAt body (4 * i) (words ws) → j < length ws → AreWords ws → word_at body (i + j) ≡ get_or ws j 0
words_are body i j [] a h s = absurd (omega arith)
words_are body i zero (w ∷ ws) a h s =
    let same : i + 0 ≡ i = omega arith in
    rw same (word_is body i w (first body (4 * i) (little_bytes 4 w) (words ws) a) s.0)
words_are body i (suc j) (w ∷ ws) a h s =
    let same : i + suc j ≡ suc i + j = omega arith in
    rw same (words_are body (suc i) j ws (second body (4 * i) (4 * suc i) (little_bytes 4 w) (words ws) a (omega arith)) (omega arith) s.1)

pub words_len : (ws : List ℕ) → length (words ws) ≡ 4 * length ws
words_len [] = refl
words_len (w ∷ ws) = omega (arith, length-append (little_bytes 4 w) (words ws), words_len ws)

halves_len : (hs : List ℕ) → length (halves hs) ≡ 2 * length hs
halves_len [] = refl
halves_len (w ∷ hs) = omega (arith, length-append (little_bytes 2 w) (halves hs), halves_len hs)

padded_len : (bs : List ℕ) → length (padded bs) ≡ length bs + (4 - length bs % 4) % 4
padded_len bs = length-append bs (replicate ((4 - length bs % 4) % 4) 170) ∙ ap (λ (m : ℕ). length bs + m) (length-replicate ((4 - length bs % 4) % 4) 170)

pub padded_whole : (bs : List ℕ) → length (padded bs) % 4 ≡ 0
padded_whole bs = omega (arith, padded_len bs)

-- ---- items

abbrev by_type : ℕ → Option ItemKind
by_type k =
    if k == 0 then Some kinds.String else (if k == 1 then Some kinds.Binary else (if k == 2 then Some kinds.Table else
    (if k == 3 then Some kinds.Alias else (if k == 4 then Some kinds.LongTable else (if k == 7 then Some kinds.Int else
    (if k == 8 then Some kinds.Array else (if k == 14 then Some kinds.Ints else None)))))))

named : (k : ItemKind) → by_type (type_of k) ≡ Some k
named kinds.String = refl
named kinds.Binary = refl
named kinds.Table = refl
named kinds.Alias = refl
named kinds.LongTable = refl
named kinds.Int = refl
named kinds.Array = refl
named kinds.Ints = refl

type_low : (k : ItemKind) → type_of k < 16
type_low kinds.String = omega arith
type_low kinds.Binary = omega arith
type_low kinds.Table = omega arith
type_low kinds.Alias = omega arith
type_low kinds.LongTable = omega arith
type_low kinds.Int = omega arith
type_low kinds.Array = omega arith
type_low kinds.Ints = omega arith

type_is : (t o : ℕ) → o < 2 ^ 28 → (t * 2 ^ 28 + o) / 2 ^ 28 ≡ t
type_is t o h = omega arith

pub word_kind : (k : ItemKind) (o : ℕ) → o < 2 ^ 28 → kind_of (item_word k o) ≡ Some k
word_kind k o h = ap by_type (type_is (type_of k) o h) ∙ named k

word_offset : (t o : ℕ) → o < 2 ^ 28 → (t * 2 ^ 28 + o) % 2 ^ 28 ≡ o
word_offset t o h = omega arith

word_low : (k : ItemKind) (o : ℕ) → o < 2 ^ 28 → item_word k o < 2 ^ 32
word_low k o h = let t = type_low k in omega arith

-- ---- an array or a table with these items at an offset

record Holds (body : List ℕ) (k : ItemKind) (o : ℕ) (items : List ℕ) : Type 0 where
  pub count : child_count body k o ≡ length items
  pub words_are : (i : ℕ) → i < length items → word_at body (first_child body k o + i) ≡ get_or items i 0

array_holds : (body : List ℕ) (o : ℕ) (items : List ℕ) → IsAt body (4 * o) (words (length items ∷ items)) → length items < 2 ^ 32 → AreWords items
    → Holds body kinds.Array o items
array_holds body o items a few small = record {
  count = word_is body o (length items) (first body (4 * o) (little_bytes 4 (length items)) (words items) a) few;
  words_are = λ i h. words_are body (o + 1) i items
      (second body (4 * o) (4 * (o + 1)) (little_bytes 4 (length items)) (words items) a (omega arith)) h small;
}

long_holds : (body : List ℕ) (o : ℕ) (offsets items : List ℕ) → IsAt body (4 * o) (words (length items ∷ (offsets ++ items)))
    → length offsets ≡ length items → length items < 2 ^ 32 → AreWords items → Holds body kinds.LongTable o items
long_holds body o offsets items a same few small =
    let n : ℕ = length items in
    let count : word_at body o ≡ n = word_is body o n (first body (4 * o) (little_bytes 4 n) (words (offsets ++ items)) a) few in
    let behind = second body (4 * o) (4 * (o + 1)) (little_bytes 4 n) (words (offsets ++ items)) a (omega arith) in
    let parts : IsAt body (4 * (o + 1)) (words offsets ++ words items) = subst (λ (m : List ℕ). IsAt body (4 * (o + 1)) m)
    (flat_map-append (λ m. little_bytes 4 m) offsets items) behind in
    let there = second body (4 * (o + 1)) (4 * (o + 1 + n)) (words offsets) (words items) parts (omega (arith, words_len offsets, same)) in
    record { count = count; words_are = λ i h. rw count (words_are body (o + 1 + n) i items there h small) }

short_holds : (body : List ℕ) (o : ℕ) (offsets items : List ℕ) → IsAt body (4 * o) (padded (halves (length items ∷ offsets)) ++ words items)
    → length offsets ≡ length items → length items < 65536 → AreWords items → Holds body kinds.Table o items
short_holds body o offsets items a same few small =
    let n : ℕ = length items in
    let heads : List ℕ = halves (n ∷ offsets) in
    let gap : List ℕ = replicate ((4 - length heads % 4) % 4) 170 in
    let front = first body (4 * o) heads gap (first body (4 * o) (padded heads) (words items) a) in
    let twice : 4 * o ≡ 2 * (2 * o) = omega arith in
    let head : IsAt body (2 * (2 * o)) (little_bytes 2 n) = subst (λ (m : ℕ). IsAt body m (little_bytes 2 n)) twice
    (first body (4 * o) (little_bytes 2 n) (halves offsets) front) in
    let count : half_at body (2 * o) ≡ n = half_is body (2 * o) n head few in
    let long : length heads ≡ 2 * (1 + n) = omega (arith, halves_len (n ∷ offsets), same) in
    let there = second body (4 * o) (4 * (o + (n + 2) / 2)) (padded heads) (words items) a (omega (arith, padded_len heads, long)) in
    record { count = count; words_are = λ i h. rw count (words_are body (o + (n + 2) / 2) i items there h small) }

-- ---- ways and places below an item

-- the items before it, the nearest first, lead from the first item to the last
abbrev Way : List ℕ → ℕ → List ℕ → ℕ → Type 0
Way body r [] item = item ≡ r
Way body r (b ∷ before) item = IsChild body b item × Way body r before b

way_of : (body : List ℕ) (before : List ℕ) (item : ℕ) → IsWay body before item → Way body (word_at body 0) before item
way_of body [] item w = w
way_of body (b ∷ before) item w = (w.0, way_of body before b w.1)

-- a way ends where it begins, or goes on from a child
way_first : (body : List ℕ) (r : ℕ) (before : List ℕ) (item : ℕ) → Way body r before item
    → (item ≡ r) ⊎ ((c : ℕ) × (rest : List ℕ) × IsChild body r c × Way body c rest item)
way_first body r [] item w = inl w
way_first body r (b ∷ before) item w = elim (way_first body r before b w.1) [
  | inl same ↦ inr (item, [], subst (λ (x : ℕ). IsChild body x item) same w.0, refl)
  | inr on ↦ inr (on.0, b ∷ on.1, on.2, (w.0, on.3))
]

abbrev pub Among : List ℕ → ℕ → Type 0
Among [] x = ⊥
Among (y ∷ ys) x = (x ≡ y) ⊎ Among ys x

among_left : (xs ys : List ℕ) (x : ℕ) → Among xs x → Among (xs ++ ys) x
among_left [] ys x h = absurd h
among_left (z ∷ xs) ys x h = elim h [ inl q ↦ inl q | inr q ↦ inr (among_left xs ys x q) ]

among_right : (xs ys : List ℕ) (x : ℕ) → Among ys x → Among (xs ++ ys) x
among_right [] ys x h = h
among_right (z ∷ xs) ys x h = inr (among_right xs ys x h)

among_cases : (xs ys : List ℕ) (x : ℕ) → Among (xs ++ ys) x → Among xs x ⊎ Among ys x
among_cases [] ys x h = inr h
among_cases (z ∷ xs) ys x h = elim h [
  | inl q ↦ inl (inl q)
  | inr q ↦ elim (among_cases xs ys x q) [ inl p ↦ inl (inr p) | inr p ↦ inr p ]
]

-- descending numbers from lo to below hi
abbrev pub Falls : ℕ → ℕ → List ℕ → Type 0
Falls lo hi [] = lo ≤ hi
Falls lo hi (x ∷ xs) = (x < hi) × Falls lo x xs

falls_raise : (lo hi top : ℕ) (xs : List ℕ) → hi ≤ top → Falls lo hi xs → Falls lo top xs
falls_raise lo hi top [] h f = omega arith
falls_raise lo hi top (x ∷ xs) h f = let l = f.0 in (omega arith, f.1)

falls_append : (lo mid hi : ℕ) (xs ys : List ℕ) → Falls mid hi xs → Falls lo mid ys → Falls lo hi (xs ++ ys)
falls_append lo mid hi [] ys f g = falls_raise lo mid hi ys f g
falls_append lo mid hi (x ∷ xs) ys f g = (f.0, falls_append lo mid x xs ys f.1 g)

falls_below : (lo hi : ℕ) (xs : List ℕ) (x : ℕ) → Falls lo hi xs → Among xs x → x < hi
falls_below lo hi [] x f h = absurd h
falls_below lo hi (y ∷ xs) x f h = let l = f.0 in elim h [
  | inl q ↦ omega arith
  | inr q ↦ (let b = falls_below lo y xs x f.1 q in omega arith)
]

-- a property of just these numbers is that of as many
pub counted : (P : ℕ → Type 0) (n lo : ℕ) (xs : List ℕ) → Falls lo n xs → ((x : ℕ) → Among xs x → P x) → ((x : ℕ) → x < n → P x → Among xs x)
    → IsCount P n (length xs)
counted P zero lo [] f g h = refl
counted P zero lo (x ∷ xs) f g h = let l = f.0 in absurd (omega arith)
counted P (suc n) lo [] f g h = inr ((λ p. h n (omega arith) p), counted P n 0 [] (omega arith) g (λ x l p. h x (omega arith) p))
counted P (suc n) lo (x ∷ xs) f g h = elim (cases_eq n x) [
  | inl same ↦ inl (
    g n (inl same),
    (
      length xs,
      refl,
      counted P n lo xs (falls_raise lo x n xs (omega arith) f.1) (λ y m. g y (inr m)) (λ y l p. elim (h y (omega arith) p) [
        | inl q ↦ absurd (omega arith)
        | inr q ↦ q
      ]),
    ),
  )
  | inr other ↦ let l = f.0 in inr (
    (λ p. elim (h n (omega arith) p) [
      | inl q ↦ absurd (other q)
      | inr q ↦ (let b = falls_below lo x xs n f.1 q in absurd (omega arith))
    ]),
    counted P n lo (x ∷ xs) (omega arith, f.1) g (λ y m p. h y (omega arith) p),
  )
]

-- ---- consecutive trees: their data, which follow n bytes, their items and the places to which these lead

abbrev LeadsTo : List ℕ → ℕ → List ℕ → Type 0
LeadsTo body r places = (before : List ℕ) (item : ℕ) (k : ItemKind) → Way body r before item → kind_of item ≡ Some k → has_children k ≡ true
    → 0 < offset_of item → Among places (cell k (offset_of item))

pub record Sites (body : List ℕ) (n : ℕ) (bytes items : List ℕ) (c : ℕ) : Type 0 where
  pub places : List ℕ
  pub count : length places ≡ c
  pub whole : length bytes % 4 ≡ 0
  pub falls : Falls (3 * (n / 4)) (3 * ((n + length bytes) / 4)) places
  pub small : AreWords items
  pub found : ((i : ℕ) → i < length items → IsMet body (get_or items i 0)) → (x : ℕ) → Among places x → IsPlaceAt body x
  pub all : (i : ℕ) → i < length items → LeadsTo body (get_or items i 0) places

none_sites : (body : List ℕ) (n : ℕ) → Sites body n [] [] 0
none_sites body n = record {
  places = [];
  count = refl;
  whole = refl;
  falls = omega arith;
  small = tt;
  found = λ m x h. absurd h;
  all = λ i h. absurd (omega arith);
}

more_sites : (body : List ℕ) (n m : ℕ) (xs ys : List ℕ) (w : ℕ) (ws : List ℕ) (c d : ℕ) → n % 4 ≡ 0 → m ≡ n + length xs → Sites body n xs (w ∷ []) c
    → Sites body m ys ws d → Sites body n (xs ++ ys) (w ∷ ws) (c + d)
more_sites body n m xs ys w ws c d z e s t =
    let len = length-append xs ys in let sw = s.whole in let tw = t.whole in
    let seam : (n + length xs) / 4 ≡ m / 4 = omega arith in
    let end : (m + length ys) / 4 ≡ (n + length (xs ++ ys)) / 4 = omega (arith, len) in
    record {
      places = t.places ++ s.places;
      count = omega (arith, length-append t.places s.places, s.count, t.count);
      whole = omega (arith, len);
      falls = falls_append (3 * (n / 4)) (3 * (m / 4)) (3 * ((n + length (xs ++ ys)) / 4)) t.places s.places
          (rw (← end) t.falls) (rw (← seam) s.falls);
      small = (s.small.0, t.small);
      found = λ met x h. elim (among_cases t.places s.places x h) [
        | inl q ↦ t.found (λ i l. met (suc i) (omega arith)) x q
        | inr q ↦ s.found (single_met met) x q
      ];
      all = every;
    }
  where
    single_met : ((i : ℕ) → i < length (w ∷ ws) → IsMet body (get_or (w ∷ ws) i 0)) → (i : ℕ) → i < length (w ∷ []) → IsMet body (get_or (w ∷ []) i 0)
    single_met met zero l = met 0 (omega arith)
    single_met met (suc i) l = absurd (omega arith)

    every : (i : ℕ) → i < length (w ∷ ws) → LeadsTo body (get_or (w ∷ ws) i 0) (t.places ++ s.places)
    every zero l = λ before item k way e h full. among_right t.places s.places _ (s.all 0 (omega arith) before item k way e h full)
    every (suc i) l = λ before item k way e h full. among_left t.places s.places _ (t.all i (omega arith) before item k way e h full)

-- an item to which nothing leads on, and which is no place
no_lead : (body : List ℕ) (r : ℕ) → ((k : ItemKind) → kind_of r ≡ Some k → has_children k ≡ true → 0 < offset_of r → ⊥) → LeadsTo body r []
no_lead body r never = λ before item k way e h full. elim (way_first body r before item way) [
  | inl same ↦ never k (subst (λ (x : ℕ). kind_of x ≡ Some k) same e) h (subst (λ (x : ℕ). 0 < offset_of x) same full)
  | inr on ↦ let ch = on.2 in never ch.kind ch.is_kind (inner_count body ch.kind (offset_of r) ch.i ch.counted) ch.full
]

end_sites : (body : List ℕ) (n : ℕ) (bytes : List ℕ) (r : ℕ) → length bytes % 4 ≡ 0 → r < 2 ^ 32
    → ((k : ItemKind) → kind_of r ≡ Some k → has_children k ≡ true → 0 < offset_of r → ⊥) → Sites body n bytes (r ∷ []) 0
end_sites body n bytes r z low never = record {
  places = [];
  count = refl;
  whole = z;
  falls = omega arith;
  small = (low, tt);
  found = λ m x h. absurd h;
  all = every;
}
  where
    every : (i : ℕ) → i < length (r ∷ []) → LeadsTo body (get_or (r ∷ []) i 0) []
    every zero l = no_lead body r never
    every (suc i) l = absurd (omega arith)

true_false : {A : Type 0} (b : Bool) → b ≡ false → b ≡ true → A
true_false true e f = absurd cc
true_false false e f = absurd cc

-- a value without children
leaf_sites : (body : List ℕ) (n : ℕ) (bytes : List ℕ) (k : ItemKind) (o : ℕ) → length bytes % 4 ≡ 0 → has_children k ≡ false → o < 2 ^ 28
    → Sites body n bytes (item_word k o ∷ []) 0
leaf_sites body n bytes k o z leaf low = end_sites body n bytes (item_word k o) z (word_low k o low) (λ j e h f.
    let some : Some j ≡ Some k = sym e ∙ word_kind k o low in
    let same : j ≡ k = cc in
    true_false (has_children k) leaf (subst (λ (x : ItemKind). has_children x ≡ true) same h))

-- an array or a table without items
bare_sites : (body : List ℕ) (n : ℕ) (k : ItemKind) → Sites body n [] (item_word k 0 ∷ []) 0
bare_sites body n k = end_sites body n [] (item_word k 0) refl (word_low k 0 (omega arith)) (λ j e h f.
    let none = word_offset (type_of k) 0 (omega arith) in absurd (omega arith))

-- the data of an array or a table after those of its children
record Own (body : List ℕ) (k : ItemKind) (o : ℕ) (items own : List ℕ) : Type 0 where
  pub inner : has_children k ≡ true
  pub whole : length own % 4 ≡ 0
  pub some : 0 < length own
  pub holds : Holds body k o items

node_sites : (body : List ℕ) (n o : ℕ) (bytes own : List ℕ) (k : ItemKind) (items : List ℕ) (c : ℕ) → Sites body n bytes items c → 4 * o ≡ n + length bytes
    → 0 < o → o < 2 ^ 28 → Own body k o items own → Sites body n (bytes ++ own) (item_word k o ∷ []) (1 + c)
node_sites body n o bytes own k items c s at full low w =
    let r : ℕ = item_word k o in
    let kind_is : kind_of r ≡ Some k = word_kind k o low in
    let offset_is : offset_of r ≡ o = word_offset (type_of k) o low in
    let some = w.some in let l = slot_low k in let len = length-append bytes own in let sw = s.whole in let ow = w.whole in
    let there : 0 < offset_of r = rw offset_is full in
    record {
      places = cell k o ∷ s.places;
      count = omega (arith, s.count);
      whole = omega (arith, len);
      falls = (omega (arith, len), falls_raise (3 * (n / 4)) (3 * ((n + length bytes) / 4)) (cell k o) s.places (omega arith) s.falls);
      small = (word_low k o low, tt);
      found = λ met x h. elim h [
        | inl q ↦
            let same = cell_is (kind_at x) k (x / 3) o (kind_inner x) w.inner (cell_at x ∙ q) in
            let place : IsPlace body k o = subst (λ (y : ℕ). IsPlace body k y) offset_is (met_place body r k (met 0 (omega arith)) kind_is there w.inner) in
            rw (same.0, same.1) place
        | inr q ↦ s.found (λ i j.
            let counted : i < child_count body k (offset_of r) = rw (offset_is, w.holds.count) j in
            let child = met_child body r k i (met 0 (omega arith)) kind_is there counted in
            subst (λ (y : ℕ). IsMet body y) (ap (λ (y : ℕ). word_at body (first_child body k y + i)) offset_is ∙ w.holds.words_are i j) child) x q
      ];
      all = every r kind_is offset_is;
    }
  where
    every : (r : ℕ) → kind_of r ≡ Some k → offset_of r ≡ o → (i : ℕ) → i < length (r ∷ []) → LeadsTo body (get_or (r ∷ []) i 0) (cell k o ∷ s.places)
    every r kind_is offset_is zero l = λ before item j way e h f. elim (way_first body r before item way) [
      | inl same ↦
          let some : Some j ≡ Some k = sym e ∙ ap kind_of same ∙ kind_is in
          let jk : j ≡ k = cc in
          let oi : offset_of item ≡ o = ap offset_of same ∙ offset_is in
          inl (ap (λ (x : ItemKind). cell x (offset_of item)) jk ∙ ap (cell k) oi)
      | inr on ↦
          let ch = on.2 in
          let some : Some ch.kind ≡ Some k = sym ch.is_kind ∙ kind_is in
          let kk : ch.kind ≡ k = cc in
          let low : ch.i < length items = subst (λ (y : ℕ). ch.i < y)
          (ap (λ (x : ItemKind). child_count body x (offset_of r)) kk ∙ ap (child_count body k) offset_is ∙ w.holds.count) ch.counted in
          let is : on.0 ≡ get_or items ch.i 0 = ch.is ∙ ap (λ (x : ItemKind). word_at body (first_child body x (offset_of r) + ch.i)) kk
          ∙ ap (λ (y : ℕ). word_at body (first_child body k y + ch.i)) offset_is ∙ w.holds.words_are ch.i low in
          inr (s.all ch.i low on.1 item j (subst (λ (x : ℕ). Way body x on.1 item) is on.3) e h f)
    ]
    every r kind_is offset_is (suc i) l = absurd (omega arith)

-- ---- trees

place_low : {A : Type 0} (n : ℕ) (xs : List A) → n < 2 ^ 30 → place_of n xs < 2 ^ 28
place_low n [] h = omega arith
place_low n (x ∷ xs) h = omega arith

text_whole : (us : List ℕ) → length (text_data us) % 4 ≡ 0
text_whole [] = refl
text_whole (u ∷ us) = padded_whole (words (length (u ∷ us) ∷ []) ++ halves (u ∷ us) ++ halves (0 ∷ []))

numbers_whole : (zs : List ℤ) → length (numbers_data zs) % 4 ≡ 0
numbers_whole [] = refl
numbers_whole (z ∷ zs) = omega (arith, words_len (length (z ∷ zs) ∷ map (cast_unsigned w32) (z ∷ zs)))

binary_whole : (n : ℕ) (bs : List ℕ) → length (binary_data n bs) % 4 ≡ 0
binary_whole n [] = refl
binary_whole n (b ∷ bs) = padded_whole (replicate (skipped n) 170 ++ words (length (b ∷ bs) ∷ []) ++ (b ∷ bs))

array_own : (body : List ℕ) (o : ℕ) (items : List ℕ) → IsAt body (4 * o) (words (length items ∷ items)) → length body ≤ 67108864 → AreWords items
    → Own body kinds.Array o items (words (length items ∷ items))
array_own body o items a short small =
    let long = words_len (length items ∷ items) in
    record {
      inner = refl;
      whole = omega arith;
      some = omega arith;
      holds = array_holds body o items a (omega (arith, inside body (4 * o) (words (length items ∷ items)) a)) small;
    }

table_own : (body : List ℕ) (o : ℕ) (offsets items : List ℕ) (b : Bool) → are_halves (length items ∷ offsets) ≡ b
    → IsAt body (4 * o) (cond b (padded (halves (length items ∷ offsets)) ++ words items) (words (length items ∷ (offsets ++ items))))
    → length body ≤ 67108864 → length offsets ≡ length items → AreWords items
    → Own body (cond b kinds.Table kinds.LongTable) o items
    (cond b (padded (halves (length items ∷ offsets)) ++ words items) (words (length items ∷ (offsets ++ items))))
table_own body o offsets items true e a short same small =
    let heads : List ℕ = halves (length items ∷ offsets) in
    let len = length-append (padded heads) (words items) in
    let some = padded_len heads in let two = halves_len (length items ∷ offsets) in
    record {
      inner = refl;
      whole = omega (arith, len, padded_whole heads, words_len items);
      some = omega (arith, len);
      holds = short_holds body o offsets items a same (first_fits (length items) offsets e).0 small;
    }
table_own body o offsets items false e a short same small =
    let all : List ℕ = words (length items ∷ (offsets ++ items)) in
    let long = words_len (length items ∷ (offsets ++ items)) in
    let both = length-append offsets items in
    record {
      inner = refl;
      whole = omega arith;
      some = omega arith;
      holds = long_holds body o offsets items a same (omega (arith, inside body (4 * o) all a)) small;
    }

keys_len : (at : List ℕ → ℕ) (n : ℕ) (es : Members) → length (map at (keys_of (pairs es))) ≡ length (entries_items at n es)
keys_len at n no_entries = refl
keys_len at n (entry_and k t es) = ap suc (keys_len at (n + length (data_of at n t)) es)

mutual
  pub tree_sites : (body : List ℕ) → length body ≤ 67108864 → (at : List ℕ → ℕ) (n : ℕ) (t : Resource) → IsAt body n (data_of at n t) → n % 4 ≡ 0 → 0 < n
      → IsSmall t → Sites body n (data_of at n t) (item_of at n t ∷ []) (containers t)
  tree_sites body short at n (string us) a z p s = leaf_sites body n (text_data us) kinds.String (place_of n us) (text_whole us) refl
      (place_low n us (omega (arith, inside body n (text_data us) a)))
  tree_sites body short at n (int i) a z p s = leaf_sites body n [] kinds.Int i refl refl s
  tree_sites body short at n (ints zs) a z p s = leaf_sites body n (numbers_data zs) kinds.Ints (place_of n zs) (numbers_whole zs) refl
      (place_low n zs (omega (arith, inside body n (numbers_data zs) a)))
  tree_sites body short at n (binary bs) a z p s = leaf_sites body n (binary_data n bs) kinds.Binary (place_of (n + skipped n) bs) (binary_whole n bs) refl
      (place_low (n + skipped n) bs (omega (arith, inside body n (binary_data n bs) a)))
  tree_sites body short at n (alias us) a z p s = leaf_sites body n (text_data us) kinds.Alias (place_of n us) (text_whole us) refl
      (place_low n us (omega (arith, inside body n (text_data us) a)))
  tree_sites body short at n (array no_trees) a z p s = bare_sites body n kinds.Array
  tree_sites body short at n (array (tree_and t ts)) a z p s =
      let x : List ℕ = trees_data at n (tree_and t ts) in
      let is : List ℕ = trees_items at n (tree_and t ts) in
      let own : List ℕ = words (length is ∷ is) in
      let o : ℕ = (n + length x) / 4 in
      let below = trees_sites body short at n (tree_and t ts) (first body n x own a) z p s in
      let whole = below.whole in
      let here : n + length x ≡ 4 * o = omega arith in
      let there : IsAt body (4 * o) own = second body n (4 * o) x own a (sym here) in
      let end = inside body (4 * o) own there in
      node_sites body n o x own kinds.Array is (containers_of_trees (tree_and t ts)) below (sym here) (omega arith) (omega arith)
      (array_own body o is there short below.small)
  tree_sites body short at n (table no_entries) a z p s = bare_sites body n kinds.Table
  tree_sites body short at n (table (entry_and k t es)) a z p s =
      let x : List ℕ = entries_data at n (entry_and k t es) in
      let is : List ℕ = entries_items at n (entry_and k t es) in
      let offsets : List ℕ = map at (keys_of (pairs (entry_and k t es))) in
      let own : List ℕ = table_data offsets is in
      let o : ℕ = (n + length x) / 4 in
      let below = entries_sites body short at n (entry_and k t es) (first body n x own a) z p s in
      let whole = below.whole in
      let here : n + length x ≡ 4 * o = omega arith in
      let there : IsAt body (4 * o) own = second body n (4 * o) x own a (sym here) in
      let end = inside body (4 * o) own there in
      node_sites body n o x own (cond (are_halves (length is ∷ offsets)) kinds.Table kinds.LongTable) is (containers_of_entries (entry_and k t es)) below
      (sym here) (omega arith) (omega arith)
      (table_own body o offsets is (are_halves (length is ∷ offsets)) refl there short (keys_len at n (entry_and k t es)) below.small)

  trees_sites : (body : List ℕ) → length body ≤ 67108864 → (at : List ℕ → ℕ) (n : ℕ) (ts : Resources) → IsAt body n (trees_data at n ts) → n % 4 ≡ 0 → 0 < n
      → AreSmall ts → Sites body n (trees_data at n ts) (trees_items at n ts) (containers_of_trees ts)
  trees_sites body short at n no_trees a z p s = none_sites body n
  trees_sites body short at n (tree_and t ts) a z p s =
      let d : List ℕ = data_of at n t in
      let m : ℕ = n + length d in
      let one = tree_sites body short at n t (first body n d (trees_data at m ts) a) z p s.0 in
      let whole = one.whole in
      let rest = trees_sites body short at m ts (second body n m d (trees_data at m ts) a refl) (omega arith) (omega arith) s.1 in
      more_sites body n m d (trees_data at m ts) (item_of at n t) (trees_items at m ts) (containers t) (containers_of_trees ts) z refl one rest

  entries_sites : (body : List ℕ) → length body ≤ 67108864 → (at : List ℕ → ℕ) (n : ℕ) (es : Members) → IsAt body n (entries_data at n es) → n % 4 ≡ 0 → 0 < n
      → AreSmallIn es → Sites body n (entries_data at n es) (entries_items at n es) (containers_of_entries es)
  entries_sites body short at n no_entries a z p s = none_sites body n
  entries_sites body short at n (entry_and k t es) a z p s =
      let d : List ℕ = data_of at n t in
      let m : ℕ = n + length d in
      let one = tree_sites body short at n t (first body n d (entries_data at m es) a) z p s.0 in
      let whole = one.whole in
      let rest = entries_sites body short at m es (second body n m d (entries_data at m es) a refl) (omega arith) (omega arith) s.1 in
      more_sites body n m d (entries_data at m es) (item_of at n t) (entries_items at m es) (containers t) (containers_of_entries es) z refl one rest

-- ---- the root

-- the places of all data are those to which the root item leads
pub sites_count : (body : List ℕ) (n : ℕ) (bytes : List ℕ) (r c : ℕ) → Sites body n bytes (r ∷ []) c → word_at body 0 ≡ r → n + length bytes ≡ length body
    → IsCount (IsPlaceAt body) (3 * (length body / 4)) c
sites_count body n bytes r c s root end =
    let falls : Falls (3 * (n / 4)) (3 * (length body / 4)) s.places = subst (λ (m : ℕ). Falls (3 * (n / 4)) (3 * (m / 4)) s.places) end s.falls in
    subst (λ (m : ℕ). IsCount (IsPlaceAt body) (3 * (length body / 4)) m) s.count
    (counted (IsPlaceAt body) (3 * (length body / 4)) (3 * (n / 4)) s.places falls (s.found met) (λ x l p. is_among x p))
  where
    met : (i : ℕ) → i < length (r ∷ []) → IsMet body (get_or (r ∷ []) i 0)
    met zero l = record { before = []; way = sym root }
    met (suc i) l = absurd (omega arith)

    is_among : (x : ℕ) → IsPlaceAt body x → Among s.places x
    is_among x p =
        let way : Way body r p.before p.item = subst (λ (y : ℕ). Way body y p.before p.item) root (way_of body p.before p.item p.way) in
        let full : 0 < offset_of p.item = rw p.is_offset p.full in
        let a = s.all 0 (omega arith) p.before p.item (kind_at x) way p.is_kind p.inner full in
        subst (λ (y : ℕ). Among s.places y) (ap (cell (kind_at x)) p.is_offset ∙ cell_at x) a
