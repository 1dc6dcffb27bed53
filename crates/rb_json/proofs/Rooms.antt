-- The remainder of a limit of weight, child by child.
use Rattle.std.proofs.Common.{◌≡◌, ◌≤◌, ◌<◌, ◌+◌, ℕ, zero, suc, max, List, [], ◌∷◌, Some, drop, length, refl, ap, sym, ◌∙◌, arith}
use Rattle.std.specs.List.{slice_get}
use Rattle.rb_tree.specs.Resource.{Resource, height, weight, trees_height, trees_weight, entries_height, entries_weight, string, array, table, Resources, no_trees, tree_and, Members, no_entries, entry_and}
use Rattle.rb_tree.specs.Keys.{items, pairs}
use Rattle.rb_tree.specs.Parts.{children_of, kind_of, pairs_of}
use Rattle.rb_tree.specs.declared.kind.Kind.TheVariants as Kinds

-- ---- children: those of a list
abbrev pub most : {A : Type 0} → (A → ℕ) → List A → ℕ
most f [] = 0
most f (x ∷ xs) = max (f x) (most f xs)

abbrev pub total : {A : Type 0} → (A → ℕ) → List A → ℕ
total f [] = 0
total f (x ∷ xs) = f x + total f xs

-- the weight of an array's item, and of a table's entry
abbrev pub item_weight : Resource → ℕ
item_weight t = 4 + weight t

abbrev pub entry_height : List ℕ × Resource → ℕ
entry_height p = height p.1

abbrev pub entry_weight : List ℕ × Resource → ℕ
entry_weight p = 9 + length p.0 + weight p.1

items_height : (ts : Resources) → trees_height ts ≡ most height (items ts)
items_height no_trees = refl
items_height (tree_and t ts) = ap (λ (n : ℕ). max (height t) n) (items_height ts)

items_weight : (ts : Resources) → trees_weight ts ≡ total item_weight (items ts)
items_weight no_trees = refl
items_weight (tree_and t ts) = ap (λ (n : ℕ). 4 + weight t + n) (items_weight ts)

pairs_height : (es : Members) → entries_height es ≡ most entry_height (pairs es)
pairs_height no_entries = refl
pairs_height (entry_and k t es) = ap (λ (n : ℕ). max (height t) n) (pairs_height es)

pairs_weight : (es : Members) → entries_weight es ≡ total entry_weight (pairs es)
pairs_weight no_entries = refl
pairs_weight (entry_and k t es) = ap (λ (n : ℕ). 9 + length k + weight t + n) (pairs_weight es)

pub height_above : (t : Resource) → 0 < height t
height_above (string us) = omega arith
height_above _ = omega arith

-- of children of a tree of height h and weight w, some are left, whose greatest height is k and whose weight is v
pub record IsLeft (h w k v levels room left : ℕ) : Type 0 where
  pub low : k ≤ levels → h ≤ levels + 1
  pub high : k < h
  pub light : v ≤ w
  pub room_is : left + w ≡ room + v

pub items_begin : (t : Resource) (levels room left : ℕ) → kind_of t ≡ Kinds.Array → left + 4 ≡ room
    → IsLeft (height t) (weight t) (most height (children_of t)) (total item_weight (children_of t)) levels room left
items_begin (array ts) levels room left kind e =
    record { low = λ h. omega (arith, items_height ts); high = omega (arith, items_height ts); light = omega (arith, items_weight ts); room_is = omega (arith, items_weight ts) }
items_begin _ levels room left kind e = absurd cc

pub entries_begin : (t : Resource) (levels room left : ℕ) → kind_of t ≡ Kinds.Table → left + 8 ≡ room
    → IsLeft (height t) (weight t) (most entry_height (pairs_of t)) (total entry_weight (pairs_of t)) levels room left
entries_begin (table es) levels room left kind e =
    record { low = λ h. omega (arith, pairs_height es); high = omega (arith, pairs_height es); light = omega (arith, pairs_weight es); room_is = omega (arith, pairs_weight es) }
entries_begin _ levels room left kind e = absurd cc

drop_here : {A : Type 0} (xs : List A) (i : ℕ) (x : A) → Some x ≡ slice_get xs i → drop i xs ≡ x ∷ drop (suc i) xs
drop_here [] i x h = absurd cc
drop_here (y ∷ xs) zero x h = let same : x ≡ y = cc in ap (λ z. z ∷ xs) (sym same)
drop_here (y ∷ xs) (suc i) x h = drop_here xs i x h

-- one child more
pub left_more : {A : Type 0} (f g : A → ℕ) (xs : List A) (i : ℕ) (x : A) (h w levels room left next : ℕ)
    → IsLeft h w (most f (drop i xs)) (total g (drop i xs)) levels room left → Some x ≡ slice_get xs i → f x ≤ levels → next + g x ≡ left
    → IsLeft h w (most f (drop (i + 1) xs)) (total g (drop (i + 1) xs)) levels room next
left_more f g xs i x h w levels room left next so_far at low e =
    let n : suc i ≡ i + 1 = omega arith in
    let here = drop_here xs i x at ∙ ap (λ (m : ℕ). x ∷ drop m xs) n in
    let high : most f (drop i xs) ≡ max (f x) (most f (drop (i + 1) xs)) = ap (most f) here in
    let heavy : total g (drop i xs) ≡ g x + total g (drop (i + 1) xs) = ap (total g) here in
    record { low = λ q. so_far.low (omega arith); high = omega (arith, so_far.high); light = omega (arith, so_far.light); room_is = omega (arith, so_far.room_is) }

-- a child that is too high or too heavy
pub left_less : {A : Type 0} (f g : A → ℕ) (xs : List A) (i : ℕ) (x : A) (h w levels room left : ℕ)
    → IsLeft h w (most f (drop i xs)) (total g (drop i xs)) levels room left → Some x ≡ slice_get xs i
    → (f x ≤ levels → g x ≤ left → ⊥) → h ≤ levels + 1 → w ≤ room → ⊥
left_less f g xs i x h w levels room left so_far at out low light =
    let n : suc i ≡ i + 1 = omega arith in
    let here = drop_here xs i x at ∙ ap (λ (m : ℕ). x ∷ drop m xs) n in
    let high : most f (drop i xs) ≡ max (f x) (most f (drop (i + 1) xs)) = ap (most f) here in
    let heavy : total g (drop i xs) ≡ g x + total g (drop (i + 1) xs) = ap (total g) here in
    out (omega (arith, so_far.high)) (omega (arith, so_far.room_is))
