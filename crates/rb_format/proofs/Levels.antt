-- A tree is read at every level that its height fits, and is too deep at every other.
use Rattle.std.proofs.Common.{◌≡◌, ℕ, zero, suc, ◌+◌, ◌<◌, ◌≤◌, max, Bool, true, false, cond, leb}
use Rattle.std.proofs.Common.{map, List, [], ◌∷◌, Result, Ok, Err, refl, sym, subst, ◌∙◌, arith}
use Rattle.std.proofs.lemmas.Bool.Decides.{nat_tests}
use Rattle.rb_format.specs.declared.kind.ItemKind.{ItemKind}
use Rattle.rb_format.specs.declared.kind.ItemKind.TheVariants.{String, Binary, Table, Alias, LongTable, Int, Array, Ints}
use Rattle.std.specs.Int.{cast_signed, w32}
use Rattle.rb_format.specs.declared.fault.FileFault.{FileFault}
use Rattle.rb_format.specs.declared.fault.FileFault.TheVariants.{TooDeep}
use Rattle.rb_format.specs.declared.layout.Layout.{Layout}
use Rattle.rb_tree.specs.Resource.{Resource, string, binary, table, alias, int, array, ints, Resources}
use Rattle.rb_tree.specs.Resource.{no_trees, tree_and, Members, no_entries, entry_and, height, trees_height, entries_height}
use Rattle.rb_format.specs.inner.FirstFault.{◌>>=◌, limited, result_map, trees, members, keys, array_at, table_of, table16_at, table32_at}
use Rattle.rb_format.specs.inner.FirstFault.{node, read, within, contents, value, kind_or_fault, units, bytes, numbers}
use Rattle.rb_format.specs.Item.{bare, kind_of, offset_of}
use Rattle.rb_format.specs.Place.{word_at}
use Rattle.rb_format.proofs.Steps.{bind_ok, map_ok, follow, guarded, then_ok}

-- child' gives what child gives, as far as h levels are enough
abbrev pub IsLimited : ℕ → (ℕ → Result Resource FileFault) → (ℕ → Result Resource FileFault) → Type 0
IsLimited h child child' = (w : ℕ) (s : Resource) → child w ≡ Ok s → child' w ≡ limited h (height s) s

leb-zero : (h : ℕ) → leb 0 h ≡ true
leb-zero h = grind (arith, nat_tests)

pub max_test : (h a b : ℕ) (p q : Bool) → leb a h ≡ p → leb b h ≡ q → leb (max a b) h ≡ cond p q false
max_test h a b true true e f = grind (arith, nat_tests)
max_test h a b true false e f = grind (arith, nat_tests)
max_test h a b false true e f = grind (arith, nat_tests)
max_test h a b false false e f = grind (arith, nat_tests)

both_choices : {A B C : Type 0} (p q : Bool) (x : A) (y : B) (f : A → B → C)
    → (cond {A = Result A FileFault} p (Ok x) (Err TooDeep) >>= λ u. cond {A = Result B FileFault} q (Ok y) (Err TooDeep) >>= λ v. Ok (f u v))
    ≡ cond {A = Result C FileFault} (cond p q false) (Ok (f x y)) (Err TooDeep)
both_choices true true x y f = refl
both_choices true false x y f = refl
both_choices false true x y f = refl
both_choices false false x y f = refl

pub both_limited : {A B C : Type 0} (h a b : ℕ) (x : A) (y : B) (f : A → B → C)
    → (limited h a x >>= λ u. limited h b y >>= λ v. Ok (f u v)) ≡ limited h (max a b) (f x y)
both_limited h a b x y f = rw (max_test h a b _ _ refl refl) (both_choices (leb a h) (leb b h) x y f)

ok_is : {A : Type 0} (x y : A) (r : Result A FileFault) → r ≡ Ok x → r ≡ Ok y → x ≡ y
ok_is x y r e f = cc

pub trees-limited : (h : ℕ) (child child' : ℕ → Result Resource FileFault) → IsLimited h child child' → (item : ℕ → ℕ) (i n : ℕ) (ts : Resources)
    → trees child item i n ≡ Ok ts → trees child' item i n ≡ limited h (trees_height ts) ts
unfolding trees
trees-limited h child child' lim item i zero ts e = subst (λ (x : Resources). Ok no_trees ≡ limited h (trees_height x) x)
    (ok_is no_trees ts (Ok no_trees) refl e) (rw (leb-zero h) refl)
trees-limited h child child' lim item i (suc n) ts e =
    let a = bind_ok (child (item i)) (λ t. trees child item (suc i) n >>= λ us. Ok (tree_and t us)) ts e in
    let b = bind_ok (trees child item (suc i) n) (λ us. Ok (tree_and a.0 us)) ts a.2 in
    let first = lim (item i) a.0 a.1 in
    let rest = trees-limited h child child' lim item (suc i) n b.0 b.1 in
    subst (λ (x : Resources). (child' (item i) >>= λ t. trees child' item (suc i) n >>= λ us. Ok (tree_and t us)) ≡ limited h (trees_height x) x)
    (ok_is (tree_and a.0 b.0) ts (Ok (tree_and a.0 b.0)) refl b.2) (rw (first, rest) (both_limited h (height a.0) (trees_height b.0) a.0 b.0 tree_and))

pub members-limited : (h : ℕ) (child child' : ℕ → Result Resource FileFault) → IsLimited h child child'
    → (item : ℕ → ℕ) (i : ℕ) (ks : List (List ℕ)) (es : Members) → members child item i ks ≡ Ok es → members child' item i ks ≡ limited h (entries_height es) es
unfolding members
members-limited h child child' lim item i [] es e = subst (λ (x : Members). Ok no_entries ≡ limited h (entries_height x) x)
    (ok_is no_entries es (Ok no_entries) refl e) (rw (leb-zero h) refl)
members-limited h child child' lim item i (k ∷ ks) es e =
    let a = bind_ok (child (item i)) (λ t. members child item (suc i) ks >>= λ us. Ok (entry_and k t us)) es e in
    let b = bind_ok (members child item (suc i) ks) (λ us. Ok (entry_and k a.0 us)) es a.2 in
    let first = lim (item i) a.0 a.1 in
    let rest = members-limited h child child' lim item (suc i) ks b.0 b.1 in
    subst (λ (x : Members). (child' (item i) >>= λ t. members child' item (suc i) ks >>= λ us. Ok (entry_and k t us)) ≡ limited h (entries_height x) x)
    (ok_is (entry_and k a.0 b.0) es (Ok (entry_and k a.0 b.0)) refl b.2)
    (rw (first, rest) (both_limited h (height a.0) (entries_height b.0) a.0 b.0 (entry_and k)))

-- ---- a table, an array and an item

pub array-limited : (y : Layout) (body : List ℕ) (h : ℕ) (child child' : ℕ → Result Resource FileFault) → IsLimited h child child' → (o : ℕ) (ts : Resources)
    → array_at y body child o ≡ Ok ts → array_at y body child' o ≡ limited h (trees_height ts) ts
unfolding array_at
array-limited y body h child child' lim o ts e =
    guarded _ _ ts _ _ _ (trees-limited h child child' lim _ 0 _ ts) e

pub table-limited : (y : Layout) (body : List ℕ) (h : ℕ) (child child' : ℕ → Result Resource FileFault) → IsLimited h child child'
    → (place : ℕ → ℕ) (from n : ℕ) (es : Members) → table_of y body child place from n ≡ Ok es
    → table_of y body child' place from n ≡ limited h (entries_height es) es
unfolding table_of
table-limited y body h child child' lim place from n es e =
    guarded _ _ es _ _ _ (λ p.
    let a = bind_ok (keys y body place [] 0 n) (λ ks. members child (λ i. word_at body (from + i)) 0 ks) es p in
    rw a.1 (members-limited h child child' lim _ 0 a.0 es a.2)) e

pub table16-limited : (y : Layout) (body : List ℕ) (h : ℕ) (child child' : ℕ → Result Resource FileFault) → IsLimited h child child' → (o : ℕ) (es : Members)
    → table16_at y body child o ≡ Ok es → table16_at y body child' o ≡ limited h (entries_height es) es
unfolding table16_at
table16-limited y body h child child' lim o es e = table-limited y body h child child' lim _ _ _ es e

pub table32-limited : (y : Layout) (body : List ℕ) (h : ℕ) (child child' : ℕ → Result Resource FileFault) → IsLimited h child child' → (o : ℕ) (es : Members)
    → table32_at y body child o ≡ Ok es → table32_at y body child' o ≡ limited h (entries_height es) es
unfolding table32_at
table32-limited y body h child child' lim o es e = table-limited y body h child child' lim _ _ _ es e

-- a leaf is read at every level
leaf : (h : ℕ) (t s : Resource) (r : Result Resource FileFault) → height s ≡ 1 → s ≡ t → r ≡ Ok t → r ≡ limited (suc h) (height t) t
leaf h t s r one same e =
    let one' : height t ≡ 1 = subst (λ (x : Resource). height x ≡ 1) same one in
    let test : leb (height t) (suc h) ≡ true = grind (arith, nat_tests) in
    rw test e

leaf_map : {A : Type 0} (h : ℕ) (f : A → Resource) (t : Resource) (r : Result A FileFault) → ((x : A) → height (f x) ≡ 1) → result_map f r ≡ Ok t
    → result_map f r ≡ limited (suc h) (height t) t
leaf_map h f t r one e = let a = map_ok f r t e in leaf h t (f a.0) (result_map f r) (one a.0) a.2 e

inner_case : (h k : ℕ) (p : Bool) → leb k h ≡ p → leb (suc k) (suc h) ≡ p
inner_case h k true e = grind (arith, nat_tests)
inner_case h k false e = grind (arith, nat_tests)

inner_test : (h k : ℕ) → leb (suc k) (suc h) ≡ leb k h
inner_test h k = inner_case h k _ refl

map_choice : {A : Type 0} (b : Bool) (f : A → Resource) (x : A) → result_map f (cond b (Ok x) (Err TooDeep)) ≡ cond b (Ok (f x)) (Err TooDeep)
map_choice true f x = refl
map_choice false f x = refl

-- what is one higher than its children is read one level higher
inner : {A : Type 0} (h : ℕ) (f : A → Resource) (size : A → ℕ) (t : Resource) (r r' : Result A FileFault) → ((x : A) → height (f x) ≡ suc (size x))
    → ((x : A) → r ≡ Ok x → r' ≡ limited h (size x) x) → result_map f r ≡ Ok t → result_map f r' ≡ limited (suc h) (height t) t
inner h f size t r r' higher step e =
    let a = map_ok f r t e in
    subst (λ (x : Resource). result_map f r' ≡ limited (suc h) (height x) x) a.2
    (rw (step a.0 a.1, higher a.0, inner_test) (map_choice (leb (size a.0) h) f a.0))

contents-limited : (y : Layout) (body : List ℕ) (h : ℕ) (child child' : ℕ → Result Resource FileFault) → IsLimited h child child'
    → (o : ℕ) (k : ItemKind) (t : Resource) → contents y body child o k ≡ Ok t → contents y body child' o k ≡ limited (suc h) (height t) t
unfolding contents
contents-limited y body h child child' lim o String t e = leaf_map h string t (units y body o) (λ x. refl) e
contents-limited y body h child child' lim o Binary t e = leaf_map h binary t (bytes y body o) (λ x. refl) e
contents-limited y body h child child' lim o Table t e = inner h table entries_height t _ _ (λ x. refl) (table16-limited y body h child child' lim o) e
contents-limited y body h child child' lim o Alias t e = leaf_map h alias t (units y body o) (λ x. refl) e
contents-limited y body h child child' lim o LongTable t e = inner h table entries_height t _ _ (λ x. refl) (table32-limited y body h child child' lim o) e
contents-limited y body h child child' lim o Int t e = leaf h t (int o) (Ok (int o)) refl (ok_is (int o) t (Ok (int o)) refl e) e
contents-limited y body h child child' lim o Array t e = inner h array trees_height t _ _ (λ x. refl) (array-limited y body h child child' lim o) e
contents-limited y body h child child' lim o Ints t e = leaf_map h (λ ns. ints (map (cast_signed w32) ns)) t (numbers y body o) (λ x. refl) e

bare-height : (k : ItemKind) (o : ℕ) → height (bare k o) ≡ 1
bare-height String o = refl
bare-height Binary o = refl
bare-height Table o = refl
bare-height Alias o = refl
bare-height LongTable o = refl
bare-height Int o = refl
bare-height Array o = refl
bare-height Ints o = refl

value-limited : (y : Layout) (body : List ℕ) (h : ℕ) (child child' : ℕ → Result Resource FileFault) → IsLimited h child child'
    → (o : ℕ) (k : ItemKind) (t : Resource) → value y body child o k ≡ Ok t → value y body child' o k ≡ limited (suc h) (height t) t
unfolding value
value-limited y body h child child' lim o k t e =
    let a = bind_ok (within y k o) (λ there. cond there (contents y body child o k) (Ok (bare k o))) t e in
    then_ok (within y k o) a.0 (λ there. cond there (contents y body child' o k) (Ok (bare k o))) a.1
    ∙ follow a.0 (contents y body child o k) (Ok (bare k o)) (Ok t) (contents y body child' o k) (Ok (bare k o)) _
    (contents-limited y body h child child' lim o k t)
    (λ q. leaf h t (bare k o) (Ok (bare k o)) (bare-height k o) (ok_is (bare k o) t (Ok (bare k o)) refl q) q) a.2

pub node-limited : (y : Layout) (body : List ℕ) (h : ℕ) (child child' : ℕ → Result Resource FileFault) → IsLimited h child child' → (item : ℕ) (t : Resource)
    → node y body child item ≡ Ok t → node y body child' item ≡ limited (suc h) (height t) t
unfolding node
node-limited y body h child child' lim item t e =
    let a = bind_ok (kind_or_fault (kind_of item)) (λ k. value y body child (offset_of item) k) t e in
    then_ok (kind_or_fault (kind_of item)) a.0 (λ k. value y body child' (offset_of item) k) a.1
    ∙ value-limited y body h child child' lim (offset_of item) a.0 t a.2

height-pos : (t : Resource) → 0 < height t
height-pos (string x) = omega arith
height-pos (binary x) = omega arith
height-pos (table x) = omega arith
height-pos (alias x) = omega arith
height-pos (int x) = omega arith
height-pos (array x) = omega arith
height-pos (ints x) = omega arith

none_left : (t : Resource) → leb (height t) 0 ≡ false
none_left t = let p = height-pos t in grind (arith, nat_tests)

-- if an item stands for a tree, it stands for it at every level that the tree fits, and at the
-- others it is too deep
pub read-limited : (y : Layout) (body : List ℕ) (d e item : ℕ) (t : Resource) → read y body d item ≡ Ok t → read y body e item ≡ limited e (height t) t
unfolding read
read-limited y body zero e item t p = absurd cc
read-limited y body (suc d) zero item t p = rw (none_left t) refl
read-limited y body (suc d) (suc e) item t p = node-limited y body e _ _ (λ w s q. read-limited y body d e w s q) item t p

fits_level : (h : ℕ) (t : Resource) (b : Bool) → cond {A = Result Resource FileFault} b (Ok t) (Err TooDeep) ≡ Ok t → b ≡ true
fits_level h t true e = refl
fits_level h t false e = absurd cc

-- no tree is higher than the level at which it is read
pub read_height : (y : Layout) (body : List ℕ) (d item : ℕ) (t : Resource) → read y body d item ≡ Ok t → leb (height t) d ≡ true
read_height y body d item t p = fits_level d t (leb (height t) d) (sym (read-limited y body d d item t p) ∙ p)

leb_raise : (h d e : ℕ) → leb h d ≡ true → d ≤ e → leb h e ≡ true
leb_raise h d e p q = grind (arith, nat_tests)

pub read_raise : (y : Layout) (body : List ℕ) (d e item : ℕ) (t : Resource) → read y body d item ≡ Ok t → d ≤ e → read y body e item ≡ Ok t
read_raise y body d e item t p q = read-limited y body d e item t p ∙ rw (leb_raise (height t) d e (read_height y body d item t p) q) refl
