-- Proves the tree and the height of a table or an array from those of its children.
use Rattle.std.proofs.Common.{◌≡◌, ℕ, suc, ◌+◌, ◌≤◌, max, Bool, true, false, cond, ltb, List, [], ◌∷◌, length, Result, Ok, Err, None, Some, map, refl, ap}
use Rattle.std.proofs.Common.{subst, ◌∙◌}
use Rattle.std.proofs.lemmas.Bool.{ltb-false}
use Rattle.std.specs.Int.{cast_signed, w32}
use Rattle.rb_tree.specs.Resource.{Resource, string, binary, alias, ints, table, array, Resources, tree_and, entry_and, height, trees_height, entries_height}
use Rattle.rb_format.specs.declared.fault.FileFault.{FileFault}
use Rattle.rb_format.specs.declared.fault.FileFault.TheVariants.{Length}
use Rattle.rb_format.specs.declared.kind.ItemKind.{ItemKind}
use Rattle.rb_format.specs.declared.kind.ItemKind.TheVariants.{String, Binary, Table, Alias, LongTable, Int, Array, Ints}
use Rattle.rb_format.specs.declared.layout.Layout.{Layout}
use Rattle.rb_format.specs.Place.{word_at}
use Rattle.rb_format.specs.inner.FirstFault.{◌>>=◌, fault_of, units, bytes, numbers, result_map, trees, members, keys, contents, array_at, table_of, table16_at}
use Rattle.rb_format.specs.inner.FirstFault.{table32_at}
use Rattle.rb_format.proofs.Steps.{bind_ok, ok_is, guard}
use Rattle.rb_format.proofs.Faults.{keys_count}
use Rattle.rb_validator.specs.declared.items.children.Children.{Children}
use Rattle.rb_validator.specs.inner.Marks.{children_at, table_children}
use Rattle.rb_format.specs.Geometry.{has_children, child_count, first_child}

-- the children's heights alone
abbrev pub below : List ℕ → (ℕ → Result Resource FileFault) → Children → Result ℕ FileFault
below body child c = result_map (λ ts. suc (trees_height ts)) (trees child (λ i. word_at body (c.first + i)) 0 c.count)

step_height : {A B : Type 0} (r : Result Resource FileFault) (f : Resource → Result A FileFault) (g : Resource → Result B FileFault) (p : A → ℕ) (q : B → ℕ)
    → ((t : Resource) → result_map p (f t) ≡ result_map q (g t)) → result_map p (r >>= f) ≡ result_map q (r >>= g)
step_height (Ok t) f g p q h = h t
step_height (Err d) f g p q h = refl

rest_height : {A B : Type 0} (n : ℕ) (r : Result A FileFault) (s : Result B FileFault) (p : A → ℕ) (q : B → ℕ) (f : A → A) (g : B → B)
    → ((x : A) → p (f x) ≡ max n (p x)) → ((x : B) → q (g x) ≡ max n (q x)) → result_map p r ≡ result_map q s
    → result_map p (r >>= λ x. Ok (f x)) ≡ result_map q (s >>= λ x. Ok (g x))
rest_height n (Ok x) (Ok y) p q f g u v e = let same : p x ≡ q y = ok_is (p x) (q y) e in rw (u x, v y, same) refl
rest_height n (Ok x) (Err d) p q f g u v e = absurd cc
rest_height n (Err d) (Ok y) p q f g u v e = absurd cc
rest_height n (Err d) (Err c) p q f g u v e = e

-- the entries of a table are as high as its items
members_height : (child : ℕ → Result Resource FileFault) (item : ℕ → ℕ) (i : ℕ) (ks : List (List ℕ))
    → result_map entries_height (members child item i ks) ≡ result_map trees_height (trees child item i (length ks))
unfolding members trees
members_height child item i [] = refl
members_height child item i (k ∷ ks) = step_height (child (item i)) _ _ entries_height trees_height
    (λ t. rest_height (height t) (members child item (suc i) ks) (trees child item (suc i) (length ks)) entries_height trees_height (entry_and k t)
    (tree_and t) (λ x. refl) (λ x. refl) (members_height child item (suc i) ks))

up : {A B : Type 0} (r : Result A FileFault) (s : Result B FileFault) (p : A → ℕ) (q : B → ℕ) → result_map p r ≡ result_map q s
    → result_map (λ x. suc (p x)) r ≡ result_map (λ x. suc (q x)) s
up (Ok x) (Ok y) p q e = let same : p x ≡ q y = ok_is (p x) (q y) e in rw same refl
up (Ok x) (Err d) p q e = absurd cc
up (Err d) (Ok y) p q e = absurd cc
up (Err d) (Err c) p q e = cc

pub twice : {A B C : Type 0} (f : A → B) (g : B → C) (r : Result A FileFault) → result_map g (result_map f r) ≡ result_map (λ x. g (f x)) r
twice f g (Ok x) = refl
twice f g (Err d) = refl

table_ok : (y : Layout) (body : List ℕ) (child : ℕ → Result Resource FileFault) (place : ℕ → ℕ) (from n : ℕ) (c : Children)
    → table_children y body place from n ≡ Ok c → result_map (λ es. suc (entries_height es)) (table_of y body child place from n) ≡ below body child c
unfolding table_of
table_ok y body child place from n c e =
    let a = guard (ltb y.top (from + n)) Length _ c e in
    let b = bind_ok (keys y body place [] 0 n) (λ ks. Ok (record { first = from; count = n })) c a.1 in
    let count = keys_count y body place [] 0 n b.0 b.1 in
    let is : ◌≡◌ {A = Children} (record { first = from; count = n }) c = ok_is (record { first = from; count = n }) c b.2 in
    subst (λ (x : Children). result_map (λ es. suc (entries_height es))
    (cond (ltb y.top (from + n)) (Err Length) (keys y body place [] 0 n >>= λ ks. members child (λ i. word_at body (from + i)) 0 ks)) ≡ below body child
    x) is
    (rw (a.0, b.1) (subst (λ (m : ℕ). result_map (λ es. suc (entries_height es)) (members child (λ i. word_at body (from + i)) 0 b.0) ≡ result_map
    (λ ts. suc (trees_height ts)) (trees child (λ i. word_at body (from + i)) 0 m)) count
    (up _ _ entries_height trees_height (members_height child (λ i. word_at body (from + i)) 0 b.0))))

array_ok : (y : Layout) (body : List ℕ) (child : ℕ → Result Resource FileFault) (o : ℕ) (c : Children)
    → cond (ltb y.top (o + 1 + word_at body o)) (Err Length) (Ok (record { first = o + 1; count = word_at body o })) ≡ Ok c
    → result_map (λ ts. suc (trees_height ts)) (array_at y body child o) ≡ below body child c
unfolding array_at
array_ok y body child o c e =
    let a = guard (ltb y.top (o + 1 + word_at body o)) Length _ c e in
    let is : ◌≡◌ {A = Children} (record { first = o + 1; count = word_at body o }) c = ok_is (record { first = o + 1; count = word_at body o }) c a.1 in
    subst (λ (x : Children). result_map (λ ts. suc (trees_height ts)) (cond (ltb y.top (o + 1 + word_at body o)) (Err Length)
    (trees child (λ i. word_at body (o + 1 + i)) 0 (word_at body o))) ≡ below body child x) is (rw a.0 refl)

-- the height of a table or an array follows from its children
pub children_ok : (y : Layout) (body : List ℕ) (child : ℕ → Result Resource FileFault) (k : ItemKind) (o : ℕ) (c : Children) → has_children k ≡ true
    → children_at y body k o ≡ Ok c → result_map height (contents y body child o k) ≡ below body child c
unfolding children_at contents table16_at table32_at
children_ok y body child String o c h e = absurd cc
children_ok y body child Binary o c h e = absurd cc
children_ok y body child Table o c h e = twice table height _ ∙ table_ok y body child _ _ _ c e
children_ok y body child Alias o c h e = absurd cc
children_ok y body child LongTable o c h e = twice table height _ ∙ table_ok y body child _ _ _ c e
children_ok y body child Int o c h e = absurd cc
children_ok y body child Array o c h e = twice array height _ ∙ array_ok y body child o c e
children_ok y body child Ints o c h e = absurd cc

table_err : (y : Layout) (body : List ℕ) (child : ℕ → Result Resource FileFault) (place : ℕ → ℕ) (from n : ℕ) (d : FileFault)
    → table_children y body place from n ≡ Err d → table_of y body child place from n ≡ Err d
unfolding table_of
table_err y body child place from n d e = by_test (ltb y.top (from + n)) e
  where
    then_err : {A B : Type 0} (r : Result (List (List ℕ)) FileFault) (f : List (List ℕ) → A) (g : List (List ℕ) → Result B FileFault)
        → (r >>= λ x. Ok (f x)) ≡ Err d → (r >>= g) ≡ Err d
    then_err (Ok x) f g e = absurd cc
    then_err (Err a) f g e = cc

    by_test : (b : Bool) → ◌≡◌ {A = Result Children FileFault} (cond b (Err Length)
        (keys y body place [] 0 n >>= λ ks. Ok (record { first = from; count = n }))) (Err d)
        → cond b (Err Length) (keys y body place [] 0 n >>= λ ks. members child (λ i. word_at body (from + i)) 0 ks) ≡ Err d
    by_test true e = cc
    by_test false e = then_err (keys y body place [] 0 n) (λ ks. record { first = from; count = n }) _ e

array_err : (y : Layout) (body : List ℕ) (child : ℕ → Result Resource FileFault) (o : ℕ) (c : Children) (d : FileFault)
    → cond (ltb y.top (o + 1 + word_at body o)) (Err Length) (Ok c) ≡ Err d → array_at y body child o ≡ Err d
unfolding array_at
array_err y body child o c d e = by_test (ltb y.top (o + 1 + word_at body o)) _ e
  where
    by_test : (b : Bool) (r : Result Resources FileFault) → cond {A = Result Children FileFault} b (Err Length) (Ok c) ≡ Err d → cond b (Err Length) r ≡ Err d
    by_test true r e = cc
    by_test false r e = absurd cc

-- the fault of a table or an array itself
pub children_err : (y : Layout) (body : List ℕ) (child : ℕ → Result Resource FileFault) (k : ItemKind) (o : ℕ) (d : FileFault) → has_children k ≡ true
    → children_at y body k o ≡ Err d → contents y body child o k ≡ Err d
unfolding children_at contents table16_at table32_at
children_err y body child String o d h e = absurd cc
children_err y body child Binary o d h e = absurd cc
children_err y body child Table o d h e = ap (result_map table) (table_err y body child _ _ _ d e)
children_err y body child Alias o d h e = absurd cc
children_err y body child LongTable o d h e = ap (result_map table) (table_err y body child _ _ _ d e)
children_err y body child Int o d h e = absurd cc
children_err y body child Array o d h e = ap (result_map array) (array_err y body child o _ d e)
children_err y body child Ints o d h e = absurd cc

-- where the children are, and that they are below the top
pub record IsThere (y : Layout) (body : List ℕ) (k : ItemKind) (o : ℕ) (c : Children) : Type 0 where
  pub first : c.first ≡ first_child body k o
  pub count : c.count ≡ child_count body k o
  pub low : c.first + c.count ≤ y.top

there : (y : Layout) (body : List ℕ) (k : ItemKind) (o from n : ℕ) (c : Children) → from ≡ first_child body k o → n ≡ child_count body k o → from + n ≤ y.top
    → ◌≡◌ {A = Children} (record { first = from; count = n }) c → IsThere y body k o c
there y body k o from n c p q l is = subst (λ (x : Children). IsThere y body k o x) is (record { first = p; count = q; low = l })

table_there : (y : Layout) (body : List ℕ) (k : ItemKind) (o : ℕ) (place : ℕ → ℕ) (from n : ℕ) (c : Children) → from ≡ first_child body k o
    → n ≡ child_count body k o → table_children y body place from n ≡ Ok c → IsThere y body k o c
table_there y body k o place from n c p q e =
    let a = guard (ltb y.top (from + n)) Length _ c e in
    let b = bind_ok (keys y body place [] 0 n) (λ ks. Ok (record { first = from; count = n })) c a.1 in
    there y body k o from n c p q (ltb-false _ _ a.0) (ok_is (record { first = from; count = n }) c b.2)

pub children_there : (y : Layout) (body : List ℕ) (k : ItemKind) (o : ℕ) (c : Children) → has_children k ≡ true → children_at y body k o ≡ Ok c
    → IsThere y body k o c
unfolding children_at
children_there y body String o c h e = absurd cc
children_there y body Binary o c h e = absurd cc
children_there y body Table o c h e = table_there y body Table o _ _ _ c refl refl e
children_there y body Alias o c h e = absurd cc
children_there y body LongTable o c h e = table_there y body LongTable o _ _ _ c refl refl e
children_there y body Int o c h e = absurd cc
children_there y body Array o c h e =
    let a = guard (ltb y.top (o + 1 + word_at body o)) Length _ c e in
    there y body Array o (o + 1) (word_at body o) c refl refl (ltb-false _ _ a.0) (ok_is (record { first = o + 1; count = word_at body o }) c a.1)
children_there y body Ints o c h e = absurd cc

-- ---- a value without children

leaf_one : {A : Type 0} (f : A → Resource) (r : Result A FileFault) → ((x : A) → height (f x) ≡ 1) → fault_of (result_map f r) ≡ None
    → result_map height (result_map f r) ≡ Ok 1
leaf_one f (Ok x) h e = ap Ok (h x)
leaf_one f (Err d) h e = absurd cc

pub leaf_height : (y : Layout) (body : List ℕ) (child : ℕ → Result Resource FileFault) (o : ℕ) (k : ItemKind) → has_children k ≡ false
    → fault_of (contents y body child o k) ≡ None → result_map height (contents y body child o k) ≡ Ok 1
unfolding contents
leaf_height y body child o String h e = leaf_one string (units y body o) (λ x. refl) e
leaf_height y body child o Binary h e = leaf_one binary (bytes y body o) (λ x. refl) e
leaf_height y body child o Table h e = absurd cc
leaf_height y body child o Alias h e = leaf_one alias (units y body o) (λ x. refl) e
leaf_height y body child o LongTable h e = absurd cc
leaf_height y body child o Int h e = refl
leaf_height y body child o Array h e = absurd cc
leaf_height y body child o Ints h e = leaf_one (λ ns. ints (map (cast_signed w32) ns)) (numbers y body o) (λ x. refl) e

pub fault_height : (r : Result Resource FileFault) (d : FileFault) → fault_of r ≡ Some d → result_map height r ≡ Err d
fault_height (Ok t) d e = absurd cc
fault_height (Err c) d e = cc

pub err_height : (r : Result Resource FileFault) (d : FileFault) → r ≡ Err d → result_map height r ≡ Err d
err_height r d e = ap (result_map height) e

pub height_err : (r : Result Resource FileFault) (d : FileFault) → result_map height r ≡ Err d → r ≡ Err d
height_err (Ok t) d e = absurd cc
height_err (Err c) d e = cc

pub height_ok : (r : Result Resource FileFault) (h : ℕ) → result_map height r ≡ Ok h → (t : Resource) × (r ≡ Ok t) × (height t ≡ h)
height_ok (Ok t) h e = (t, refl, ok_is (height t) h e)
height_ok (Err d) h e = absurd cc

-- children that are too deep, or refused for another fault
pub children_fault : (y : Layout) (body : List ℕ) (child : ℕ → Result Resource FileFault) (k : ItemKind) (o : ℕ) (c : Children) (d : FileFault)
    → has_children k ≡ true → children_at y body k o ≡ Ok c → trees child (λ i. word_at body (c.first + i)) 0 c.count ≡ Err d
    → contents y body child o k ≡ Err d
children_fault y body child k o c d h e f = height_err _ d (children_ok y body child k o c h e ∙ ap (result_map (λ ts. suc (trees_height ts))) f)
