-- The reading with faults and the plain one agree on what an item denotes.
use Rattle.std.proofs.Common.{◌≡◌, ℕ, zero, suc, ◌+◌, ◌*◌, ◌≤◌, Bool, true, false, cond, ltb, leb, List}
use Rattle.std.proofs.Common.{[], ◌∷◌, map, Result, Ok, Err, Option, Some, None, refl, sym, ap, ◌∙◌, arith}
use Rattle.std.proofs.lemmas.Bool.Decides.{nat_tests}
use Rattle.std.specs.Prelude.{option_map, ◌==◌, ◌&&◌}
use Rattle.std.specs.Ordering.{is_lt, nat_cmp}
use Rattle.std.specs.Cmp.Lexicographic.{slice_cmp}
use Rattle.std.specs.Int.{cast_signed, w32}
use Rattle.rb_format.specs.declared.fault.FileFault.{FileFault}
use Rattle.rb_format.specs.declared.fault.FileFault.TheVariants.{TooDeep, Length, Offset, NotTerminated, KeyOrder}
use Rattle.rb_format.specs.declared.layout.Layout.{Layout}
use Rattle.rb_format.specs.declared.kind.ItemKind.{ItemKind}
use Rattle.rb_format.specs.declared.kind.ItemKind.TheVariants.{String, Binary, Table, Alias, LongTable, Int, Array, Ints}
use Rattle.rb_tree.specs.Resource.{Resource, string, binary, table, alias, array, ints, height}
use Rattle.rb_format.specs.Place.{word_at, half_at, key}
use Rattle.rb_format.specs.inner.FirstFault.{◌>>=◌, result_map, trees, node, read, contents, value, kind_or_fault, units, bytes}
use Rattle.rb_format.specs.inner.FirstFault.{numbers, array_at, table_of, table16_at, table32_at, next_key, keys, members, key_or_fault}
use Rattle.rb_format.specs.Item.{has_data, bare, kind_of, offset_of}
use Rattle.rb_format.specs.Denotation.{where_holds, ◌>>?◌, trees_at, keys_at, members_at, table_at, units_at, value_at, item_at, tree_at}
use Rattle.rb_format.proofs.Levels.{read-limited, read_raise}

-- what was read, if there is no fault
abbrev pub ok_part : {A : Type 0} → Result A FileFault → Option A
ok_part (Ok x) = Some x
ok_part (Err e) = None

agree_then : {A B : Type 0} (r : Result A FileFault) (o : Option A) (f : A → Result B FileFault) (g : A → Option B) → ok_part r ≡ o
    → ((x : A) → ok_part (f x) ≡ g x) → ok_part (r >>= f) ≡ (o >>? g)
agree_then (Ok x) o f g e h = h x ∙ ap (λ m. m >>? g) e
agree_then (Err d) o f g e h = ap (λ m. m >>? g) e

pub agree_map : {A B : Type 0} (f : A → B) (r : Result A FileFault) (o : Option A) → ok_part r ≡ o → ok_part (result_map f r) ≡ option_map f o
agree_map f (Ok x) o e = ap (option_map f) e
agree_map f (Err d) o e = ap (option_map f) e

refused : {A : Type 0} (b p : Bool) (d : FileFault) (r : Result A FileFault) (o : Option A) → (b ≡ true → p ≡ false) → (b ≡ false → p ≡ true) → ok_part r ≡ o
    → ok_part (cond b (Err d) r) ≡ where_holds p o
refused true p d r o f g e = ap (λ q. where_holds q o) (sym (f refl))
refused false p d r o f g e = e ∙ ap (λ q. where_holds q o) (sym (g refl))

accepted : {A : Type 0} (b : Bool) (d : FileFault) (r : Result A FileFault) (o : Option A) → ok_part r ≡ o → ok_part (cond b r (Err d)) ≡ where_holds b o
accepted true d r o e = e
accepted false d r o e = refl

not_less : (a b : ℕ) → ltb a b ≡ true → leb b a ≡ false
not_less a b e = grind (arith, nat_tests)

no_less : (a b : ℕ) → ltb a b ≡ false → leb b a ≡ true
no_less a b e = grind (arith, nat_tests)

above : {A : Type 0} (a b : ℕ) (d : FileFault) (r : Result A FileFault) (o : Option A) → ok_part r ≡ o
    → ok_part (cond (ltb a b) (Err d) r) ≡ where_holds (leb b a) o
above a b d r o e = refused (ltb a b) (leb b a) d r o (not_less a b) (no_less a b) e

trees_agree : (child : ℕ → Result Resource FileFault) (child' : ℕ → Option Resource) → ((w : ℕ) → ok_part (child w) ≡ child' w) → (item : ℕ → ℕ) (i n : ℕ)
    → ok_part (trees child item i n) ≡ trees_at child' item i n
unfolding trees
trees_agree child child' c item i zero = refl
trees_agree child child' c item i (suc n) = agree_then (child (item i)) _ _ _ (c (item i))
    (λ t. agree_then (trees child item (suc i) n) _ _ _ (trees_agree child child' c item (suc i) n) (λ ts. refl))

members_agree : (child : ℕ → Result Resource FileFault) (child' : ℕ → Option Resource) → ((w : ℕ) → ok_part (child w) ≡ child' w)
    → (item : ℕ → ℕ) (i : ℕ) (ks : List (List ℕ)) → ok_part (members child item i ks) ≡ members_at child' item i ks
unfolding members
members_agree child child' c item i [] = refl
members_agree child child' c item i (k ∷ ks) = agree_then (child (item i)) _ _ _ (c (item i))
    (λ t. agree_then (members child item (suc i) ks) _ _ _ (members_agree child child' c item (suc i) ks) (λ es. refl))

-- a key that was taken, and then what follows it
then_where : {B : Type 0} (b : Bool) (k : List ℕ) (f : List ℕ → Result B FileFault) (o : Option B) → ok_part (f k) ≡ o
    → ok_part (cond {A = Result (List ℕ) FileFault} b (Ok k) (Err KeyOrder) >>= f) ≡ where_holds b o
then_where true k f o e = e
then_where false k f o e = refl

next_then : {B : Type 0} (m : Option (List ℕ)) (test : List ℕ → Bool) (f : List ℕ → Result B FileFault) (g : List ℕ → Option B)
    → ((k : List ℕ) → ok_part (f k) ≡ g k) → ok_part ((key_or_fault m >>= λ k. cond (test k) (Ok k) (Err KeyOrder)) >>= f) ≡
    (m >>? λ k. where_holds (test k) (g k))
next_then None test f g h = refl
next_then (Some k) test f g h = then_where (test k) k f (g k) (h k)

keys_agree : (y : Layout) (body : List ℕ) (place : ℕ → ℕ) (last : List ℕ) (i n : ℕ) → ok_part (keys y body place last i n) ≡ keys_at y body place last i n
unfolding keys next_key
keys_agree y body place last i zero = refl
keys_agree y body place last i (suc n) = next_then (key y body (place i)) (λ k. is_lt (slice_cmp nat_cmp last k)) _ _
    (λ k. agree_then (keys y body place k (suc i) n) _ _ _ (keys_agree y body place k (suc i) n) (λ ks. refl))

table_agree : (y : Layout) (body : List ℕ) (child : ℕ → Result Resource FileFault) (child' : ℕ → Option Resource) → ((w : ℕ) → ok_part (child w) ≡ child' w)
    → (place : ℕ → ℕ) (from n : ℕ) → ok_part (table_of y body child place from n) ≡ table_at y body child' place from n
unfolding table_of
table_agree y body child child' c place from n = above _ _ Length _ _
    (agree_then (keys y body place [] 0 n) _ _ _ (keys_agree y body place [] 0 n) (λ ks. members_agree child child' c _ 0 ks))

units_agree : (y : Layout) (body : List ℕ) (o : ℕ) → ok_part (units y body o) ≡ units_at y body o
unfolding units
units_agree y body o = above _ _ Length _ _ (accepted (half_at body (2 * o + 2 + word_at body o) == 0) NotTerminated _ _ refl)

map_where : {A B : Type 0} (b : Bool) (f : A → B) (o : Option A) → option_map f (where_holds b o) ≡ where_holds b (option_map f o)
map_where true f o = refl
map_where false f o = refl

contents_agree : (y : Layout) (body : List ℕ) (child : ℕ → Result Resource FileFault) (child' : ℕ → Option Resource) → ((w : ℕ) → ok_part (child w) ≡ child' w)
    → (o : ℕ) (k : ItemKind) → ok_part (contents y body child o k) ≡ value_at y body child' o k
unfolding contents bytes numbers array_at table16_at table32_at
contents_agree y body child child' c o String = agree_map string _ _ (units_agree y body o)
contents_agree y body child child' c o Binary = agree_map binary _ _ (above _ _ Length _ _ refl) ∙ map_where _ binary _
contents_agree y body child child' c o Table = agree_map table _ _ (table_agree y body child child' c _ _ _)
contents_agree y body child child' c o Alias = agree_map alias _ _ (units_agree y body o)
contents_agree y body child child' c o LongTable = agree_map table _ _ (table_agree y body child child' c _ _ _)
contents_agree y body child child' c o Int = refl
contents_agree y body child child' c o Array = agree_map array _ _ (above _ _ Length _ _ (trees_agree child child' c _ 0 _)) ∙ map_where _ array _
contents_agree y body child child' c o Ints = agree_map (λ ns. ints (map (cast_signed w32) ns)) _ _ (above _ _ Length _ _ refl)
    ∙ map_where _ (λ ns. ints (map (cast_signed w32) ns)) _

value_by : (kt top o : ℕ) (data_there low high : Bool) (r bare_is : Result Resource FileFault) (v b : Option Resource) → ltb o kt ≡ low → ltb o top ≡ high
    → ok_part r ≡ v → ok_part bare_is ≡ b
    → ok_part ((cond {A = Result Bool FileFault} data_there (cond low (Err Offset) (cond high (Ok true) (Err Offset))) (Ok false)) >>= λ there. cond there r
    bare_is) ≡ cond data_there (where_holds (leb kt o && high) v) b
value_by kt top o false low high r bare_is v b p q e f = f
value_by kt top o true true high r bare_is v b p q e f = let t : leb kt o ≡ false = not_less o kt p in rw t refl
value_by kt top o true false true r bare_is v b p q e f = let t : leb kt o ≡ true = no_less o kt p in rw t e
value_by kt top o true false false r bare_is v b p q e f = let t : leb kt o ≡ true = no_less o kt p in rw t refl

value_agree : (y : Layout) (body : List ℕ) (child : ℕ → Result Resource FileFault) (child' : ℕ → Option Resource) → ((w : ℕ) → ok_part (child w) ≡ child' w)
    → (o : ℕ) (k : ItemKind) → ok_part (value y body child o k) ≡ item_at y body child' o k
unfolding value
value_agree y body child child' c o k = value_by y.keys_top y.top o (has_data k o) (ltb o y.keys_top) (ltb o y.top) (contents y body child o k) (Ok (bare k o))
    (value_at y body child' o k) (Some (bare k o)) refl refl (contents_agree y body child child' c o k) refl

kind_agree : (m : Option ItemKind) → ok_part (kind_or_fault m) ≡ m
kind_agree None = refl
kind_agree (Some k) = refl

-- the tree that an item denotes is the plain one
pub read_agrees : (y : Layout) (body : List ℕ) (d item : ℕ) → ok_part (read y body d item) ≡ tree_at y body d item
unfolding read node tree_at
read_agrees y body zero item = refl
read_agrees y body (suc d) item = agree_then (kind_or_fault (kind_of item)) (kind_of item) _ _ (kind_agree (kind_of item))
    (λ k. value_agree y body (λ w. read y body d w) (λ w. tree_at y body d w) (λ w. read_agrees y body d w) (offset_of item) k)

-- the level law in both forms
limit_agrees : (b : Bool) (t : Resource) → ok_part (cond {A = Result Resource FileFault} b (Ok t) (Err TooDeep)) ≡ cond b (Some t) None
limit_agrees true t = refl
limit_agrees false t = refl

pub read_is : (r : Result Resource FileFault) (t : Resource) → ok_part r ≡ Some t → r ≡ Ok t
read_is (Ok u) t e = cc
read_is (Err d) t e = absurd cc

pub plain_limited : (y : Layout) (body : List ℕ) (d e item : ℕ) (t : Resource) → tree_at y body d item ≡ Some t
    → tree_at y body e item ≡ cond (leb (height t) e) (Some t) None
plain_limited y body d e item t p =
    sym (read_agrees y body e item) ∙ ap ok_part (read-limited y body d e item t (read_is (read y body d item) t (read_agrees y body d item ∙ p)))
    ∙ limit_agrees (leb (height t) e) t

pub plain_raise : (y : Layout) (body : List ℕ) (d e item : ℕ) (t : Resource) → tree_at y body d item ≡ Some t → d ≤ e → tree_at y body e item ≡ Some t
plain_raise y body d e item t p q =
    sym (read_agrees y body e item) ∙ ap ok_part (read_raise y body d e item t (read_is (read y body d item) t (read_agrees y body d item ∙ p)) q)
