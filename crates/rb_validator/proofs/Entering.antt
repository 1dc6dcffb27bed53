-- Proves the steps of the check, for plain values.
use Rattle.std.proofs.Common.{◌≡◌, ◌≢◌, ℕ, suc, ◌+◌, ◌-◌, ◌<◌, ◌≤◌, max, Bool, true, false, cond, eqb, leb, List, length, set, Some, Result, Ok, Err, refl}
use Rattle.std.proofs.Common.{sym, ap, subst, ◌∙◌, arith}
use Rattle.std.proofs.lemmas.Bool.{le-leb, lt-leb}
use Rattle.std.proofs.lemmas.Bool.Decides.{nat_tests}
use Rattle.rb_tree.specs.Resource.{Resource, Resources, tree_and, height, trees_height}
use Rattle.rb_format.specs.declared.fault.FileFault.{FileFault}
use Rattle.rb_format.specs.declared.fault.FileFault.TheVariants.{TooDeep}
use Rattle.rb_format.specs.declared.kind.ItemKind.{ItemKind}
use Rattle.rb_format.specs.declared.kind.ItemKind.TheVariants.{String, Binary, Table, Alias, LongTable, Int, Array, Ints}
use Rattle.rb_format.specs.declared.layout.Layout.{Layout}
use Rattle.rb_format.specs.Place.{word_at}
use Rattle.rb_format.specs.Item.{kind_of, offset_of, bare}
use Rattle.rb_format.specs.inner.FirstFault.{◌>>=◌, result_map, limited, within, value, read, contents, trees}
use Rattle.rb_format.proofs.Steps.{ok_is}
use Rattle.std.specs.Ordering.{ord_max, nat_cmp}
use Rattle.rb_format.proofs.Levels.{read_height}
use Rattle.rb_format.proofs.Faults.{value_there, read_kind}
use Rattle.rb_validator.specs.declared.items.children.Children.{Children}
use Rattle.rb_validator.specs.declared.items.memo.VisitState.TheVariants.{New, Open, Done}
use Rattle.rb_validator.specs.inner.Marks.{cell, mark_of, mark_at, children_at, IsKnown, IsDone, Keeps, IsMet, After}
use Rattle.rb_format.specs.Geometry.{has_children, first_child}
use Rattle.rb_validator.proofs.Cells.{follows_entry, keeps_set, known_set}
use Rattle.rb_validator.proofs.Shapes.{children_ok, children_there, height_ok}
use Rattle.rb_validator.proofs.Ways.{met_again, met_place, met_child}

-- ---- marks

pub new_is : (x : ℕ) → New ≡ mark_of x → x ≡ 0
new_is x e = by_tests (eqb x 0) (eqb x 65) refl e
  where
    by_tests : (a b : Bool) → eqb x 0 ≡ a → New ≡ cond a New (cond b Open (Done x)) → x ≡ 0
    by_tests true b p e = grind (arith, nat_tests)
    by_tests false true p e = absurd cc
    by_tests false false p e = absurd cc

pub open_is : (x : ℕ) → Open ≡ mark_of x → x ≡ 65
open_is x e = by_tests (eqb x 0) (eqb x 65) refl refl e
  where
    by_tests : (a b : Bool) → eqb x 0 ≡ a → eqb x 65 ≡ b → Open ≡ cond a New (cond b Open (Done x)) → x ≡ 65
    by_tests true b p q e = absurd cc
    by_tests false true p q e = grind (arith, nat_tests)
    by_tests false false p q e = absurd cc

pub done_is : (x h : ℕ) → Done h ≡ mark_of x → (x ≢ 0) × (x ≢ 65) × (x ≡ h)
done_is x h e = by_tests (eqb x 0) (eqb x 65) refl refl e
  where
    by_tests : (a b : Bool) → eqb x 0 ≡ a → eqb x 65 ≡ b → Done h ≡ cond a New (cond b Open (Done x)) → (x ≢ 0) × (x ≢ 65) × (x ≡ h)
    by_tests true b p q e = absurd cc
    by_tests false true p q e = absurd cc
    by_tests false false p q e = (grind (arith, nat_tests), grind (arith, nat_tests), (let s : h ≡ x = cc in sym s))

pub met_done : (y : Layout) (body cells : List ℕ) (left item h : ℕ) (k : ItemKind) → Keeps y body cells → kind_of item ≡ Some k
    → within y k (offset_of item) ≡ Ok true → has_children k ≡ true → Done h ≡ mark_of (mark_at cells k (offset_of item))
    → result_map height (contents y body (λ w. read y body left w) (offset_of item) k) ≡ limited (suc left) h h
met_done y body cells left item h k keeps e w i m =
    let d = done_is (mark_at cells k (offset_of item)) h m in
    met_again y body cells left item h k e w (subst (λ (x : ℕ). IsDone y body cells k (offset_of item) x) d.2 (keeps.done k (offset_of item) i d.0 d.1))

pub limit_fits : (left h : ℕ) → h ≤ left + 1 → limited (suc left) h h ≡ Ok h
limit_fits left h l = let t : leb h (suc left) ≡ true = le-leb h (suc left) (omega arith) in rw t refl

pub limit_passed : (left h : ℕ) → left + 1 < h → limited (suc left) h h ≡ Err TooDeep
limit_passed left h l = let t : leb h (suc left) ≡ false = lt-leb h (suc left) (omega arith) in rw t refl

-- ---- an item

pub bare_height : (k : ItemKind) (o : ℕ) → height (bare k o) ≡ 1
bare_height String o = refl
bare_height Binary o = refl
bare_height Table o = refl
bare_height Alias o = refl
bare_height LongTable o = refl
bare_height Int o = refl
bare_height Array o = refl
bare_height Ints o = refl

pub item_refused : (y : Layout) (body : List ℕ) (left item : ℕ) (k : ItemKind) (d : FileFault) → 0 < left → kind_of item ≡ Some k
    → Err d ≡ within y k (offset_of item) → result_map height (read y body left item) ≡ Err d
unfolding value
item_refused y body left item k d l e f =
    let a = read_kind y body left item k l e in
    ap (result_map height) a ∙ ap (λ (r : Result Bool FileFault). result_map height
    (r >>= λ there. cond there (contents y body (λ w. read y body (left - 1) w) (offset_of item) k) (Ok (bare k (offset_of item))))) (sym f)

pub item_bare : (y : Layout) (body : List ℕ) (left item : ℕ) (k : ItemKind) → 0 < left → kind_of item ≡ Some k → Ok false ≡ within y k (offset_of item)
    → result_map height (read y body left item) ≡ Ok 1
unfolding value
item_bare y body left item k l e f =
    let a = read_kind y body left item k l e in
    ap (result_map height) a ∙ ap (λ (r : Result Bool FileFault). result_map height
    (r >>= λ there. cond there (contents y body (λ w. read y body (left - 1) w) (offset_of item) k) (Ok (bare k (offset_of item))))) (sym f)
    ∙ ap Ok (bare_height k (offset_of item))

pub item_inner : (y : Layout) (body : List ℕ) (left item : ℕ) (k : ItemKind) → 0 < left → kind_of item ≡ Some k → within y k (offset_of item) ≡ Ok true
    → read y body left item ≡ contents y body (λ w. read y body (left - 1) w) (offset_of item) k
item_inner y body left item k l e w = read_kind y body left item k l e ∙ value_there y body (λ w. read y body (left - 1) w) (offset_of item) k true w refl

-- ---- items one by one

abbrev pub above : ℕ → Result Resources FileFault → Result ℕ FileFault
above h r = result_map (λ ts. max h (trees_height ts)) r

pub items_none : (r : Result Resources FileFault) → above 0 r ≡ result_map trees_height r
items_none (Ok ts) = let e : max 0 (trees_height ts) ≡ trees_height ts = omega arith in ap Ok e
items_none (Err d) = refl

pub items_stop : (child : ℕ → Result Resource FileFault) (item : ℕ → ℕ) (i n m h : ℕ) (d : FileFault) (target : Result ℕ FileFault) → n ≡ suc m
    → child (item i) ≡ Err d → above h (trees child item i n) ≡ target → target ≡ Err d
unfolding trees
items_stop child item i n m h d target e f g =
    let whole : above h (trees child item i (suc m)) ≡ target = subst (λ (x : ℕ). above h (trees child item i x) ≡ target) e g in
    sym whole ∙ ap (λ (r : Result Resource FileFault). above h (r >>= λ t. trees child item (suc i) m >>= λ ts. Ok (tree_and t ts))) f

rest_above : (r : Result Resources FileFault) (t : Resource) (h c : ℕ) → height t ≡ c → above h (r >>= λ ts. Ok (tree_and t ts)) ≡ above (max h c) r
rest_above (Ok ts) t h c e = let s : max h (max (height t) (trees_height ts)) ≡ max (max h c) (trees_height ts) = omega arith in ap Ok s
rest_above (Err d) t h c e = refl

pub items_next : (child : ℕ → Result Resource FileFault) (item : ℕ → ℕ) (i n j m h c : ℕ) (t : Resource) (target : Result ℕ FileFault) → n ≡ suc m → j ≡ suc i
    → child (item i) ≡ Ok t → height t ≡ c → above h (trees child item i n) ≡ target → above (max h c) (trees child item j m) ≡ target
unfolding trees
items_next child item i n j m h c t target e f is high g =
    let whole : above h (trees child item i (suc m)) ≡ target = subst (λ (x : ℕ). above h (trees child item i x) ≡ target) e g in
    let next : above (max h c) (trees child item (suc i) m) ≡ target = sym (rest_above (trees child item (suc i) m) t h c high)
    ∙ sym (ap (λ (r : Result Resource FileFault). above h (r >>= λ t. trees child item (suc i) m >>= λ ts. Ok (tree_and t ts))) is) ∙ whole in
    subst (λ (x : ℕ). above (max h c) (trees child item x m) ≡ target) (sym f) next

pub items_end : (child : ℕ → Result Resource FileFault) (item : ℕ → ℕ) (i n h : ℕ) (target : Result ℕ FileFault) → n ≡ 0
    → above h (trees child item i n) ≡ target → Ok h ≡ target
unfolding trees
items_end child item i n h target e g =
    let whole : above h (trees child item i 0) ≡ target = subst (λ (x : ℕ). above h (trees child item i x) ≡ target) e g in
    let none : h ≡ max h 0 = omega arith in
    ap Ok none ∙ whole

-- ---- an entry as a whole

some_height : (r : Result Resources FileFault) (h : ℕ) → Ok h ≡ result_map trees_height r → result_map (λ ts. suc (trees_height ts)) r ≡ Ok (h + 1)
some_height (Ok ts) h e = let s : trees_height ts ≡ h = sym (ok_is h (trees_height ts) e) in let up : suc (trees_height ts) ≡ h + 1 = omega arith in ap Ok up
some_height (Err d) h e = absurd cc

pub some_fault : (r : Result Resources FileFault) (d : FileFault) → Err d ≡ result_map trees_height r → r ≡ Err d
some_fault (Ok ts) d e = absurd cc
some_fault (Err c) d e = cc

pub entered_height : (y : Layout) (body : List ℕ) (child : ℕ → Result Resource FileFault) (k : ItemKind) (o h : ℕ) (c : Children) → has_children k ≡ true
    → Ok c ≡ children_at y body k o → Ok h ≡ result_map trees_height (trees child (λ i. word_at body (c.first + i)) 0 c.count)
    → result_map height (contents y body child o k) ≡ Ok (h + 1)
entered_height y body child k o h c i e f = children_ok y body child k o c i (sym e) ∙ some_height (trees child (λ i. word_at body (c.first + i)) 0 c.count) h f

-- the marks after an entry
pub entered_after : (y : Layout) (body cells mid : List ℕ) (left item : ℕ) (k : ItemKind) (h : ℕ) (c : Children) → Keeps y body cells → IsMet body item
    → kind_of item ≡ Some k → has_children k ≡ true → 0 < offset_of item → cell k (offset_of item) < length cells → mark_at cells k (offset_of item) ≡ 0
    → Ok c ≡ children_at y body k (offset_of item) → Ok h ≡ result_map trees_height
    (trees (λ w. read y body left w) (λ i. word_at body (c.first + i)) 0 c.count) → h + 1 < 65
    → After y body (set cells (cell k (offset_of item)) 65) mid → ((i : ℕ) → i < c.count → IsKnown mid (word_at body (c.first + i)))
    → After y body cells (set mid (cell k (offset_of item)) (h + 1))
entered_after y body cells mid left item k h c keeps met e i full inside fresh there is low a known =
    let p = cell k (offset_of item) in
    let long : length mid ≡ length cells = a.keeps.long ∙ sym keeps.long in
    let inside' : p < length mid = rw long inside in
    let t = height_ok (contents y body (λ w. read y body left w) (offset_of item) k) (h + 1)
    (entered_height y body (λ w. read y body left w) k (offset_of item) h c i there is) in
    let at = children_there y body k (offset_of item) c i (sym there) in
    let more : h + 1 ≢ 0 = omega arith in
    record {
      keeps = keeps_set y body mid k (offset_of item) (h + 1) a.keeps i inside' more (λ n. record {
        tree = t.0;
        level = left;
        is = t.1;
        high = t.2;
        known = λ j q. known_set mid p (h + 1) (word_at body (first_child body k (offset_of item) + j)) more inside'
            (subst (λ (x : ℕ). IsKnown mid (word_at body (x + j))) at.first (known j (rw at.count q)));
      }) (met_place body item k met e full i);
      follows = follows_entry cells mid p (h + 1) inside long fresh (λ z. omega arith) a.follows;
    }

-- the marks when an entry begins
pub opened_keeps : (y : Layout) (body cells : List ℕ) (item : ℕ) (k : ItemKind) → Keeps y body cells → IsMet body item → kind_of item ≡ Some k
    → has_children k ≡ true → 0 < offset_of item → cell k (offset_of item) < length cells → Keeps y body (set cells (cell k (offset_of item)) 65)
opened_keeps y body cells item k keeps met e i full inside = keeps_set y body cells k (offset_of item) 65 keeps i inside (λ z. omega arith)
    (λ n. absurd (n refl)) (met_place body item k met e full i)

pub opened_met : (y : Layout) (body : List ℕ) (item : ℕ) (k : ItemKind) (c : Children) → IsMet body item → kind_of item ≡ Some k → has_children k ≡ true
    → 0 < offset_of item → Ok c ≡ children_at y body k (offset_of item) → (i : ℕ) → i < c.count → IsMet body (word_at body (c.first + i))
opened_met y body item k c met e h full there i l =
    let at = children_there y body k (offset_of item) c h (sym there) in
    subst (λ (x : ℕ). IsMet body (word_at body (x + i))) (sym at.first) (met_child body item k i met e full (rw (← at.count) l))

-- ---- heights

leb_le : (b : Bool) (a d : ℕ) → leb a d ≡ b → b ≡ true → a ≤ d
leb_le true a d e f = grind (arith, nat_tests)
leb_le false a d e f = absurd cc

pub read_low : (y : Layout) (body : List ℕ) (d item : ℕ) (t : Resource) (h : ℕ) → read y body d item ≡ Ok t → height t ≡ h → h ≤ d
read_low y body d item t h e f = subst (λ (x : ℕ). x ≤ d) f (leb_le (leb (height t) d) (height t) d refl (read_height y body d item t e))

pub max_is : (a b : ℕ) → ord_max nat_cmp a b ≡ max a b
max_is a b = grind (arith, nat_tests)
