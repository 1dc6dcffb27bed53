-- Items on the way: what an item's level says of its data, and what an open pair says of what is met below it.
use Rattle.std.proofs.Common.{◌≡◌, ℕ, zero, suc, ◌+◌, ◌<◌, ◌≤◌, Bool, true, false, cond, leb, List, ◌∷◌, length, set, Some, Result, Ok, Err, refl, sym, ap}
use Rattle.std.proofs.Common.{subst, ◌∙◌, arith, inl, inr, get_or-set_other}
use Rattle.std.proofs.lemmas.Bool.{cases_eq}
use Rattle.rb_tree.specs.Resource.{Resource, Resources, tree_and, height}
use Rattle.rb_format.specs.declared.fault.FileFault.{FileFault}
use Rattle.rb_format.specs.declared.fault.FileFault.TheVariants.{TooDeep}
use Rattle.rb_format.specs.declared.kind.ItemKind.{ItemKind}
use Rattle.rb_format.specs.declared.layout.Layout.{Layout}
use Rattle.rb_format.specs.Place.{word_at}
use Rattle.rb_format.specs.Item.{kind_of, offset_of}
use Rattle.rb_format.specs.inner.FirstFault.{◌>>=◌, result_map, limited, kind_or_fault, within, value, node, read, contents, trees}
use Rattle.rb_format.proofs.Steps.{then_ok}
use Rattle.rb_format.proofs.Faults.{value_there}
use Rattle.rb_format.proofs.Levels.{read-limited}
use Rattle.rb_validator.specs.declared.items.children.Children.{Children}
use Rattle.rb_validator.specs.inner.Marks.{cell, mark_at, children_at, IsDone, Leads, IsMet}
use Rattle.rb_format.specs.Geometry.{has_children, child_count, first_child}
use Rattle.rb_validator.specs.Visits.{IsPlace}
use Rattle.rb_validator.proofs.Cells.{cell_is}
use Rattle.rb_validator.proofs.Shapes.{children_fault}

-- ---- an item and its data

pub read_none : (y : Layout) (body : List ℕ) (item : ℕ) → read y body 0 item ≡ Err TooDeep
unfolding read
read_none y body item = refl

-- an item with data, one level above its children
pub read_data_of : (y : Layout) (body : List ℕ) (d item : ℕ) (k : ItemKind) → kind_of item ≡ Some k → within y k (offset_of item) ≡ Ok true
    → read y body (suc d) item ≡ contents y body (λ w. read y body d w) (offset_of item) k
unfolding read node
read_data_of y body d item k e h =
    then_ok (kind_or_fault (kind_of item)) k (λ j. value y body (λ w. read y body d w) (offset_of item) j) (ap kind_or_fault e)
    ∙ value_there y body (λ w. read y body d w) (offset_of item) k true h refl

limited_height : (b : Bool) (t : Resource) (h : ℕ) → height t ≡ h → result_map height (cond {A = Result Resource FileFault} b (Ok t) (Err TooDeep)) ≡ cond b
    (Ok h) (Err TooDeep)
limited_height true t h e = ap Ok e
limited_height false t h e = refl

-- a pair that is finished stands for its tree wherever its height fits
pub met_again : (y : Layout) (body cells : List ℕ) (left item h : ℕ) (k : ItemKind) → kind_of item ≡ Some k → within y k (offset_of item) ≡ Ok true
    → IsDone y body cells k (offset_of item) h
    → result_map height (contents y body (λ w. read y body left w) (offset_of item) k) ≡ limited (suc left) h h
met_again y body cells left item h k e w d =
    let first : read y body (suc d.level) item ≡ Ok d.tree = read_data_of y body d.level item k e w ∙ d.is in
    let again = read-limited y body (suc d.level) (suc left) item d.tree first in
    let same : contents y body (λ w. read y body left w) (offset_of item) k ≡ limited (suc left) (height d.tree) d.tree =
    sym (read_data_of y body left item k e w) ∙ again in
    ap (result_map height) same ∙ limited_height (leb (height d.tree) (suc left)) d.tree h d.high
    ∙ ap (λ (x : ℕ). cond {A = Result ℕ FileFault} (leb x (suc left)) (Ok h) (Err TooDeep)) d.high

-- ---- ways

pub met_child : (body : List ℕ) (item : ℕ) (k : ItemKind) (i : ℕ) → IsMet body item → kind_of item ≡ Some k → 0 < offset_of item
    → i < child_count body k (offset_of item) → IsMet body (word_at body (first_child body k (offset_of item) + i))
met_child body item k i m e f l = record { before = item ∷ m.before; way = (record { kind = k; i = i; is_kind = e; full = f; counted = l; is = refl }, m.way) }

pub met_place : (body : List ℕ) (item : ℕ) (k : ItemKind) → IsMet body item → kind_of item ≡ Some k → 0 < offset_of item → has_children k ≡ true
    → IsPlace body k (offset_of item)
met_place body item k m e f h = record { before = m.before; item = item; way = m.way; is_kind = e; is_offset = refl; full = f; inner = h }

-- ---- open pairs

pub leads_map : (y : Layout) (body cells : List ℕ) (P Q : ℕ → Type 0) → ((e : ℕ) → Q e → P e) → Leads y body cells P → Leads y body cells Q
leads_map y body cells P Q f l = record { at = λ k o h m e. let a = l.at k o h m e in (a.0, a.1, λ q. a.2 (f a.0 q)) }

abbrev ItemDeep : Layout → List ℕ → ℕ → ℕ → Type 0
ItemDeep y body item e = read y body e item ≡ Err TooDeep

abbrev ItemsDeep : Layout → List ℕ → (ℕ → ℕ) → ℕ → ℕ → ℕ → Type 0
ItemsDeep y body item i n e = trees (λ w. read y body e w) item i n ≡ Err TooDeep

-- a pair that is met below itself is too deep at every level
cycle_below : (y : Layout) (body cells : List ℕ) (item : ℕ) (k : ItemKind) → Leads y body cells (ItemDeep y body item) → kind_of item ≡ Some k
    → within y k (offset_of item) ≡ Ok true → has_children k ≡ true → mark_at cells k (offset_of item) ≡ 65 → (n e : ℕ) → e < n
    → contents y body (λ w. read y body e w) (offset_of item) k ≡ Err TooDeep
cycle_below y body cells item k l s w h m zero e p = absurd (omega arith)
cycle_below y body cells item k l s w h m (suc n) e p =
    let a = l.at k (offset_of item) h m e in
    let lower = λ (d : ℕ) (q : suc d ≤ e). cycle_below y body cells item k l s w h m n d (omega arith) in
    a.2 (deep a.0 a.1 lower)
  where
    deep : (d : ℕ) → d ≤ e → ((d : ℕ) → suc d ≤ e → contents y body (λ w. read y body d w) (offset_of item) k ≡ Err TooDeep) → ItemDeep y body item d
    deep zero q f = read_none y body item
    deep (suc d) q f = read_data_of y body d item k s w ∙ f d q

pub cycle_deep : (y : Layout) (body cells : List ℕ) (left item : ℕ) (k : ItemKind) → Leads y body cells (λ e. read y body e item ≡ Err TooDeep)
    → kind_of item ≡ Some k → within y k (offset_of item) ≡ Ok true → has_children k ≡ true → mark_at cells k (offset_of item) ≡ 65
    → contents y body (λ w. read y body left w) (offset_of item) k ≡ Err TooDeep
cycle_deep y body cells left item k l s w h m = cycle_below y body cells item k l s w h m (suc left) left (omega arith)

-- from an item to its children, when its own pair is opened
pub leads_children : (y : Layout) (body cells : List ℕ) (item : ℕ) (k : ItemKind) (c : Children) → Leads y body cells (λ e. read y body e item ≡ Err TooDeep)
    → kind_of item ≡ Some k → within y k (offset_of item) ≡ Ok true → has_children k ≡ true → cell k (offset_of item) < length cells
    → children_at y body k (offset_of item) ≡ Ok c
    → Leads y body (set cells (cell k (offset_of item)) 65) (λ e. trees (λ w. read y body e w) (λ i. word_at body (c.first + i)) 0 c.count ≡ Err TooDeep)
leads_children y body cells item k c l s w h inside there = record {
  at = λ j o g m e. elim (cases_eq (cell j o) (cell k (offset_of item))) [
    | inl q ↦
        let same = cell_is j k o (offset_of item) g h q in
        (e, omega arith, λ f. rw (same.0, same.1) (children_fault y body (λ w. read y body e w) k (offset_of item) c TooDeep h there f))
    | inr ne ↦
        let was : mark_at cells j o ≡ 65 = sym (get_or-set_other cells (cell k (offset_of item)) (cell j o) 65 0 ne) ∙ m in
        let a = l.at j o g was e in
        down j o e a.0 a.1 a.2
  ];
}
  where
    down : (j : ItemKind) (o e d : ℕ) → d ≤ e → (ItemDeep y body item d → contents y body (λ w. read y body e w) o j ≡ Err TooDeep)
        → (d : ℕ) × (d ≤ e) × (ItemsDeep y body (λ i. word_at body (c.first + i)) 0 c.count d → contents y body (λ w. read y body e w) o j ≡ Err TooDeep)
    down j o e zero p f = (0, p, λ q. f (read_none y body item))
    down j o e (suc d) p f = (
      d,
      omega arith,
      λ q. f (read_data_of y body d item k s w
          ∙ children_fault y body (λ w. read y body d w) k (offset_of item) c TooDeep h there q),
    )

first_err : {A B : Type 0} (r : Result A FileFault) (f : A → Result B FileFault) (d : FileFault) → r ≡ Err d → (r >>= f) ≡ Err d
first_err (Ok x) f d e = absurd cc
first_err (Err c) f d e = cc

-- from several items to the first of them
pub leads_first : (y : Layout) (body cells : List ℕ) (item : ℕ → ℕ) (i n m : ℕ) → n ≡ suc m
    → Leads y body cells (λ e. trees (λ w. read y body e w) item i n ≡ Err TooDeep) → Leads y body cells (λ e. read y body e (item i) ≡ Err TooDeep)
unfolding trees
leads_first y body cells item i n m e l =
    leads_map y body cells _ _ (λ d q. rw e (first_err (read y body d (item i))
    (λ t. trees (λ w. read y body d w) item (suc i) m >>= λ ts. Ok (tree_and t ts)) TooDeep q)) l

later_deep : (b : Bool) (t : Resource) (r : Result Resources FileFault) → r ≡ Err TooDeep
    → (cond {A = Result Resource FileFault} b (Ok t) (Err TooDeep) >>= λ u. r >>= λ ts. Ok (tree_and u ts)) ≡ Err TooDeep
later_deep true t r e = first_err r _ TooDeep e
later_deep false t r e = refl

-- past an item that stands for a tree
pub leads_next : (y : Layout) (body cells : List ℕ) (left : ℕ) (item : ℕ → ℕ) (i n j m : ℕ) (t : Resource) → n ≡ suc m → j ≡ suc i
    → read y body left (item i) ≡ Ok t → Leads y body cells (λ e. trees (λ w. read y body e w) item i n ≡ Err TooDeep)
    → Leads y body cells (λ e. trees (λ w. read y body e w) item j m ≡ Err TooDeep)
unfolding trees
leads_next y body cells left item i n j m t e f g l =
    leads_map y body cells _ _ (λ d q. rw (e, read-limited y body left d (item i) t g)
    (later_deep (leb (height t) d) t _ (subst (λ (x : ℕ). trees (λ w. read y body d w) item x m ≡ Err TooDeep) f q))) l
