-- Items stand for what was written.
use Rattle.rb_writer.specs.declared.area.KeyArea.{KeyArea}
use Rattle.std.proofs.Common.{◌≡◌, ℕ, zero, suc, ◌+◌, ◌*◌, ◌/◌, ◌≤◌, ℤ, true, false, ltb, List, [], ◌∷◌, ◌++◌}
use Rattle.std.proofs.Common.{length, get_or, drop, map, Some, Result, Ok, Err, refl, sym, ap, subst, ◌∙◌, arith, inl, inr}
use Rattle.std.proofs.lemmas.Bool.{le-ltb, lt-ltb, cases_eq}
use Rattle.std.proofs.lemmas.List.{get_or_push, get_or_append_left, length_push}
use Rattle.std.specs.Prelude.{slice_get}
use Rattle.std.specs.Int.{cast_signed, w32}
use Rattle.rb_tree.specs.Resource.{Resource, string, int, ints, binary, alias, array, table}
use Rattle.rb_tree.specs.Resource.{Resources, no_trees, tree_and, Members, no_entries, entry_and, height}
use Rattle.rb_tree.specs.Parts.{children_of}
use Rattle.rb_tree.specs.Keys.{items, pairs}
use Rattle.rb_tree.specs.View.{view_of}
use Rattle.rb_tree.specs.declared.tree.Tree.{Tree}
use Rattle.rb_tree.specs.declared.tree.Tree.TheVariants as trees
use Rattle.std.specs.Map.{values_of}
use Rattle.rb_format.specs.declared.fault.FileFault.{FileFault}
use Rattle.rb_format.specs.declared.layout.Layout.{Layout}
use Rattle.rb_format.specs.declared.kind.ItemKind.{ItemKind}
use Rattle.rb_format.specs.declared.kind.ItemKind.TheVariants as kinds
use Rattle.rb_format.proofs.Growing.{Grows}
use Rattle.rb_format.specs.inner.FirstFault.{units, bytes, numbers, result_map, node, value, contents, read, kind_or_fault}
use Rattle.rb_format.specs.Item.{has_data, bare, kind_of, offset_of}
use Rattle.rb_format.proofs.Grows.{read_grow, key_same}
use Rattle.rb_writer.specs.inner.Growth.{Adds, IsDraft, draft, Put, signed_numbers}
use Rattle.rb_writer.specs.inner.Most.{data_most, trees_most, members_most}
use Rattle.rb_writer.specs.inner.Standing.{Stands, ChildrenStand, KeysStand, children_most}
use Rattle.rb_writer.specs.declared.keys.KeyOffsets.{KeyOffsets}
use Rattle.rb_writer.proofs.Puts.{adds_refl, adds_trans}

pub grows_draft : (area : KeyArea) (a b : List ℕ) → IsDraft area a → Adds a b → Grows (draft area a) a (draft area b) b
grows_draft area a b d h = let w = d.whole in let lo = d.low in let hi = d.high in let l = h.longer in record {
  indexes = refl;
  keys_top = refl;
  low = omega arith;
  high = omega arith;
  top = omega arith;
  room = omega arith;
  room' = omega arith;
  same = λ i p q. h.same i (omega arith);
}

-- keys stay where they are
pub keys_stay : (area : KeyArea) (a b : List ℕ) (keys : KeyOffsets) → IsDraft area a → Adds a b → KeysStand area a keys → KeysStand area b keys
keys_stay area a b keys d h s = λ k o e. key_same (draft area a) (draft area b) a b (grows_draft area a b d h) o ∙ s k o e

pub stays : (area : KeyArea) (a b : List ℕ) (l item : ℕ) (t : Resource) → IsDraft area a → Adds a b → read (draft area a) a l item ≡ Ok t
    → read (draft area b) b l item ≡ Ok t
stays area a b l item t d h e = read_grow (draft area a) (draft area b) a b (grows_draft area a b d h) l item t e

-- ---- children

pub most_turn : (cs : List Resource) (i : ℕ) (u : Resource) → Some u ≡ slice_get cs i
    → children_most (drop i cs) ≡ data_most u + children_most (drop (suc i) cs)
most_turn [] i u e = cc
most_turn (t ∷ cs) zero u e = let s : t ≡ u = cc in ap (λ (v : Resource). data_most v + children_most cs) s
most_turn (t ∷ cs) (suc i) u e = most_turn cs i u e

pub children_none : (area : KeyArea) (old : List ℕ) (cs : List Resource) → IsDraft area old → ChildrenStand area old old cs [] 0
children_none area old cs d = record { adds = adds_refl old; drafted = d; little = omega arith; count = refl; reads = λ j u h. absurd (omega arith) }

pub child_room : (area : KeyArea) (old mid : List ℕ) (cs : List Resource) (is : List ℕ) (n most : ℕ) (u : Resource) → ChildrenStand area old mid cs is n
    → Some u ≡ slice_get cs n → length old + children_most cs ≤ most → length mid + data_most u ≤ most
child_room area old mid cs is n most u s e h = let l = s.little in omega (arith, most_turn cs n u e)

pub children_more : (area : KeyArea) (old mid new : List ℕ) (cs : List Resource) (is : List ℕ) (n item : ℕ) (u : Resource) → ChildrenStand area old mid cs is n
    → Some u ≡ slice_get cs n → Stands area mid new u item → ChildrenStand area old new cs (is ++ item ∷ []) (n + 1)
children_more area old mid new cs is n item u s e p =
    let l = s.little in let m = p.little in let c = s.count in
    let up : n + 1 ≡ suc n = omega arith in
    let turn = most_turn cs n u e in
    record {
      adds = adds_trans old mid new s.adds p.adds;
      drafted = p.drafted;
      little = rw up (omega arith);
      count = omega (arith, length_push is item);
      reads = λ j v h g. elim (cases_eq j n) [
        | inl same ↦
            let at : get_or (is ++ item ∷ []) j 0 ≡ item = get_or_push is item 0 j (omega arith) in
            let some : Some v ≡ Some u = g ∙ ap (slice_get cs) same ∙ sym e in
            let is_u : v ≡ u = cc in
            rw (at, is_u) p.reads
        | inr other ↦
            let at : get_or (is ++ item ∷ []) j 0 ≡ get_or is j 0 = get_or_append_left is (item ∷ []) 0 j (omega arith) in
            rw at (stays area mid new (height v) (get_or is j 0) v s.drafted p.adds (s.reads j v (omega arith) g))
      ];
    }

-- The only child was written, and its item is that of all.
pub only_stands : (area : KeyArea) (old new : List ℕ) (cs : List Resource) (item : ℕ) (u : Resource) → IsDraft area old → Some u ≡ slice_get cs 0
    → Stands area old new u item → ChildrenStand area old new cs (item ∷ []) 1
only_stands area old new cs item u d e p = children_more area old old new cs [] 0 item u (children_none area old cs d) e p

trees_count : (ts : Resources) → children_most (items ts) + 4 * length (items ts) ≡ trees_most ts
trees_count no_trees = refl
trees_count (tree_and t ts) = omega (arith, trees_count ts)

members_count : (es : Members) → children_most (values_of (pairs es)) + 8 * length (pairs es) ≡ members_most es
members_count no_entries = refl
members_count (entry_and k t es) = omega (arith, members_count es)

pub array_most : (ts : Resources) → children_most (items ts) + 4 * length (items ts) ≡ trees_most ts
array_most = trees_count

pub table_most : (es : Members) → children_most (values_of (pairs es)) + 8 * length (pairs es) ≡ members_most es
table_most = members_count

-- the children take no more than the tree
pub children_le : (t : Resource) → children_most (children_of t) ≤ data_most t
children_le (string us) = omega arith
children_le (int n) = omega arith
children_le (ints zs) = omega arith
children_le (binary bs) = omega arith
children_le (alias us) = omega arith
children_le (array ts) = omega (arith, trees_count ts)
children_le (table es) = omega (arith, members_count es)

-- ---- an item of what was put

put_node : {A : Type 0} (area : KeyArea) (old new : List ℕ) (most : ℕ) (reads : Layout → List ℕ → ℕ → Result A FileFault) (x none : A) (o item : ℕ)
    (k : ItemKind) (f : A → Resource) (child : ℕ → Result Resource FileFault)
    → Put area old new most reads x none o → kind_of item ≡ Some k → offset_of item ≡ o → ((p : ℕ) → has_data k p ≡ ltb 0 p)
    → contents (draft area new) new child o k ≡ result_map f (reads (draft area new) new o) → bare k 0 ≡ f none
    → node (draft area new) new child item ≡ Ok (f x)
unfolding node value
put_node area old new most reads x none o item k f child p ki oi filled same none_is =
    let start : kind_or_fault (kind_of item) ≡ Ok k = ap kind_or_fault ki in
    let lo = p.drafted.low in
    rw (start, oi) (elim p.stands [
      | inl q ↦
          let zero_is : o ≡ 0 = q.0 in
          let test : has_data k o ≡ false = filled o ∙ rw zero_is refl in
          rw test (ap (λ (m : ℕ). Ok (bare k m)) zero_is ∙ ap Ok (none_is ∙ ap f (sym q.1)))
      | inr q ↦
          let test : has_data k o ≡ true = filled o ∙ lt-ltb 0 o (let h = q.0 in omega arith) in
          let a : ltb o area.top ≡ false = le-ltb _ _ q.0 in
          let b : ltb o (length new / 4) ≡ true = lt-ltb _ _ q.1 in
          rw (test, a, b) (same ∙ ap (result_map f) q.2)
    ])

read_more : (area : KeyArea) (new : List ℕ) (d item : ℕ) (t : Resource) → node (draft area new) new (λ w. read (draft area new) new d w) item ≡ Ok t
    → read (draft area new) new (suc d) item ≡ Ok t
unfolding read
read_more area new d item t e = e

-- what was put is the data of an item of its kind, which stands for the tree
pub put_stands : {A : Type 0} (area : KeyArea) (old new : List ℕ) (most d : ℕ) (reads : Layout → List ℕ → ℕ → Result A FileFault) (x none : A) (o item : ℕ)
    (k : ItemKind) (f : A → Resource)
    → Put area old new most reads x none o → kind_of item ≡ Some k → offset_of item ≡ o → ((p : ℕ) → has_data k p ≡ ltb 0 p)
    → contents (draft area new) new (λ w. read (draft area new) new d w) o k ≡ result_map f (reads (draft area new) new o) → bare k 0 ≡ f none
    → most ≡ data_most (f x) → suc d ≡ height (f x) → Stands area old new (f x) item
put_stands area old new most d reads x none o item k f p ki oi filled same none_is room level = record {
  adds = p.adds;
  drafted = p.drafted;
  little = subst (λ (m : ℕ). length new ≤ length old + m) room p.little;
  reads = subst (λ (h : ℕ). read (draft area new) new h item ≡ Ok (f x)) level
      (read_more area new d item (f x) (put_node area old new most reads x none o item k f _ p ki oi filled same none_is));
}

string_contents : (y : Layout) (body : List ℕ) (child : ℕ → Result Resource FileFault) (o : ℕ)
    → contents y body child o kinds.String ≡ result_map string (units y body o)
unfolding contents
string_contents y body child o = refl

alias_contents : (y : Layout) (body : List ℕ) (child : ℕ → Result Resource FileFault) (o : ℕ)
    → contents y body child o kinds.Alias ≡ result_map alias (units y body o)
unfolding contents
alias_contents y body child o = refl

binary_contents : (y : Layout) (body : List ℕ) (child : ℕ → Result Resource FileFault) (o : ℕ)
    → contents y body child o kinds.Binary ≡ result_map binary (bytes y body o)
unfolding contents
binary_contents y body child o = refl

ints_contents : (y : Layout) (body : List ℕ) (child : ℕ → Result Resource FileFault) (o : ℕ)
    → contents y body child o kinds.Ints ≡ result_map ints (signed_numbers y body o)
unfolding contents
ints_contents y body child o = both (numbers y body o)
  where
    both : (r : Result (List ℕ) FileFault) → result_map (λ ns. ints (map (cast_signed w32) ns)) r ≡ result_map ints
        (result_map (λ ns. map (cast_signed w32) ns) r)
    both (Ok x) = refl
    both (Err e) = refl

pub string_stands : (area : KeyArea) (old new us : List ℕ) (o item : ℕ) (t : Tree) → t ≡ trees.String us → Put area old new (8 + 2 * length us) units us [] o
    → kind_of item ≡ Some kinds.String → offset_of item ≡ o → Stands area old new (view_of t) item
string_stands area old new us o item t is p ki oi = rw is
    (put_stands area old new _ 0 units us [] o item kinds.String string p ki oi (λ q. refl) (string_contents _ _ _ o) refl refl refl)

pub alias_stands : (area : KeyArea) (old new us : List ℕ) (o item : ℕ) (t : Tree) → t ≡ trees.Alias us → Put area old new (8 + 2 * length us) units us [] o
    → kind_of item ≡ Some kinds.Alias → offset_of item ≡ o → Stands area old new (view_of t) item
alias_stands area old new us o item t is p ki oi = rw is
    (put_stands area old new _ 0 units us [] o item kinds.Alias alias p ki oi (λ q. refl) (alias_contents _ _ _ o) refl refl refl)

pub binary_stands : (area : KeyArea) (old new bs : List ℕ) (o item : ℕ) (t : Tree) → t ≡ trees.Binary bs → Put area old new (20 + length bs) bytes bs [] o
    → kind_of item ≡ Some kinds.Binary → offset_of item ≡ o → Stands area old new (view_of t) item
binary_stands area old new bs o item t is p ki oi = rw is
    (put_stands area old new _ 0 bytes bs [] o item kinds.Binary binary p ki oi (λ q. refl) (binary_contents _ _ _ o) refl refl refl)

pub ints_stand : (area : KeyArea) (old new : List ℕ) (zs : List ℤ) (o item : ℕ) (t : Tree) → t ≡ trees.Ints zs
    → Put area old new (4 + 4 * length zs) signed_numbers zs [] o → kind_of item ≡ Some kinds.Ints → offset_of item ≡ o → Stands area old new (view_of t) item
ints_stand area old new zs o item t is p ki oi = rw is
    (put_stands area old new _ 0 signed_numbers zs [] o item kinds.Ints ints p ki oi (λ q. refl) (ints_contents _ _ _ o) refl refl refl)

int_node : (y : Layout) (body : List ℕ) (child : ℕ → Result Resource FileFault) (n item : ℕ) → kind_of item ≡ Some kinds.Int → offset_of item ≡ n
    → node y body child item ≡ Ok (int n)
unfolding node value
int_node y body child n item ki oi =
    let start : kind_or_fault (kind_of item) ≡ Ok kinds.Int = ap kind_or_fault ki in
    rw (start, oi) refl

pub int_stands : (area : KeyArea) (old : List ℕ) (n item : ℕ) (t : Tree) → t ≡ trees.Int n → IsDraft area old → kind_of item ≡ Some kinds.Int
    → offset_of item ≡ n → Stands area old old (view_of t) item
int_stands area old n item t is d ki oi = rw is (record {
  adds = adds_refl old;
  drafted = d;
  little = omega arith;
  reads = read_more area old 0 item (int n) (int_node _ _ _ n item ki oi);
})
