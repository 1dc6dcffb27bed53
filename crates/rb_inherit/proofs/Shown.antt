-- Proves that a tree has what lookups find, where no earlier stop hides it.
use Rattle.std.proofs.Common.{◌≡◌, ◌⊎◌, inl, inr, ◌+◌, ◌<◌, ◌≤◌, ◌++◌, ℕ, zero, suc, List, [], ◌∷◌, Bool, true, false, cond, Option, Some, None, Result, Ok, Err, decimal, length, map, nat_lt, refl, sym, ap, subst, ◌∙◌, append_assoc, append-nil, arith, option_and_then, slice_get, zero-add}
use Rattle.std.specs.List.{AllByRecursion}
use Rattle.std.specs.Map.{lookup}
use Rattle.std.specs.Prelude.{nat_eq}
use Rattle.std.specs.Ordering.{is_eq, match_ordering, nat_cmp}
use Rattle.std.specs.declared.cmp.Ordering.{Ordering}
use Rattle.std.specs.declared.cmp.Ordering.TheVariants.{Less, Equal, Greater}
use Rattle.std.specs.Cmp.Lexicographic.{pointwise, slice_cmp}
use Rattle.std.proofs.lemmas.Bool.{le-ltb, ltb-false}
use Rattle.std.proofs.lemmas.Cmp.{nat_list_cmp_total, tied_itself}
use Rattle.std.proofs.lemmas.List.{map-append}
use Rattle.std.proofs.lemmas.Map.Text.{is_eq-slice_cmp}
use Rattle.std.proofs.lemmas.Slice.Eq.{bytes_eq-Decides}
use Rattle.serde_json.specs.Data.{Data}
use Rattle.serde_json.specs.Find.{get_item, get_member}
use Rattle.serde_json.specs.View.{items_of}
use Rattle.rb_tree.specs.Parts.{children_of, kind_of}
use Rattle.rb_tree.specs.Path.{index_of, segments}
use Rattle.rb_tree.specs.Resource.{Resource}
use Rattle.rb_tree.specs.Resource as tree
use Rattle.rb_tree.specs.SourceTree.{SourceTree}
use Rattle.rb_tree.specs.Walk.{Walked, ends, links, gone, after, enter, onward, walk}
use Rattle.rb_tree.specs.declared.kind.Kind.{Kind}
use Rattle.rb_tree.specs.declared.kind.Kind.TheVariants as kind
use Rattle.rb_tree.proofs.Walks.{enter_leaf, walk_on}
use Rattle.rb_json.specs.Value.{key_text, value_of}
use Rattle.rb_parents.specs.Trail.{Bundles, stops}
use Rattle.rb_fallback.specs.Search.{Hit, is_long, setting, walk_of}
use Rattle.rb_fallback.specs.declared.fault.LookError.{LookError}
use Rattle.rb_fallback.specs.declared.fault.LookError.TheVariants as look
use Rattle.rb_inherit.specs.Leaves.{IsLeaf}
use Rattle.rb_inherit.specs.Agreement.{AreSorted, IsAllShown, IsNoLink, IsSeen, IsSeenOn, Shows, child_data, data_at}
use Rattle.rb_inherit.specs.Merged.{AreItems, Ascends, Begins, Decides, Here, IsAt, IsTree, IsValue, Joins, Layered, Merges, Part, all_keys, at_key, at_path, ended, item, layered, longer, members_data, parts_of, room_below, tables, with_key, with_keys}
use Rattle.rb_inherit.proofs.Agrees.{IsAnswer, Says, says_shows, at_item, fine_ascend, front_of, long_is, said, search_first, search_short, short_path, then_some, value_here}
use Rattle.rb_inherit.proofs.Deeper.{link_front_in, links_over, AreFine, AreTables, First, IsFine, NoLinks, all_append, all_first, are_fine, deeper, deeper_in, enters, enters_append, first_is, keys_len, layers_enter, links_front, shifted}
use Rattle.rb_inherit.proofs.Pointers.{item_there, one_member, spells}

-- ---- walks that end nowhere
gone_after : (s : List ℕ) (w : Walked) → after s w ≡ gone → w ≡ gone
gone_after s (ends t) h = absurd cc
gone_after s (links us walked rest) h = absurd cc
gone_after s gone h = refl

not_here : (t : Resource) → walk t [] ≡ gone → ⊥
not_here (tree.alias us) h = cc
not_here _ h = cc

goes_on : (t : Resource) (s : List ℕ) (ss : List (List ℕ)) → walk t (s ∷ ss) ≡ gone → kind_of t ≡ kind.Alias → ⊥
goes_on (tree.alias us) s ss h k = cc
goes_on _ s ss h k = cc

gone_on : (t : Resource) (ss ks : List (List ℕ)) → walk t ss ≡ gone → walk t (ss ++ ks) ≡ gone
gone_on t [] ks h = absurd (not_here t h)
gone_on t (s ∷ ss) ks h =
    let a = goes_on t s ss h in
    walk_on t s (ss ++ ks) a ∙ by (λ u e. gone_on u ss ks e) (enter s t) (sym (walk_on t s ss a) ∙ h)
  where
    by : ((u : Resource) → walk u ss ≡ gone → walk u (ss ++ ks) ≡ gone) → (o : Option Resource) → onward s (λ u. walk u ss) o ≡ gone
        → onward s (λ u. walk u (ss ++ ks)) o ≡ gone
    by more None e = refl
    by more (Some u) e = ap (after s) (more u (gone_after s (walk u ss) e))

gone_in : (o : Option SourceTree) (ss ks : List (List ℕ)) → walk_of o ss ≡ gone → walk_of o (ss ++ ks) ≡ gone
gone_in None ss ks h = refl
gone_in (Some b) ss ks h = gone_on b.tree ss ks h

none_there : (most : ℕ) (bundles : Bundles) (ns ss : List (List ℕ)) → AllByRecursion (λ m. walk_of (bundles m) ss ≡ gone) ns → at_path most bundles ns ss ≡ []
none_there most bundles [] ss h = refl
none_there most bundles (n ∷ ns) ss h = ap (λ (w : Walked). ended most w ++ at_path most bundles ns ss) h.0 ∙ none_there most bundles ns ss h.1

stops_append : (most : ℕ) (bundles : Bundles) (ms ns ss : List (List ℕ)) → at_path most bundles (ms ++ ns) ss ≡ at_path most bundles ms ss ++ at_path most bundles ns ss
stops_append most bundles [] ns ss = refl
stops_append most bundles (m ∷ ms) ns ss =
    ap (λ (l : List Part). ended most (walk_of (bundles m) ss) ++ l) (stops_append most bundles ms ns ss)
    ∙ sym (append_assoc (ended most (walk_of (bundles m) ss)) (at_path most bundles ms ss) (at_path most bundles ns ss))

-- a walk that leads somewhere, and not to an alias
record Ends (w : Walked) : Type 0 where
  tree : Resource
  is : w ≡ ends tree

ends_of : (w : Walked) → IsNoLink w → (w ≡ gone → ⊥) → Ends w
ends_of (ends t) n g = record { tree = t; is = refl }
ends_of (links us walked rest) n g = absurd n
ends_of gone n g = absurd (g refl)

record Child (o : Option SourceTree) (ss : List (List ℕ)) (k : List ℕ) (t : Resource) : Type 0 where
  tree : Resource
  is : walk_of o (ss ++ k ∷ []) ≡ ends tree
  entered : enter k t ≡ Some tree

entered_is : (most : ℕ) (o : Option Resource) (u : Resource) → record { tree = u; most = most } ∷ [] ≡ parts_of o most ++ [] → o ≡ Some u
entered_is most None u e = absurd cc
entered_is most (Some t) u e = let same : record { tree = u; most = most } ≡ record { tree = t; most = most } = cc in ap (λ (p : Part). Some p.tree) (sym same)

child_of_stop : (o : Option SourceTree) (ss : List (List ℕ)) (k : List ℕ) (t : Resource) → walk_of o ss ≡ ends t → IsNoLink (walk_of o (ss ++ k ∷ []))
    → (walk_of o (ss ++ k ∷ []) ≡ gone → ⊥) → Child o ss k t
child_of_stop o ss k t e n g =
    let w = ends_of (walk_of o (ss ++ k ∷ [])) n g in
    record {
      tree = w.tree;
      is = w.is;
      entered = entered_is 0 (enter k t) w.tree (sym (ap (ended 0) w.is) ∙ deeper_in 0 o ss k (link_front_in o ss (k ∷ []) n) ∙ ap (λ (x : Walked). enters k (ended 0 x)) e);
    }

-- ---- the keys of merged tables
abbrev IsIn : List ℕ → List (List ℕ) → Type 0
IsIn k [] = ⊥
IsIn k (j ∷ js) = (k ≡ j) ⊎ IsIn k js

in_key : (k x : List ℕ) (ks : List (List ℕ)) → (k ≡ x) ⊎ IsIn k ks → IsIn k (with_key x ks)
in_key k x [] (inl e) = inl e
in_key k x [] (inr h) = absurd h
in_key k x (j ∷ js) h = by (λ g. in_key k x js g) (slice_cmp nat_cmp x j) refl h
  where
    by : ((k ≡ x) ⊎ IsIn k js → IsIn k (with_key x js)) → (r : Ordering) → slice_cmp nat_cmp x j ≡ r → (k ≡ x) ⊎ IsIn k (j ∷ js)
        → IsIn k (match_ordering r (x ∷ j ∷ js) (j ∷ js) (j ∷ with_key x js))
    by more Less c (inl e) = inl e
    by more Less c (inr g) = inr g
    by more Equal c (inl e) = inl (e ∙ (bytes_eq-Decides x j).0 (sym (is_eq-slice_cmp x j) ∙ ap is_eq c))
    by more Equal c (inr g) = g
    by more Greater c (inl e) = inr (more (inl e))
    by more Greater c (inr (inl e)) = inl e
    by more Greater c (inr (inr g)) = inr (more (inr g))

in_keys : (k : List ℕ) (es : List (List ℕ × Resource)) (ks : List (List ℕ)) (t : Resource) → lookup (pointwise nat_eq k) es ≡ Some t → IsIn k (with_keys es ks)
in_keys k [] ks t h = absurd cc
in_keys k (e ∷ es) ks t h = by (λ g. in_keys k es ks t g) (pointwise nat_eq k e.0) refl h
  where
    by : (lookup (pointwise nat_eq k) es ≡ Some t → IsIn k (with_keys es ks)) → (b : Bool) → pointwise nat_eq k e.0 ≡ b
        → cond b (Some e.1) (lookup (pointwise nat_eq k) es) ≡ Some t → IsIn k (with_key e.0 (with_keys es ks))
    by more true c g = in_key k e.0 (with_keys es ks) (inl ((bytes_eq-Decides k e.0).0 c))
    by more false c g = in_key k e.0 (with_keys es ks) (inr (more g))

keys_on : (k : List ℕ) (es : List (List ℕ × Resource)) (ks : List (List ℕ)) → IsIn k ks → IsIn k (with_keys es ks)
keys_on k [] ks h = h
keys_on k (e ∷ es) ks h = in_key k e.0 (with_keys es ks) (inr (keys_on k es ks h))

in_all : (k : List ℕ) (ls : List Layered) → 0 < length (at_key k ls) → IsIn k (all_keys ls)
in_all k [] h = absurd (omega arith)
in_all k (l ∷ ls) h = by (λ g. in_all k ls g) (lookup (pointwise nat_eq k) l.entries) refl h
  where
    by : (0 < length (at_key k ls) → IsIn k (all_keys ls)) → (o : Option Resource) → lookup (pointwise nat_eq k) l.entries ≡ o → 0 < length (parts_of o l.most ++ at_key k ls) → IsIn k (all_keys (l ∷ ls))
    by more None e g = keys_on k l.entries (all_keys ls) (more g)
    by more (Some t) e g = in_keys k l.entries (all_keys ls) t e

record Found (k : List ℕ) (es : List (List ℕ × Data)) : Type 0 where
  value : Data
  is : get_member (key_text k) (members_data es) ≡ Some value

found_member : (k : List ℕ) (es : List (List ℕ × Data)) → IsIn k (map (λ e. e.0) es) → Found k es
found_member k [] h = absurd h
found_member k (e ∷ es) h = by (λ g. found_member k es g) h
  where
    rest : Option Data
    rest = get_member (key_text k) (members_data es)

    later : (r : Ordering) → Found k es → (d : Data) × (match_ordering r rest (Some e.1) rest ≡ Some d)
    later Less f = (f.value, f.is)
    later Equal f = (e.1, refl)
    later Greater f = (f.value, f.is)

    by : (IsIn k (map (λ e. e.0) es) → Found k es) → IsIn k (map (λ e. e.0) (e ∷ es)) → Found k (e ∷ es)
    by more (inl f) =
        let tied = ap (λ (x : List ℕ). slice_cmp nat_cmp (key_text k) (key_text x)) (sym f) ∙ tied_itself nat_list_cmp_total (key_text k) in
        record { value = e.1; is = ap (λ (r : Ordering). match_ordering r rest (Some e.1) rest) tied }
    by more (inr f) = let g = later (slice_cmp nat_cmp (key_text k) (key_text e.0)) (more f) in record { value = g.0; is = g.1 }

-- ---- the tables before an item are merged
record Merged (used : ℕ) (front B : List Part) (ls : List Layered) : Type 0 where
  more : List Layered
  is : ls ≡ map layered front ++ more
  rest : Merges used B more

joined : (b : Bool) (k : Kind) (p : Part) (Rest : List Layered → Type 0) (ls : List Layered) → b ≡ false → k ≡ kind.Table → Joins b k p Rest ls
    → (rest : List Layered) × ((ls ≡ layered p ∷ rest) × Rest rest)
joined true k p Rest ls e f x = absurd cc
joined false kind.Table p Rest ls e f x = x
joined false _ p Rest ls e f x = absurd cc

begun : (b : Bool) (k : Kind) (p : Part) (Rest : List Layered → Type 0) (h : Here) → b ≡ false → k ≡ kind.Table → Begins b k p Rest h
    → (rest : List Layered) × ((h ≡ tables (layered p ∷ rest)) × Rest rest)
begun true k p Rest h e f x = absurd cc
begun false kind.Table p Rest h e f x = x
begun false _ p Rest h e f x = absurd cc

begun_array : (b : Bool) (k : Kind) (p : Part) (Rest : List Layered → Type 0) (h : Here) → b ≡ false → k ≡ kind.Array → Begins b k p Rest h → h ≡ item p
begun_array true k p Rest h e f x = absurd cc
begun_array false kind.Array p Rest h e f x = x
begun_array false _ p Rest h e f x = absurd cc

room_is : (most used : ℕ) (p : Part) → p.most ≡ most → used ≤ most → nat_lt p.most used ≡ false
room_is most used p e h = le-ltb p.most used (omega (arith, e, h))

merged : (most used : ℕ) (front B : List Part) (ls : List Layered) → used ≤ most → AreFine most front → AreTables front → Merges used (front ++ B) ls
    → Merged used front B ls
merged most used [] B ls u fine t m = record { more = ls; is = refl; rest = m }
merged most used (p ∷ front) B ls u fine t m =
    let x = joined (nat_lt p.most used) (kind_of p.tree) p (λ rest. Merges used (front ++ B) rest) ls (room_is most used p fine.0.room u) t.0 m in
    let y = merged most used front B x.0 u fine.1 t.1 x.1.1 in
    record { more = y.more; is = x.1.0 ∙ ap (λ (l : List Layered). layered p ∷ l) y.is; rest = y.rest }

record Begun (used : ℕ) (front B : List Part) (h : Here) : Type 0 where
  more : List Layered
  is : h ≡ tables (map layered front ++ more)
  rest : Merges used B more

decided : (most used : ℕ) (front B : List Part) (h : Here) → 0 < length front → used ≤ most → AreFine most front → AreTables front → Decides used (front ++ B) h
    → Begun used front B h
decided most used [] B h some u fine t d = absurd (omega arith)
decided most used (p ∷ front) B h some u fine t d =
    let x = begun (nat_lt p.most used) (kind_of p.tree) p (λ rest. Merges used (front ++ B) rest) h (room_is most used p fine.0.room u) t.0 d in
    let y = merged most used front B x.0 u fine.1 t.1 x.1.1 in
    record { more = y.more; is = x.1.0 ∙ ap (λ (l : List Layered). tables (layered p ∷ l)) y.is; rest = y.rest }

-- ---- one key deeper
record Next (j used : ℕ) (k : List ℕ) (A : List Part) (p : Part) (B : List Part) (d : Data) : Type 0 where
  value : Data
  others : List Part
  back : List Part
  split : enters k B ≡ others ++ back
  there : child_data k d ≡ Some value
  is : IsAt (λ u g e. IsTree j u g e) used k (A ++ p ∷ others) value

all_last : {A : Type 0} (P : A → Type 0) (xs ys : List A) → AllByRecursion P (xs ++ ys) → AllByRecursion P ys
all_last P [] ys h = h
all_last P (x ∷ xs) ys h = all_last P xs ys h.1

some_with : (A B : List Part) (p : Part) → 0 < length (A ++ p ∷ B)
some_with [] B p = omega arith
some_with (a ∷ A) B p = omega arith

-- a table after tables
next_table : (most j used : ℕ) (k : List ℕ) (A B : List Part) (p : Part) (u : Resource) (h : Here) (d : Data) → used ≤ most → AreFine most (A ++ p ∷ B)
    → AreTables A → kind_of p.tree ≡ kind.Table → enter k p.tree ≡ Some u → Decides used (A ++ p ∷ B) h → IsValue (λ u g e. IsTree j u g e) used h d
    → Next j used k (enters k A) (record { tree = u; most = p.most }) B d
next_table most j used k A B p u h d low fine are same_kind entered dec v =
    let front = A ++ p ∷ [] in
    let split : A ++ p ∷ B ≡ front ++ B = sym (append_assoc A (p ∷ []) B) in
    let whole = subst (AreFine most) split fine in
    let fronts = all_first (IsFine most) front B whole in
    let tabs : AreTables front = all_append (λ (q : Part). kind_of q.tree ≡ kind.Table) A (p ∷ []) are (same_kind, tt) in
    let x = decided most used front B h (some_with A [] p) low fronts tabs (subst (λ (l : List Part). Decides used l h) split dec) in
    let f = front_of most used B x.more (all_last (IsFine most) front B whole) x.rest in
    let all = front ++ f.front in
    let ls = map layered front ++ x.more in
    let layers : ls ≡ map layered all = ap (λ (l : List Layered). map layered front ++ l) f.layers ∙ sym (map-append layered front f.front) in
    let fines = all_append (IsFine most) front f.front fronts (all_first (IsFine most) f.front f.back (subst (AreFine most) f.split (all_last (IsFine most) front B whole))) in
    let ordered = subst (λ (l : List Layered). AllByRecursion Ascends l) (sym layers) (fine_ascend most all fines) in
    let w = subst (λ (g : Here). IsValue (λ u g e. IsTree j u g e) used g d) x.is v in
    let members = w.1.1 ordered in
    let part : Part = record { tree = u; most = p.most } in
    let here : enters k all ≡ enters k A ++ part ∷ enters k f.front =
    ap (enters k) (append_assoc A (p ∷ []) f.front) ∙ enters_append k A (p ∷ f.front)
    ∙ ap (λ (o : Option Resource). enters k A ++ (parts_of o p.most ++ enters k f.front)) entered in
    let same : at_key k ls ≡ enters k A ++ part ∷ enters k f.front =
    ap (at_key k) layers ∙ layers_enter k all (all_append (λ (q : Part). kind_of q.tree ≡ kind.Table) front f.front tabs f.are) ∙ here in
    let inside = in_all k ls (subst (λ (l : List Part). 0 < length l) (sym same) (some_with (enters k A) (enters k f.front) part)) in
    let got = found_member k w.0 (subst (IsIn k) (sym members.keys) inside) in
    let at = one_member (λ (i : List ℕ) (x : Data). IsAt (λ u g e. IsTree j u g e) used i (at_key i ls) x) k w.0 got.value members.each got.is in
    record {
      value = got.value;
      others = enters k f.front;
      back = enters k f.back;
      split = ap (enters k) f.split ∙ enters_append k f.front f.back;
      there = ap (child_data k) w.1.0 ∙ got.is;
      is = subst (λ (l : List Part). IsAt (λ u g e. IsTree j u g e) used k l got.value) same at;
    }

record Item (Is : ℕ → Here → Data → Type 0) (used most n i : ℕ) (u : Resource) (ds : List Data) : Type 0 where
  value : Data
  there : slice_get ds i ≡ Some value
  is : IsAt Is used (decimal (n + i)) (record { tree = u; most = most } ∷ []) value

one_item : (Is : ℕ → Here → Data → Type 0) (used most n i : ℕ) (ts : List Resource) (u : Resource) (ds : List Data) → AreItems Is used most n ts ds
    → slice_get ts i ≡ Some u → Item Is used most n i u ds
one_item Is used most n i [] u ds a h = absurd cc
one_item Is used most n i (t ∷ ts) u [] a h = absurd a
one_item Is used most n zero (t ∷ ts) u (d ∷ ds) a h =
    let same : t ≡ u = cc in
    let index : n ≡ n + 0 = omega arith in
    record {
      value = d;
      there = refl;
      is = subst (λ (m : ℕ). IsAt Is used (decimal m) (record { tree = u; most = most } ∷ []) d) index
          (subst (λ (v : Resource). IsAt Is used (decimal n) (record { tree = v; most = most } ∷ []) d) same a.0);
    }
one_item Is used most n (suc i) (t ∷ ts) u (d ∷ ds) a h =
    let x = one_item Is used most (suc n) i ts u ds a.1 h in
    let index : suc n + i ≡ n + suc i = omega arith in
    record { value = x.value; there = x.there; is = subst (λ (m : ℕ). IsAt Is used (decimal m) (record { tree = u; most = most } ∷ []) x.value) index x.is }

array_entered : (k : List ℕ) (t : Resource) (u : Resource) → kind_of t ≡ kind.Array → enter k t ≡ Some u → option_and_then (slice_get (children_of t)) (index_of k) ≡ Some u
array_entered k (tree.array ts) u a e = e
array_entered k _ u a e = cc

got_below : {A : Type 0} (xs : List A) (i : ℕ) (x : A) → slice_get xs i ≡ Some x → i < length xs
got_below [] i x h = absurd cc
got_below (y ∷ xs) zero x h = omega arith
got_below (y ∷ xs) (suc i) x h = omega (arith, got_below xs i x h)

-- an array that nothing precedes
next_array : (most j used : ℕ) (k : List ℕ) (B : List Part) (p : Part) (u : Resource) (h : Here) (d : Data) → used ≤ most → IsFine most p
    → kind_of p.tree ≡ kind.Array → enter k p.tree ≡ Some u → Decides used (p ∷ B) h → IsValue (λ u g e. IsTree j u g e) used h d
    → Next j used k [] (record { tree = u; most = p.most }) B d
next_array most j used k B p u h d low fine same_kind entered dec v =
    let is = begun_array (nat_lt p.most used) (kind_of p.tree) p (λ rest. Merges used B rest) h (room_is most used p fine.room low) same_kind dec in
    let w = at_item (λ u g e. IsTree j u g e) used kind.Array p h d same_kind is v in
    let index = then_some (slice_get (children_of p.tree)) (index_of k) u (array_entered k p.tree u same_kind entered) in
    let i = index.0 in
    let x = one_item (λ u g e. IsTree j u g e) used p.most 0 i (children_of p.tree) u w.0 w.1.1 index.1.1 in
    let few = fine.sorted.few in
    let key : decimal (0 + i) ≡ k = ap decimal (zero-add i) ∙ spells k i index.1.0 (omega (arith, few, got_below (children_of p.tree) i u index.1.1)) in
    record {
      value = x.value;
      others = [];
      back = enters k B;
      split = refl;
      there = ap (child_data k) w.1.0 ∙ ap (λ (o : Option ℕ). option_and_then (λ i. get_item i (items_of w.0)) o) index.1.0 ∙ item_there i w.0 ∙ x.there;
      is = subst (λ (s : List ℕ). IsAt (λ u g e. IsTree j u g e) used s (record { tree = u; most = p.most } ∷ []) x.value) key x.is;
    }

shows_leaf : (k : Kind) (t : Resource) (d : Data) → IsLeaf k → Shows k t d → d ≡ value_of t
shows_leaf kind.Alias t d l h = absurd l
shows_leaf kind.Array t d l h = absurd l
shows_leaf kind.Table t d l h = absurd l
shows_leaf _ t d l h = h

before_tables : (most : ℕ) (bundles : Bundles) (ns ss : List (List ℕ)) → NoLinks bundles ns ss
    → AllByRecursion (λ m. (t : Resource) → walk_of (bundles m) ss ≡ ends t → kind_of t ≡ kind.Table) ns → AreTables (at_path most bundles ns ss)
before_tables most bundles [] ss n h = tt
before_tables most bundles (m ∷ ns) ss n h =
    all_append (λ (q : Part). kind_of q.tree ≡ kind.Table) (ended most (walk_of (bundles m) ss)) (at_path most bundles ns ss) (by (walk_of (bundles m) ss) refl n.0)
    (before_tables most bundles ns ss n.1 h.1)
  where
    by : (w : Walked) → walk_of (bundles m) ss ≡ w → IsNoLink w → AreTables (ended most w)
    by (ends t) e l = (h.0 t e, tt)
    by (links us walked rest) e l = absurd l
    by gone e l = tt

split_on : (k : List ℕ) (whole A B others back qs : List Part) (p part : Part) → whole ≡ (A ++ p ∷ B) ++ qs → parts_of (enter k p.tree) p.most ≡ part ∷ []
    → enters k B ≡ others ++ back → enters k whole ≡ (enters k A ++ part ∷ others) ++ (back ++ enters k qs)
split_on k whole A B others back qs p part is one split =
    let tail : enters k (p ∷ B) ≡ part ∷ (others ++ back) = ap (λ (l : List Part). l ++ enters k B) one ∙ ap (λ (l : List Part). part ∷ l) split in
    let front : enters k (A ++ p ∷ B) ≡ (enters k A ++ part ∷ others) ++ back =
    enters_append k A (p ∷ B) ∙ ap (λ (l : List Part). enters k A ++ l) tail ∙ sym (append_assoc (enters k A) (part ∷ others) back) in
    ap (enters k) is ∙ enters_append k (A ++ p ∷ B) qs ∙ ap (λ (l : List Part). l ++ enters k qs) front ∙ append_assoc (enters k A ++ part ∷ others) back (enters k qs)

front_links : (bundles : Bundles) (before after : List (List ℕ)) (stop : List ℕ) (ss : List (List ℕ)) → NoLinks bundles (before ++ stop ∷ after) ss
    → NoLinks bundles before ss × IsNoLink (walk_of (bundles stop) ss)
front_links bundles before after stop ss n =
    let P = λ (m : List ℕ). IsNoLink (walk_of (bundles m) ss) in
    (all_first P before (stop ∷ after) n, (all_last P before (stop ∷ after) n).0)

module _ (bundles : Bundles) (before after : List (List ℕ)) (stop : List ℕ) (most : ℕ) (sorted : AreSorted bundles) where
  abbrev all_stops : List (List ℕ)
  all_stops = before ++ stop ∷ after

  step : (j used : ℕ) (ss : List (List ℕ)) (k : List ℕ) (p : Part) (u : Resource) (B qs : List Part) (h : Here) (d : Data) (kd : Kind) → kind_of p.tree ≡ kd
      → NoLinks bundles all_stops (ss ++ k ∷ []) → at_path most bundles all_stops ss ≡ (at_path most bundles before ss ++ p ∷ B) ++ qs
      → walk_of (bundles stop) ss ≡ ends p.tree → enter k p.tree ≡ Some u → IsSeen bundles before stop ss → used ≤ most
      → Decides used (at_path most bundles before ss ++ p ∷ B) h → IsValue (λ u g e. IsTree j u g e) used h d
      → Next j used k (at_path most bundles before (ss ++ k ∷ [])) (record { tree = u; most = p.most }) B d
  step j used ss k p u B qs h d kd same no_links is walked entered seen low dec v =
      let links = front_links bundles before after stop (ss ++ k ∷ []) no_links in
      let here = links_front bundles all_stops ss (k ∷ []) no_links in
      let A = at_path most bundles before ss in
      let fine = all_first (IsFine most) (A ++ p ∷ B) qs (subst (AreFine most) is (are_fine most bundles all_stops ss sorted here)) in
      let one = (all_last (IsFine most) A (p ∷ B) fine).0 in
      let deep : enters k A ≡ at_path most bundles before (ss ++ k ∷ []) = sym (deeper most bundles before ss k (front_links bundles before after stop ss here).0) in
      let part : Part = record { tree = u; most = p.most } in
      subst (λ (l : List Part). Next j used k l part B d) deep (by kd same fine one entered dec v)
    where
      T : Type 0
      T = Next j used k (enters k (at_path most bundles before ss)) (record { tree = u; most = p.most }) B d

      leaf : (kind_of p.tree ≡ kind.Array → ⊥) → (kind_of p.tree ≡ kind.Table → ⊥) → enter k p.tree ≡ Some u → T
      leaf a t e = absurd (let none : None ≡ Some u = sym (enter_leaf k p.tree a t) ∙ e in cc)

      by : (kd : Kind) → kind_of p.tree ≡ kd → AreFine most (at_path most bundles before ss ++ p ∷ B) → IsFine most p → enter k p.tree ≡ Some u
          → Decides used (at_path most bundles before ss ++ p ∷ B) h → IsValue (λ u g e. IsTree j u g e) used h d → T
      by kind.Table same fine one e dec v =
          next_table most j used k (at_path most bundles before ss) B p u h d low fine
          (before_tables most bundles before ss (front_links bundles before after stop ss (links_front bundles all_stops ss (k ∷ []) no_links)).0 seen.tables) same e dec v
      by kind.Array same fine one e dec v =
          let empty : at_path most bundles before ss ≡ [] = none_there most bundles before ss (seen.alone p.tree walked (λ t. let f = sym same ∙ t in cc)) in
          subst (λ (l : List Part). Next j used k (enters k l) (record { tree = u; most = p.most }) B d) (sym empty)
          (next_array most j used k B p u h d low one same e (subst (λ (l : List Part). Decides used (l ++ p ∷ B) h) empty dec) v)
      by kind.Alias same fine one e dec v = absurd (one.no_alias same)
      by _ same fine one e dec v = leaf (λ t. let f = sym same ∙ t in cc) (λ t. let f = sym same ∙ t in cc) e

  shown : (ks ss : List (List ℕ)) (j used : ℕ) (p : Part) (B qs : List Part) (h : Here) (d : Data) (t : Resource) → NoLinks bundles all_stops (ss ++ ks)
      → at_path most bundles all_stops ss ≡ (at_path most bundles before ss ++ p ∷ B) ++ qs → walk_of (bundles stop) ss ≡ ends p.tree
      → Decides used (at_path most bundles before ss ++ p ∷ B) h → IsTree (suc j) used h d → length ks ≤ j
      → AllByRecursion (λ m. walk_of (bundles m) (ss ++ ks) ≡ gone) before → walk_of (bundles stop) (ss ++ ks) ≡ ends t → IsLeaf (kind_of t)
      → IsSeenOn bundles before stop ss ks → used + keys_len ks ≤ most → data_at ks d ≡ Some (value_of t)
  shown [] ss j used p B qs h d t no_links is walked dec v short none there leaf seen low =
      let path = append-nil ss in
      let here = subst (NoLinks bundles all_stops) path no_links in
      let A = at_path most bundles before ss in
      let empty : A ≡ [] = none_there most bundles before ss (subst (λ (l : List (List ℕ)). AllByRecursion (λ m. walk_of (bundles m) l ≡ gone) before) path none) in
      let fine = all_first (IsFine most) (A ++ p ∷ B) qs (subst (AreFine most) is (are_fine most bundles all_stops ss sorted here)) in
      let one = (all_last (IsFine most) A (p ∷ B) fine).0 in
      let says = said (λ u g e. IsTree j u g e) used (nat_lt p.most used) (kind_of p.tree) p (λ rest. Merges used B rest) h d refl
      (subst (λ (l : List Part). Decides used (l ++ p ∷ B) h) empty dec) (value_here j used h d v) in
      let found : ends p.tree ≡ ends t = sym walked ∙ subst (λ (l : List (List ℕ)). walk_of (bundles stop) l ≡ ends t) path there in
      let same : p.tree ≡ t = cc in
      let shows = says_shows (kind_of p.tree) p.tree d one.no_alias (subst (λ (b : Bool). Says b (kind_of p.tree) p.tree d) (room_is most used p one.room (omega (arith, low))) says) in
      ap (λ (x : Data). Some x) (shows_leaf (kind_of p.tree) p.tree d (subst (λ (x : Resource). IsLeaf (kind_of x)) (sym same) leaf) shows ∙ ap value_of same)
  shown (k ∷ ks) ss zero used p B qs h d t no_links is walked dec v short none there leaf seen low = absurd (omega arith)
  shown (k ∷ ks) ss (suc j) used p B qs h d t no_links is walked dec v short none there leaf seen low =
      let path = shifted ss k ks in
      let links = subst (NoLinks bundles all_stops) path no_links in
      let near = links_front bundles all_stops (ss ++ k ∷ []) ks links in
      let end = subst (λ (l : List (List ℕ)). walk_of (bundles stop) l ≡ ends t) path there in
      let child = child_of_stop (bundles stop) ss k p.tree walked (front_links bundles before after stop (ss ++ k ∷ []) near).1
      (λ g. let none : gone ≡ ends t = sym (gone_in (bundles stop) (ss ++ k ∷ []) ks g) ∙ end in cc) in
      let part : Part = record { tree = child.tree; most = p.most } in
      let next = step (suc j) used ss k p child.tree B qs h d (kind_of p.tree) refl near is walked child.entered seen.0 (omega (arith, low)) dec (value_here (suc j) used h d v) in
      let A = at_path most bundles before ss in
      let deep : enters k A ≡ at_path most bundles before (ss ++ k ∷ []) = sym (deeper most bundles before ss k (front_links bundles before after stop ss (links_front bundles all_stops ss (k ∷ []) near)).0) in
      let split : at_path most bundles all_stops (ss ++ k ∷ []) ≡ (at_path most bundles before (ss ++ k ∷ []) ++ part ∷ next.others) ++ (next.back ++ enters k qs) =
      deeper most bundles all_stops ss k (links_front bundles all_stops ss (k ∷ []) near)
      ∙ split_on k (at_path most bundles all_stops ss) A B next.others next.back qs p part is (ap (λ (o : Option Resource). parts_of o p.most) child.entered) next.split
      ∙ ap (λ (l : List Part). (l ++ part ∷ next.others) ++ (next.back ++ enters k qs)) deep in
      let rest = shown ks (ss ++ k ∷ []) j (longer used k) part next.others (next.back ++ enters k qs) next.is.0 next.value t links split child.is next.is.1.0 next.is.1.1 (omega arith)
      (subst (λ (l : List (List ℕ)). AllByRecursion (λ m. walk_of (bundles m) l ≡ gone) before) path none) end leaf seen.1 (omega (arith, low)) in
      ap (λ (o : Option Data). option_and_then (λ c. data_at ks c) o) next.there ∙ rest

-- ---- the lookup
found_leaf : (b : Bool) (t : Resource) (r : Result Hit LookError) (hit : Hit) → IsAnswer t r → cond b (Err look.PathTooLong) r ≡ Ok hit → hit.tree ≡ t
found_leaf true t r hit a e = absurd cc
found_leaf false t (Ok h) hit a e = let same : h ≡ hit = cc in sym (ap (λ (x : Hit). x.tree) same) ∙ a.0
found_leaf false t (Err f) hit a e = absurd cc

pub all_shown : IsAllShown
all_shown own icu parents n path hit d sorted found tree ks leaf short no_alias sight look is_leaf =
    let s = setting own icu parents n in
    let room = room_below (length path) in
    let ss = segments path in
    let before = sight.before in
    let stop = sight.stop in
    let all = before ++ stop ∷ sight.after in
    let names_same : tree.ns ≡ sight.ns = let f = sym tree.trail ∙ sight.trail in cc in
    let stops_are : stops own tree.ns ≡ all = ap (stops own) names_same ∙ sight.split in
    let no_links = subst (λ (l : List (List ℕ)). NoLinks own l (ss ++ ks)) sight.split (no_alias sight.ns sight.trail) in
    let links = front_links own before sight.after stop (ss ++ ks) no_links in
    let here = front_links own before sight.after stop ss (links_front own all ss ks no_links) in
    let root = ends_of (walk_of (own stop) ss) here.1 (λ g. sight.some (gone_in (own stop) ss ks g)) in
    let end = ends_of (walk_of (own stop) (ss ++ ks)) links.1 sight.some in
    let low = short_path path (search_short 255 s n ss hit found) in
    let long = search_short 255 s n (ss ++ ks) leaf look in
    let fits : keys_len ks ≤ room = ltb-false room (keys_len ks) (sym (long_is path ks low) ∙ long) in
    let p : Part = record { tree = root.tree; most = room } in
    let B = at_path room own sight.after ss in
    let parts : at_path room own all ss ≡ at_path room own before ss ++ p ∷ B =
    stops_append room own before (stop ∷ sight.after) ss ∙ ap (λ (w : Walked). at_path room own before ss ++ (ended room w ++ B)) root.is in
    let decides = subst (λ (l : List Part). Decides 0 l tree.here) (ap (λ (l : List (List ℕ)). at_path room own l ss) stops_are ∙ parts) tree.decides in
    let e : Part = record { tree = end.tree; most = room } in
    let last : at_path room own all (ss ++ ks) ≡ e ∷ at_path room own sight.after (ss ++ ks) =
    stops_append room own before (stop ∷ sight.after) (ss ++ ks)
    ∙ ap (λ (l : List Part). l ++ (ended room (walk_of (own stop) (ss ++ ks)) ++ at_path room own sight.after (ss ++ ks))) (none_there room own before (ss ++ ks) sight.none)
    ∙ ap (λ (w : Walked). ended room w ++ at_path room own sight.after (ss ++ ks)) end.is in
    let first = first_is room own all (ss ++ ks) e (at_path room own sight.after (ss ++ ks)) (links_over own all (ss ++ ks) no_links) last in
    let firsts = subst (λ (l : List (List ℕ)). First own l (ss ++ ks) end.tree) (sym sight.split) first in
    let answer = search_first 255 s n (ss ++ ks) sight.ns end.tree sight.trail firsts in
    let same : leaf.tree ≡ end.tree = found_leaf (is_long (ss ++ ks)) end.tree answer.answer leaf answer.of (sym answer.is ∙ look) in
    let shows = shown own before sight.after stop room sorted ks ss 63 0 p B [] tree.here d end.tree no_links (parts ∙ sym (append-nil (at_path room own before ss ++ p ∷ B))) root.is
    decides tree.value (omega arith) sight.none end.is (subst (λ (x : Resource). IsLeaf (kind_of x)) same is_leaf) sight.seen (omega (arith, fits)) in
    shows ∙ ap (λ (x : Resource). Some (value_of x)) (sym same)
