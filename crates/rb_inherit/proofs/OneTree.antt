-- Bundles without aliases have one tree at a path.
use Rattle.std.proofs.Common.{◌≡◌, ◌<◌, ◌++◌, ℕ, zero, suc, List, [], ◌∷◌, Bool, true, false, Option, Some, None, decimal, length, map, nat_lt, refl, sym, ap, subst, ◌∙◌, arith, option_and_then, slice_get}
use Rattle.std.specs.List.{AllByRecursion}
use Rattle.std.specs.Map.{lookup}
use Rattle.std.specs.Prelude.{nat_eq}
use Rattle.std.specs.Cmp.Lexicographic.{pointwise}
use Rattle.serde_json.specs.Data.{Data, array, object}
use Rattle.serde_json.specs.View.{items_of}
use Rattle.rb_tree.specs.Parts.{children_of, kind_of, pairs_of}
use Rattle.rb_tree.specs.Path.{index_of, segments}
use Rattle.rb_tree.specs.Resource.{Resource}
use Rattle.rb_tree.specs.Resource as tree
use Rattle.rb_tree.specs.Walk.{Walked, ends, links, gone, enter}
use Rattle.rb_tree.specs.declared.kind.Kind.{Kind}
use Rattle.rb_tree.specs.declared.kind.Kind.TheVariants as kind
use Rattle.rb_tree.proofs.Walks.{enter_table}
use Rattle.rb_parents.specs.Trail.{Bundles, stops}
use Rattle.rb_fallback.specs.Search.{walk_of}
use Rattle.rb_inherit.specs.Agreement.{AreSorted, HasNoAliases, IsNoLink, IsOneTree}
use Rattle.rb_inherit.specs.Merged.{AreItems, Ascends, Begins, Decides, Here, IsAt, IsItem, IsTree, IsValue, Joins, Layered, Merges, Part, at_key, at_path, ended, fails, item, layered, longer, members_data, nothing, parts_of, room_below, tables}
use Rattle.rb_inherit.proofs.Agrees.{value_here}
use Rattle.rb_inherit.proofs.Deeper.{all_append, deeper_in, enters, source_no_alias}
use Rattle.rb_inherit.proofs.Pointers.{spelled}

module _ (bundles : Bundles) (sorted : AreSorted bundles) (plain : HasNoAliases bundles) where
  -- ---- items of the bundles
  record IsFrom (t : Resource) : Type 0 where
    name : List ℕ
    path : List (List ℕ)
    is : walk_of (bundles name) path ≡ ends t

  from_no_alias : (t : Resource) → IsFrom t → kind_of t ≡ kind.Alias → ⊥
  from_no_alias t f = source_no_alias (bundles f.name) t f.path (plain f.name f.path) f.is

  from_child : (k : List ℕ) (t u : Resource) → IsFrom t → enter k t ≡ Some u → IsFrom u
  from_child k t u f e = by (walk_of (bundles f.name) (f.path ++ k ∷ [])) refl (plain f.name (f.path ++ k ∷ []))
      (deeper_in 0 (bundles f.name) f.path k (plain f.name f.path) ∙ ap (λ (w : Walked). enters k (ended 0 w)) f.is ∙ ap (λ (o : Option Resource). parts_of o 0 ++ []) e)
    where
      by : (w : Walked) → walk_of (bundles f.name) (f.path ++ k ∷ []) ≡ w → IsNoLink w → ended 0 w ≡ record { tree = u; most = 0 } ∷ [] → IsFrom u
      by (ends v) is l same =
          let part : record { tree = v; most = 0 } ≡ record { tree = u; most = 0 } = cc in
          record { name = f.name; path = f.path ++ k ∷ []; is = is ∙ ap (λ (p : Part). ends p.tree) part }
      by (links us walked rest) is l same = absurd l
      by gone is l same = absurd cc

  all_got : {A : Type 0} (P : A → Type 0) (xs : List A) → ((i : ℕ) (x : A) → slice_get xs i ≡ Some x → P x) → AllByRecursion P xs
  all_got P [] f = tt
  all_got P (x ∷ xs) f = (f 0 x refl, all_got P xs (λ i y e. f (suc i) y e))

  got_below : {A : Type 0} (xs : List A) (i : ℕ) (x : A) → slice_get xs i ≡ Some x → i < length xs
  got_below [] i x h = absurd cc
  got_below (y ∷ xs) zero x h = omega arith
  got_below (y ∷ xs) (suc i) x h = omega (arith, got_below xs i x h)

  enter_item : (k : List ℕ) (i : ℕ) (t u : Resource) → kind_of t ≡ kind.Array → index_of k ≡ Some i → slice_get (children_of t) i ≡ Some u → enter k t ≡ Some u
  enter_item k i (tree.array ts) u a e f = ap (λ (o : Option ℕ). option_and_then (slice_get (children_of (tree.array ts))) o) e ∙ f
  enter_item k i _ u a e f = cc

  from_items : (t : Resource) → IsFrom t → kind_of t ≡ kind.Array → AllByRecursion IsFrom (children_of t)
  from_items t f a =
      all_got IsFrom (children_of t) (λ i u e.
      let few = (sorted f.name f.path t f.is).few in
      from_child (decimal i) t u f (enter_item (decimal i) i t u a (spelled i (omega (arith, few, got_below (children_of t) i u e))) e))

  abbrev AreFrom : List Part → Type 0
  AreFrom ps = AllByRecursion (λ p. IsFrom p.tree) ps

  -- a merged table is one of a bundle
  record IsTableFrom (l : Layered) : Type 0 where
    tree : Resource
    from : IsFrom tree
    table : kind_of tree ≡ kind.Table
    entries : l.entries ≡ pairs_of tree

  abbrev IsFine : Here → Type 0
  IsFine nothing = Unit {0}
  IsFine (tables ls) = AllByRecursion IsTableFrom ls
  IsFine (item p) = IsFrom p.tree × ((kind_of p.tree ≡ kind.Table → ⊥) × (kind_of p.tree ≡ kind.Alias → ⊥))
  IsFine (fails e) = Unit {0}

  layered_from : (p : Part) → IsFrom p.tree → kind_of p.tree ≡ kind.Table → IsTableFrom (layered p)
  layered_from p f k = record { tree = p.tree; from = f; table = k; entries = refl }

  fine_merges : (used : ℕ) (ps : List Part) (more : List Layered) → AreFrom ps → Merges used ps more → AllByRecursion IsTableFrom more
  fine_merges used [] more f m = subst (λ (l : List Layered). AllByRecursion IsTableFrom l) (sym m) tt
  fine_merges used (p ∷ ps) more f m = by (λ rest r. fine_merges used ps rest f.1 r) (nat_lt p.most used) (kind_of p.tree) refl m
    where
      none : more ≡ [] → AllByRecursion IsTableFrom more
      none e = subst (λ (l : List Layered). AllByRecursion IsTableFrom l) (sym e) tt

      by : ((rest : List Layered) → Merges used ps rest → AllByRecursion IsTableFrom rest) → (b : Bool) (k : Kind) → kind_of p.tree ≡ k
          → Joins b k p (λ rest. Merges used ps rest) more → AllByRecursion IsTableFrom more
      by on true k e j = none j
      by on false kind.Table e j = subst (λ (l : List Layered). AllByRecursion IsTableFrom l) (sym j.1.0) (layered_from p f.0 e, on j.0 j.1.1)
      by on false kind.Alias e j = absurd (from_no_alias p.tree f.0 e)
      by on false _ e j = none j

  fine_here : (used : ℕ) (ps : List Part) (h : Here) → AreFrom ps → Decides used ps h → IsFine h
  fine_here used [] h f d = subst IsFine (sym d) tt
  fine_here used (p ∷ ps) h f d = by (nat_lt p.most used) (kind_of p.tree) refl d
    where
      is_item : (k : Kind) → kind_of p.tree ≡ k → (k ≡ kind.Table → ⊥) → h ≡ item p → IsFine h
      is_item k e t i = subst IsFine (sym i) (f.0, ((λ x. t (sym e ∙ x)), (λ x. from_no_alias p.tree f.0 x)))

      by : (b : Bool) (k : Kind) → kind_of p.tree ≡ k → Begins b k p (λ rest. Merges used ps rest) h → IsFine h
      by true k e b = subst IsFine (sym b) tt
      by false kind.Table e b = subst IsFine (sym b.1.0) (layered_from p f.0 e, fine_merges used ps b.0 f.1 b.1.1)
      by false kind.Alias e b = absurd (from_no_alias p.tree f.0 e)
      by false k e b = is_item k e (λ x. cc) b

  -- ---- one place
  merges_one : (used : ℕ) (ps : List Part) (a b : List Layered) → AreFrom ps → Merges used ps a → Merges used ps b → a ≡ b
  merges_one used [] a b f m w = m ∙ sym w
  merges_one used (p ∷ ps) a b f m w = by (λ x y r s. merges_one used ps x y f.1 r s) (nat_lt p.most used) (kind_of p.tree) refl m w
    where
      by : ((x y : List Layered) → Merges used ps x → Merges used ps y → x ≡ y) → (c : Bool) (k : Kind) → kind_of p.tree ≡ k
          → Joins c k p (λ rest. Merges used ps rest) a → Joins c k p (λ rest. Merges used ps rest) b → a ≡ b
      by on true k e x y = x ∙ sym y
      by on false kind.Table e x y = x.1.0 ∙ ap (λ (l : List Layered). layered p ∷ l) (on x.0 y.0 x.1.1 y.1.1) ∙ sym y.1.0
      by on false kind.Alias e x y = absurd (from_no_alias p.tree f.0 e)
      by on false _ e x y = x ∙ sym y

  decides_one : (used : ℕ) (ps : List Part) (h g : Here) → AreFrom ps → Decides used ps h → Decides used ps g → h ≡ g
  decides_one used [] h g f x y = x ∙ sym y
  decides_one used (p ∷ ps) h g f x y = by (nat_lt p.most used) (kind_of p.tree) refl x y
    where
      by : (c : Bool) (k : Kind) → kind_of p.tree ≡ k → Begins c k p (λ rest. Merges used ps rest) h → Begins c k p (λ rest. Merges used ps rest) g → h ≡ g
      by true k e x y = x ∙ sym y
      by false kind.Table e x y = x.1.0 ∙ ap (λ (l : List Layered). tables (layered p ∷ l)) (merges_one used ps x.0 y.0 f.1 x.1.1 y.1.1) ∙ sym y.1.0
      by false kind.Alias e x y = absurd (from_no_alias p.tree f.0 e)
      by false _ e x y = x ∙ sym y

  from_key : (k : List ℕ) (ls : List Layered) → AllByRecursion IsTableFrom ls → AreFrom (at_key k ls)
  from_key k [] f = tt
  from_key k (l ∷ ls) f = by (lookup (pointwise nat_eq k) l.entries) refl (from_key k ls f.1)
    where
      by : (o : Option Resource) → lookup (pointwise nat_eq k) l.entries ≡ o → AreFrom (at_key k ls) → AreFrom (parts_of o l.most ++ at_key k ls)
      by None e rest = rest
      by (Some u) e rest =
          (from_child k f.0.tree u f.0.from (enter_table k f.0.tree f.0.table ∙ ap (lookup (pointwise nat_eq k)) (sym f.0.entries) ∙ e), rest)

  ascend_from : (ls : List Layered) → AllByRecursion IsTableFrom ls → AllByRecursion Ascends ls
  ascend_from [] f = tt
  ascend_from (l ∷ ls) f = (rw f.0.entries (sorted f.0.from.name f.0.from.path f.0.tree f.0.from.is).ascend, ascend_from ls f.1)

  -- ---- one value
  abbrev IsOne : (ℕ → Here → Data → Type 0) → Type 0
  IsOne Is = (used : ℕ) (h : Here) (d e : Data) → IsFine h → Is used h d → Is used h e → d ≡ e

  at_one : (Is : ℕ → Here → Data → Type 0) → IsOne Is → (used : ℕ) (k : List ℕ) (ps : List Part) (d e : Data) → AreFrom ps → IsAt Is used k ps d → IsAt Is used k ps e
      → d ≡ e
  at_one Is one used k ps d e f (h, (x, v)) (g, (y, w)) =
      let same = decides_one (longer used k) ps h g f x y in
      one (longer used k) h d e (fine_here (longer used k) ps h f x) v (subst (λ (i : Here). Is (longer used k) i e) (sym same) w)

  members_one : (Is : ℕ → Here → Data → Type 0) → IsOne Is → (used : ℕ) (ls : List Layered) (es fs : List (List ℕ × Data)) → AllByRecursion IsTableFrom ls
      → map (λ e. e.0) es ≡ map (λ e. e.0) fs → AllByRecursion (λ e. IsAt Is used e.0 (at_key e.0 ls) e.1) es → AllByRecursion (λ e. IsAt Is used e.0 (at_key e.0 ls) e.1) fs
      → es ≡ fs
  members_one Is one used ls [] [] fine k a b = refl
  members_one Is one used ls [] (f ∷ fs) fine k a b = absurd cc
  members_one Is one used ls (e ∷ es) [] fine k a b = absurd cc
  members_one Is one used ls ((i, d) ∷ es) ((j, c) ∷ fs) fine k a b =
      let key : i ≡ j = cc in
      let rest : map (λ e. e.0) es ≡ map (λ e. e.0) fs = cc in
      let value : d ≡ c = at_one Is one used i (at_key i ls) d c (from_key i ls fine) a.0 (subst (λ (x : List ℕ). IsAt Is used x (at_key x ls) c) (sym key) b.0) in
      ap (λ (x : List ℕ × Data). x ∷ es) (ap (λ (x : List ℕ). (x, d)) key ∙ ap (λ (x : Data). (j, x)) value)
      ∙ ap (λ (l : List (List ℕ × Data)). (j, c) ∷ l) (members_one Is one used ls es fs fine rest a.1 b.1)

  items_one : (Is : ℕ → Here → Data → Type 0) → IsOne Is → (used most i : ℕ) (ts : List Resource) (ds es : List Data) → AllByRecursion IsFrom ts
      → AreItems Is used most i ts ds → AreItems Is used most i ts es → ds ≡ es
  items_one Is one used most i [] ds es f a b = a ∙ sym b
  items_one Is one used most i (t ∷ ts) [] es f a b = absurd a
  items_one Is one used most i (t ∷ ts) (d ∷ ds) [] f a b = absurd b
  items_one Is one used most i (t ∷ ts) (d ∷ ds) (e ∷ es) f a b =
      ap (λ (x : Data). x ∷ ds) (at_one Is one used (decimal i) (record { tree = t; most = most } ∷ []) d e (f.0, tt) a.0 b.0)
      ∙ ap (λ (l : List Data). e ∷ l) (items_one Is one used most (suc i) ts ds es f.1 a.1 b.1)

  item_one : (Is : ℕ → Here → Data → Type 0) → IsOne Is → (used : ℕ) (k : Kind) (p : Part) (d e : Data) → kind_of p.tree ≡ k → IsFine (item p)
      → IsItem Is used k p d → IsItem Is used k p e → d ≡ e
  item_one Is one used kind.Array p d e k f x y =
      x.1.0 ∙ ap (λ (l : List Data). array (items_of l)) (items_one Is one used p.most 0 (children_of p.tree) x.0 y.0 (from_items p.tree f.0 k) x.1.1 y.1.1) ∙ sym y.1.0
  item_one Is one used kind.Table p d e k f x y = absurd (f.1.0 k)
  item_one Is one used kind.Alias p d e k f x y = absurd (f.1.1 k)
  item_one Is one used _ p d e k f x y = x ∙ sym y

  value_one : (Is : ℕ → Here → Data → Type 0) → IsOne Is → (used : ℕ) (h : Here) (d e : Data) → IsFine h → IsValue Is used h d → IsValue Is used h e → d ≡ e
  value_one Is one used nothing d e f x y = x ∙ sym y
  value_one Is one used (fails l) d e f x y = x ∙ sym y
  value_one Is one used (item p) d e f x y = item_one Is one used (kind_of p.tree) p d e refl f x y
  value_one Is one used (tables ls) d e f x y =
      let a = x.1.1 (ascend_from ls f) in
      let b = y.1.1 (ascend_from ls f) in
      x.1.0 ∙ ap (λ (l : List (List ℕ × Data)). object (members_data l)) (members_one Is one used ls x.0 y.0 f (a.keys ∙ sym b.keys) a.each b.each) ∙ sym y.1.0

  none_left : (used : ℕ) (h : Here) (d e : Data) → IsTree 0 used h d → IsTree 0 used h e → d ≡ e
  unfolding IsTree
  none_left used h d e x y = x ∙ sym y

  tree_one : (n : ℕ) → IsOne (IsTree n)
  tree_one zero used h d e f x y = none_left used h d e x y
  tree_one (suc n) used h d e f x y =
      value_one (λ u g e. IsTree n u g e) (tree_one n) used h d e f (value_here n used h d x) (value_here n used h e y)

  from_stops : (most : ℕ) (ns ss : List (List ℕ)) → AreFrom (at_path most bundles ns ss)
  from_stops most [] ss = tt
  from_stops most (n ∷ ns) ss =
      all_append (λ (p : Part). IsFrom p.tree) (ended most (walk_of (bundles n) ss)) (at_path most bundles ns ss) (by (walk_of (bundles n) ss) refl (plain n ss)) (from_stops most ns ss)
    where
      by : (w : Walked) → walk_of (bundles n) ss ≡ w → IsNoLink w → AreFrom (ended most w)
      by (ends t) e l = (record { name = n; path = ss; is = e }, tt)
      by (links us walked rest) e l = absurd l
      by gone e l = tt

pub one_tree : IsOneTree
one_tree bundles parents n path d e sorted plain x y =
    let ss = segments path in
    let room = room_below (length path) in
    let same : y.ns ≡ x.ns = let f = sym y.trail ∙ x.trail in cc in
    let from = from_stops bundles sorted plain room (stops bundles x.ns) ss in
    let other = subst (λ (l : List (List ℕ)). Decides 0 (at_path room bundles (stops bundles l) ss) y.here) same y.decides in
    let here = decides_one bundles sorted plain 0 (at_path room bundles (stops bundles x.ns) ss) x.here y.here from x.decides other in
    tree_one bundles sorted plain 64 0 x.here d e (fine_here bundles sorted plain 0 (at_path room bundles (stops bundles x.ns) ss) x.here from x.decides) x.value
    (subst (λ (h : Here). IsTree 64 0 h e) (sym here) y.value)
