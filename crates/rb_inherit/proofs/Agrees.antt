-- Proves that a tree has what lookups find: from a place to the one below it, and to the lookup of its path.
use Rattle.std.proofs.Common.{◌≡◌, ◌+◌, ◌-◌, ◌<◌, ◌≤◌, ◌++◌, ℕ, zero, suc, List, [], ◌∷◌, Bool, true, false, cond, Option, Some, None, Result, Ok, Err, codes, decimal, encode_utf8_all, length, map, nat_lt, refl, sym, ap, subst, ◌∙◌, append_assoc, append-nil, arith, option_and_then, slice_get, zero-add}
use Rattle.std.specs.Option.{ok_or}
use Rattle.std.specs.List.{AllByRecursion, join_with_byte}
use Rattle.std.specs.Map.{lookup}
use Rattle.std.specs.Prelude.{is_some, nat_eq}
use Rattle.std.specs.Ordering.{match_ordering, nat_cmp}
use Rattle.std.specs.declared.cmp.Ordering.{Ordering}
use Rattle.std.specs.declared.cmp.Ordering.TheVariants.{Less, Equal, Greater}
use Rattle.std.specs.Cmp.Lexicographic.{pointwise, slice_cmp}
use Rattle.std.specs.Char.Utf16.{has_unpaired_surrogate, utf16_lossy_chars}
use Rattle.std.proofs.lemmas.Bool.{ltb-false}
use Rattle.std.proofs.lemmas.Slice.Eq.{bytes_eq-Decides}
use Rattle.serde_json.specs.Data.{Data, string}
use Rattle.serde_json.specs.Find.{get_item}
use Rattle.serde_json.specs.View.{items_of}
use Rattle.rb_tree.specs.Parts.{children_of, kind_of}
use Rattle.rb_tree.specs.Path.{index_of, segments}
use Rattle.rb_tree.specs.Resource.{Resource}
use Rattle.rb_tree.specs.Resource as tree
use Rattle.rb_tree.specs.Walk.{Walked, ends, enter, gone, links}
use Rattle.rb_tree.specs.declared.kind.Kind.{Kind}
use Rattle.rb_tree.specs.declared.kind.Kind.TheVariants as kind
use Rattle.rb_json.specs.Leaf.{units_data}
use Rattle.rb_json.specs.Value.{tagged, value_of}
use Rattle.rb_parents.specs.Trail.{Bundles, names, stops, trail}
use Rattle.rb_fallback.proofs.Paths.{segments_joined}
use Rattle.rb_fallback.specs.Alias.{Aim, aim, aims, no_package, no_text, target_of}
use Rattle.rb_fallback.specs.Search.{Decided, Hit, Setting, by_stops, by_trail, decide, follow, go_on, is_long, level, search, setting, step, step_of}
use Rattle.rb_fallback.specs.Words.{look_word}
use Rattle.rb_fallback.specs.declared.fault.LookError.{LookError}
use Rattle.rb_fallback.specs.declared.fault.LookError.TheVariants as look
use Rattle.rb_inherit.specs.Leaves.{IsLeaf}
use Rattle.rb_inherit.specs.Agreement.{AreSorted, IsAllFound, Shows, Tells, child_data, data_at}
use Rattle.rb_inherit.specs.Merged.{AreItems, Refused, alias_fault, fails, fault_of, Ascends, Begins, Decides, Here, IsAt, IsItem, IsTree, IsValue, Joins, Layered, Merges, Part, all_keys, at_key, at_path, error_data, item, layered, longer, members_data, parts_of, room_below, tables, with_key, with_keys}
use Rattle.rb_inherit.proofs.Aliases.{fault_same}
use Rattle.rb_inherit.proofs.Deeper.{AreFine, AreDirect, AreTables, EndsAt, First, IsFine, NoLinks, all_first, all_over, are_fine, deeper, enters, enters_append, first_is, joined_len, keys_append, keys_len, layers_enter, rooms, same_test, shifted}
use Rattle.rb_inherit.proofs.Pointers.{below_tagged, item_there, one_member, spells}
use Rattle.rb_inherit.proofs.Roots.{found_parts}

-- ---- what decides at a place, and its value
abbrev pub Says : Bool → Kind → Resource → Data → Type 0
Says true k t e = e ≡ error_data (look_word look.PathTooLong)
Says false kind.Alias t e = (f : LookError) → alias_fault t ≡ Some f → e ≡ error_data (look_word f)
Says false k t e = Shows k t e

pub value_here : (j used : ℕ) (h : Here) (d : Data) → IsTree (suc j) used h d → IsValue (λ u g e. IsTree j u g e) used h d
unfolding IsTree
value_here j used h d x = x

pub at_item : (Is : ℕ → Here → Data → Type 0) (used : ℕ) (k : Kind) (p : Part) (h : Here) (e : Data) → kind_of p.tree ≡ k → h ≡ item p → IsValue Is used h e → IsItem Is used k p e
at_item Is used k p h e same is v = subst (λ (c : Kind). IsItem Is used c p e) same (subst (λ (g : Here). IsValue Is used g e) is v)

pub said : (Is : ℕ → Here → Data → Type 0) (used : ℕ) (b : Bool) (k : Kind) (p : Part) (Rest : List Layered → Type 0) (h : Here) (e : Data) → kind_of p.tree ≡ k
    → Begins b k p Rest h → IsValue Is used h e → Says b k p.tree e
said Is used true k p Rest h e same is v = subst (λ (g : Here). IsValue Is used g e) is v
said Is used false kind.Table p Rest h e same is v =
    let w = subst (λ (g : Here). IsValue Is used g e) is.1.0 v in
    (members_data w.0, w.1.0)
said Is used false kind.Alias p Rest h e same is v = λ f a.
    let fails_is : h ≡ fails f = subst (λ (o : Option LookError). Refused o h) a is in
    subst (λ (g : Here). IsValue Is used g e) fails_is v
said Is used false kind.Array p Rest h e same is v =
    let w = at_item Is used kind.Array p h e same is v in
    (items_of w.0, w.1.0)
said Is used false kind.String p Rest h e same is v = at_item Is used kind.String p h e same is v
said Is used false kind.Int p Rest h e same is v = at_item Is used kind.Int p h e same is v
said Is used false kind.Ints p Rest h e same is v = at_item Is used kind.Ints p h e same is v
said Is used false kind.Binary p Rest h e same is v = at_item Is used kind.Binary p h e same is v

pub says_shows : (k : Kind) (t : Resource) (e : Data) → (k ≡ kind.Alias → ⊥) → Says false k t e → Shows k t e
says_shows kind.Alias t e a h = absurd (a refl)
says_shows _ t e a h = h

says_error : (k : Kind) (t : Resource) (e : Data) (f : LookError) → k ≡ kind.Alias → alias_fault t ≡ Some f → Says false k t e → e ≡ error_data (look_word f)
says_error kind.Alias t e f k a h = h f a
says_error _ t e f k a h = absurd cc

-- ---- the tables that are merged
pub record Front (ps : List Part) (more : List Layered) : Type 0 where
  pub front : List Part
  pub back : List Part
  pub split : ps ≡ front ++ back
  pub layers : more ≡ map layered front
  pub are : AreTables front

pub front_of : (most used : ℕ) (ps : List Part) (more : List Layered) → AreFine most ps → Merges used ps more → Front ps more
front_of most used [] more f m = record { front = []; back = []; split = refl; layers = m; are = tt }
front_of most used (p ∷ ps) more f m = by (λ rest r. front_of most used ps rest f.1 r) (nat_lt p.most used) (kind_of p.tree) refl f.0.no_alias m
  where
    none : more ≡ [] → Front (p ∷ ps) more
    none e = record { front = []; back = p ∷ ps; split = refl; layers = e; are = tt }

    by : ((rest : List Layered) → Merges used ps rest → Front ps rest) → (b : Bool) (k : Kind) → kind_of p.tree ≡ k → (kind_of p.tree ≡ kind.Alias → ⊥)
        → Joins b k p (λ rest. Merges used ps rest) more → Front (p ∷ ps) more
    by on true k e a j = none j
    by on false kind.Table e a j =
        let f = on j.0 j.1.1 in
        record { front = p ∷ f.front; back = f.back; split = ap (λ l. p ∷ l) f.split; layers = j.1.0 ∙ ap (λ l. layered p ∷ l) f.layers; are = (e, f.are) }
    by on false kind.Alias e a j = absurd (a e)
    by on false _ e a j = none j

pub fine_ascend : (most : ℕ) (ps : List Part) → AreFine most ps → AllByRecursion Ascends (map layered ps)
fine_ascend most [] f = tt
fine_ascend most (p ∷ ps) f = (f.0.sorted.ascend, fine_ascend most ps f.1)

-- ---- merged tables have each of their keys
abbrev IsThere : List ℕ → List (List ℕ × Resource) → Type 0
IsThere k es = is_some (lookup (pointwise nat_eq k) es) ≡ true

there_on : (k : List ℕ) (e : List ℕ × Resource) (es : List (List ℕ × Resource)) → IsThere k es → IsThere k (e ∷ es)
there_on k e es h = by (pointwise nat_eq k e.0)
  where
    by : (b : Bool) → is_some (cond b (Some e.1) (lookup (pointwise nat_eq k) es)) ≡ true
    by true = refl
    by false = h

there_first : (e : List ℕ × Resource) (es : List (List ℕ × Resource)) → IsThere e.0 (e ∷ es)
there_first e es = ap (λ (b : Bool). is_some (cond b (Some e.1) (lookup (pointwise nat_eq e.0) es))) ((bytes_eq-Decides e.0 e.0).1 refl)

all_there : (all es : List (List ℕ × Resource)) → ((k : List ℕ) → IsThere k es → IsThere k all) → AllByRecursion (λ e. IsThere e.0 all) es
all_there all [] f = tt
all_there all (e ∷ es) f = (f e.0 (there_first e es), all_there all es (λ k h. f k (there_on k e es h)))

pub all_change : {A : Type 0} (P Q : A → Type 0) (f : (x : A) → P x → Q x) (xs : List A) → AllByRecursion P xs → AllByRecursion Q xs
all_change P Q f [] h = tt
all_change P Q f (x ∷ xs) h = (f x h.0, all_change P Q f xs h.1)

with_key_all : (P : List ℕ → Type 0) (k : List ℕ) (ks : List (List ℕ)) → P k → AllByRecursion P ks → AllByRecursion P (with_key k ks)
with_key_all P k [] p h = (p, tt)
with_key_all P k (j ∷ js) p h = by (with_key_all P k js p h.1) (slice_cmp nat_cmp k j)
  where
    by : AllByRecursion P (with_key k js) → (r : Ordering) → AllByRecursion P (match_ordering r (k ∷ j ∷ js) (j ∷ js) (j ∷ with_key k js))
    by more Less = (p, h)
    by more Equal = h
    by more Greater = (h.0, more)

with_keys_all : (P : List ℕ → Type 0) (es : List (List ℕ × Resource)) (ks : List (List ℕ)) → AllByRecursion (λ e. P e.0) es → AllByRecursion P ks
    → AllByRecursion P (with_keys es ks)
with_keys_all P [] ks a h = h
with_keys_all P (e ∷ es) ks a h = with_key_all P e.0 (with_keys es ks) a.0 (with_keys_all P es ks a.1 h)

abbrev HasKey : List Layered → List ℕ → Type 0
HasKey ls k = 0 < length (at_key k ls)

key_here : (o : Option Resource) (most : ℕ) (ps : List Part) → is_some o ≡ true → 0 < length (parts_of o most ++ ps)
key_here None most ps h = cc
key_here (Some t) most ps h = omega arith

key_later : (o : Option Resource) (most : ℕ) (ps : List Part) → 0 < length ps → 0 < length (parts_of o most ++ ps)
key_later None most ps h = h
key_later (Some t) most ps h = omega arith

pub all_have : (ls : List Layered) → AllByRecursion (HasKey ls) (all_keys ls)
all_have [] = tt
all_have (l ∷ ls) =
    with_keys_all (HasKey (l ∷ ls)) l.entries (all_keys ls)
    (all_change (λ (e : List ℕ × Resource). IsThere e.0 l.entries) (λ (e : List ℕ × Resource). HasKey (l ∷ ls) e.0)
    (λ e h. key_here (lookup (pointwise nat_eq e.0) l.entries) l.most (at_key e.0 ls) h) l.entries (all_there l.entries l.entries (λ k h. h)))
    (all_change (HasKey ls) (HasKey (l ∷ ls)) (λ k h. key_later (lookup (pointwise nat_eq k) l.entries) l.most (at_key k ls) h) (all_keys ls) (all_have ls))

pub all_firsts : (P : List ℕ → Type 0) (es : List (List ℕ × Data)) → AllByRecursion P (map (λ e. e.0) es) → AllByRecursion (λ (e : List ℕ × Data). P e.0) es
all_firsts P [] h = tt
all_firsts P (e ∷ es) h = (h.0, all_firsts P es h.1)

-- ---- one key deeper
pub then_some : {A B : Type 0} (f : A → Option B) (o : Option A) (b : B) → option_and_then f o ≡ Some b → (a : A) × ((o ≡ Some a) × (f a ≡ Some b))
then_some f None b h = absurd cc
then_some f (Some a) b h = (a, (refl, h))

no_child : (k : List ℕ) (t : Resource) (c : Data) → (kind_of t ≡ kind.Table → ⊥) → (kind_of t ≡ kind.Array → ⊥) → (kind_of t ≡ kind.Alias → ⊥)
    → child_data k (value_of t) ≡ Some c → ⊥
no_child k (tree.string us) c x y z h = by (has_unpaired_surrogate us) h
  where
    by : (b : Bool) → child_data k (cond b (tagged (codes ":units") (units_data us)) (cond b (units_data us) (string (encode_utf8_all (utf16_lossy_chars us))))) ≡ Some c → ⊥
    by true f = below_tagged k 117 (codes "nits") (units_data us) c refl refl f
    by false f = cc
no_child k (tree.int n) c x y z h = cc
no_child k (tree.ints zs) c x y z h = below_tagged k 105 (codes "ntvector") _ c refl refl h
no_child k (tree.binary bs) c x y z h = below_tagged k 98 (codes "in") _ c refl refl h
no_child k (tree.alias us) c x y z h = absurd (z refl)
no_child k (tree.array ts) c x y z h = absurd (y refl)
no_child k (tree.table es) c x y z h = absurd (x refl)

leaf_none : (k : List ℕ) (t : Resource) (d c : Data) → d ≡ value_of t → IsLeaf (kind_of t) → child_data k d ≡ Some c → ⊥
leaf_none k t d c is leaf h =
    no_child k t c (λ e. subst IsLeaf e leaf) (λ e. subst IsLeaf e leaf) (λ e. subst IsLeaf e leaf) (subst (λ (x : Data). child_data k x ≡ Some c) is h)

enter_item : (k : List ℕ) (i : ℕ) (t u : Resource) → kind_of t ≡ kind.Array → index_of k ≡ Some i → slice_get (children_of t) i ≡ Some u → enter k t ≡ Some u
enter_item k i (tree.array ts) u a e f = ap (λ (o : Option ℕ). option_and_then (slice_get (children_of (tree.array ts))) o) e ∙ f
enter_item k i _ u a e f = cc

got_below : {A : Type 0} (xs : List A) (i : ℕ) (x : A) → slice_get xs i ≡ Some x → i < length xs
got_below [] i x h = absurd cc
got_below (y ∷ xs) zero x h = omega arith
got_below (y ∷ xs) (suc i) x h = omega (arith, got_below xs i x h)

record Item (Is : ℕ → Here → Data → Type 0) (used most n i : ℕ) (ts : List Resource) (c : Data) : Type 0 where
  tree : Resource
  there : slice_get ts i ≡ Some tree
  is : IsAt Is used (decimal (n + i)) (record { tree = tree; most = most } ∷ []) c

one_item : (Is : ℕ → Here → Data → Type 0) (used most n i : ℕ) (ts : List Resource) (ds : List Data) (c : Data) → AreItems Is used most n ts ds
    → slice_get ds i ≡ Some c → Item Is used most n i ts c
one_item Is used most n i [] ds c a h = absurd (let e : slice_get [] i ≡ Some c = subst (λ (l : List Data). slice_get l i ≡ Some c) a h in cc)
one_item Is used most n i (t ∷ ts) [] c a h = absurd a
one_item Is used most n zero (t ∷ ts) (d ∷ ds) c a h =
    let same : d ≡ c = cc in
    let index : n ≡ n + 0 = omega arith in
    record {
      tree = t;
      there = refl;
      is = subst (λ (m : ℕ). IsAt Is used (decimal m) (record { tree = t; most = most } ∷ []) c) index
          (subst (λ (e : Data). IsAt Is used (decimal n) (record { tree = t; most = most } ∷ []) e) same a.0);
    }
one_item Is used most n (suc i) (t ∷ ts) (d ∷ ds) c a h =
    let x = one_item Is used most (suc n) i ts ds c a.1 h in
    let index : suc n + i ≡ n + suc i = omega arith in
    record { tree = x.tree; there = x.there; is = subst (λ (m : ℕ). IsAt Is used (decimal m) (record { tree = x.tree; most = most } ∷ []) c) index x.is }

-- the bytes of keys after more keys
abbrev pub keys_after : ℕ → List (List ℕ) → ℕ
keys_after used [] = used
keys_after used (k ∷ ks) = keys_after (longer used k) ks

module _ (bundles : Bundles) (ns : List (List ℕ)) (most : ℕ) where
  at_ss : List (List ℕ) → List Part
  at_ss ss = at_path most bundles ns ss

  -- a value one key deeper: that of the first of the parts there
  record Next (j used : ℕ) (ss : List (List ℕ)) (k : List ℕ) (c : Data) : Type 0 where
    parts : List Part
    others : List Part
    split : at_path most bundles ns (ss ++ k ∷ []) ≡ parts ++ others
    some : 0 < length parts
    is : IsAt (λ u g e. IsTree j u g e) used k parts c

  next_table : (j used : ℕ) (ss : List (List ℕ)) (k : List ℕ) (p : Part) (ps qs : List Part) (rest : List Layered) (d c : Data)
      → NoLinks bundles ns ss → at_path most bundles ns ss ≡ (p ∷ ps) ++ qs → AreFine most (p ∷ ps) → kind_of p.tree ≡ kind.Table
      → Merges used ps rest → IsValue (λ u g e. IsTree j u g e) used (tables (layered p ∷ rest)) d → child_data k d ≡ Some c → Next j used ss k c
  next_table j used ss k p ps qs rest d c no_links is fine kind merges v h =
      let f = front_of most used ps rest fine.1 merges in
      let all = p ∷ f.front in
      let layers : layered p ∷ rest ≡ map layered all = ap (λ (l : List Layered). layered p ∷ l) f.layers in
      let ascend = fine_ascend most (p ∷ ps) fine in
      let ordered : AllByRecursion Ascends (layered p ∷ rest) = (
        ascend.0,
        subst (λ (l : List Layered). AllByRecursion Ascends l) (sym f.layers)
            (fine_ascend most f.front (all_first (IsFine most) f.front f.back (subst (AreFine most) f.split fine.1))),
      ) in
      let members = v.1.1 ordered in
      let got = subst (λ (x : Data). child_data k x ≡ Some c) v.1.0 h in
      let there = one_member (λ (i : List ℕ) (x : Data). HasKey (layered p ∷ rest) i) k v.0 c
      (all_firsts (HasKey (layered p ∷ rest)) v.0 (subst (λ (l : List (List ℕ)). AllByRecursion (HasKey (layered p ∷ rest)) l) (sym members.keys) (all_have (layered p ∷ rest)))) got in
      let value = one_member (λ (i : List ℕ) (x : Data). IsAt (λ u g e. IsTree j u g e) used i (at_key i (layered p ∷ rest)) x) k v.0 c members.each got in
      let same : at_key k (layered p ∷ rest) ≡ enters k all = ap (at_key k) layers ∙ layers_enter k all (kind, f.are) in
      record {
        parts = enters k all;
        others = enters k (f.back ++ qs);
        split = deeper most bundles ns ss k no_links ∙ ap (enters k) (is ∙ ap (λ (l : List Part). p ∷ (l ++ qs)) f.split ∙ ap (λ (l : List Part). p ∷ l) (append_assoc f.front f.back qs))
            ∙ enters_append k all (f.back ++ qs);
        some = subst (λ (l : List Part). 0 < length l) same there;
        is = subst (λ (l : List Part). IsAt (λ u g e. IsTree j u g e) used k l c) same value;
      }

  next_item : (j used : ℕ) (ss : List (List ℕ)) (k : List ℕ) (p : Part) (ps qs : List Part) (d c : Data)
      → NoLinks bundles ns ss → at_path most bundles ns ss ≡ (p ∷ ps) ++ qs → AreFine most (p ∷ ps) → kind_of p.tree ≡ kind.Array
      → IsItem (λ u g e. IsTree j u g e) used kind.Array p d → child_data k d ≡ Some c → Next j used ss k c
  next_item j used ss k p ps qs d c no_links is fine kind v h =
      let index = then_some (λ i. get_item i (items_of v.0)) (index_of k) c (subst (λ (x : Data). child_data k x ≡ Some c) v.1.0 h) in
      let i = index.0 in
      let x = one_item (λ u g e. IsTree j u g e) used p.most 0 i (children_of p.tree) v.0 c v.1.1 (sym (item_there i v.0) ∙ index.1.1) in
      let few = fine.0.sorted.few in
      let key : decimal (0 + i) ≡ k = ap decimal (zero-add i) ∙ spells k i index.1.0 (omega (arith, few, got_below (children_of p.tree) i x.tree x.there)) in
      let entered : enter k p.tree ≡ Some x.tree = enter_item k i p.tree x.tree kind index.1.0 x.there in
      record {
        parts = record { tree = x.tree; most = p.most } ∷ [];
        others = enters k (ps ++ qs);
        split = deeper most bundles ns ss k no_links ∙ ap (enters k) is ∙ ap (λ (o : Option Resource). parts_of o p.most ++ enters k (ps ++ qs)) entered;
        some = omega arith;
        is = subst (λ (w : List ℕ). IsAt (λ u g e. IsTree j u g e) used w (record { tree = x.tree; most = p.most } ∷ []) c) key x.is;
      }

  next_by : (j used : ℕ) (ss : List (List ℕ)) (key : List ℕ) (p : Part) (ps qs : List Part) (h : Here) (d c : Data) (b : Bool) (k : Kind)
      → NoLinks bundles ns ss → at_path most bundles ns ss ≡ (p ∷ ps) ++ qs → AreFine most (p ∷ ps) → kind_of p.tree ≡ k
      → Begins b k p (λ rest. Merges used ps rest) h → IsValue (λ u g e. IsTree j u g e) used h d → child_data key d ≡ Some c → Next j used ss key c
  next_by j used ss key p ps qs h d c true k no_links is fine same b v e =
      let error = subst (λ (g : Here). IsValue (λ u g e. IsTree j u g e) used g d) b v in
      absurd (below_tagged key 101 (codes "rror") _ c refl refl (subst (λ (x : Data). child_data key x ≡ Some c) error e))
  next_by j used ss key p ps qs h d c false kind.Table no_links is fine same b v e =
      next_table j used ss key p ps qs b.0 d c no_links is fine same b.1.1 (subst (λ (g : Here). IsValue (λ u g e. IsTree j u g e) used g d) b.1.0 v) e
  next_by j used ss key p ps qs h d c false kind.Array no_links is fine same b v e =
      next_item j used ss key p ps qs d c no_links is fine same (at_item (λ u g e. IsTree j u g e) used kind.Array p h d same b v) e
  next_by j used ss key p ps qs h d c false kind.Alias no_links is fine same b v e = absurd (fine.0.no_alias same)
  next_by j used ss key p ps qs h d c false kind.String no_links is fine same b v e = absurd (leaf_none key p.tree d c (at_item (λ u g e. IsTree j u g e) used kind.String p h d same b v) (subst IsLeaf (sym same) tt) e)
  next_by j used ss key p ps qs h d c false kind.Int no_links is fine same b v e = absurd (leaf_none key p.tree d c (at_item (λ u g e. IsTree j u g e) used kind.Int p h d same b v) (subst IsLeaf (sym same) tt) e)
  next_by j used ss key p ps qs h d c false kind.Ints no_links is fine same b v e = absurd (leaf_none key p.tree d c (at_item (λ u g e. IsTree j u g e) used kind.Ints p h d same b v) (subst IsLeaf (sym same) tt) e)
  next_by j used ss key p ps qs h d c false kind.Binary no_links is fine same b v e = absurd (leaf_none key p.tree d c (at_item (λ u g e. IsTree j u g e) used kind.Binary p h d same b v) (subst IsLeaf (sym same) tt) e)

  -- the first stop's item at a path, and a value that it decides
  record There (used : ℕ) (ss : List (List ℕ)) (e : Data) : Type 0 where
    first : Part
    others : List Part
    is : at_path most bundles ns ss ≡ first ∷ others
    room : first.most ≡ most
    says : Says (nat_lt first.most used) (kind_of first.tree) first.tree e

  there : (ks ss : List (List ℕ)) (j used : ℕ) (ps qs : List Part) (h : Here) (d e : Data) → AreSorted bundles → AreDirect bundles ns (ss ++ ks)
      → at_path most bundles ns ss ≡ ps ++ qs → 0 < length ps → Decides used ps h → IsTree (suc j) used h d → length ks ≤ j → data_at ks d ≡ Some e
      → There (keys_after used ks) (ss ++ ks) e
  there ks ss j used [] qs h d e sorted over is some decides v short at = absurd (omega arith)
  there [] ss j used (p ∷ ps) qs h d e sorted over is some decides v short at =
      let room = all_first (λ (q : Part). q.most ≡ most) (p ∷ ps) qs (subst (λ (l : List Part). AllByRecursion (λ q. q.most ≡ most) l) is (rooms most bundles ns ss)) in
      let same : d ≡ e = cc in
      record {
        first = p;
        others = ps ++ qs;
        is = ap (λ (l : List (List ℕ)). at_path most bundles ns l) (append-nil ss) ∙ is;
        room = room.0;
        says = said (λ u g e. IsTree j u g e) used (nat_lt p.most used) (kind_of p.tree) p (λ rest. Merges used ps rest) h e refl decides
            (subst (λ (x : Data). IsValue (λ u g e. IsTree j u g e) used h x) same (value_here j used h d v));
      }
  there (k ∷ ks) ss zero used (p ∷ ps) qs h d e sorted over is some decides v short at = absurd (omega arith)
  there (k ∷ ks) ss (suc j) used (p ∷ ps) qs h d e sorted over is some decides v short at =
      let on = subst (AreDirect bundles ns) (shifted ss k ks) over in
      let no_links = all_over bundles ns ss k ks over in
      let fine = all_first (IsFine most) (p ∷ ps) qs (subst (AreFine most) is (are_fine most bundles ns ss sorted no_links)) in
      let child = then_some (λ c. data_at ks c) (child_data k d) e at in
      let next = next_by (suc j) used ss k p ps qs h d child.0 (nat_lt p.most used) (kind_of p.tree) no_links is fine refl decides
      (value_here (suc j) used h d v) child.1.0 in
      let rest = there ks (ss ++ k ∷ []) j (longer used k) next.parts next.others next.is.0 child.0 e sorted on next.split next.some next.is.1.0 next.is.1.1 (omega arith) child.1.1 in
      subst (λ (l : List (List ℕ)). There (keys_after (longer used k) ks) l e) (sym (shifted ss k ks)) rest

pub keys_after_is : (used : ℕ) (ks : List (List ℕ)) → keys_after used ks ≡ used + keys_len ks
keys_after_is used [] = omega arith
keys_after_is used (k ∷ ks) = omega (arith, keys_after_is (longer used k) ks)

-- ---- the lookup
by_stops_is : (bundles : Bundles) (ns ss : List (List ℕ)) (d : Decided) → decide bundles ns ss ≡ Some d → by_stops bundles ns ss ≡ Ok d
by_stops_is bundles [] ss d h = absurd cc
by_stops_is bundles (n ∷ ns) ss d h = ap (λ (o : Option Decided). ok_or o look.Missing) h

-- what a lookup answers where an item decides
abbrev pub IsAnswer : Resource → Result Hit LookError → Type 0
IsAnswer t (Ok hit) = (hit.tree ≡ t) × (kind_of t ≡ kind.Alias → ⊥)
IsAnswer t (Err e) = (kind_of t ≡ kind.Alias) × (alias_fault t ≡ Some e)

follow_fault : (a : Aim) (icu : Bool) (walked rest : List (List ℕ)) (e : LookError) → fault_of a ≡ Some e → follow rest (target_of a icu walked) ≡ Err e
follow_fault (aims icu n ss) in_icu walked rest e h = absurd cc
follow_fault no_text icu walked rest e h = let same : look.AliasText ≡ e = cc in ap (λ (x : LookError). Err x) same
follow_fault no_package icu walked rest e h = let same : look.AliasPackage ≡ e = cc in ap (λ (x : LookError). Err x) same

pub record Answered (k : ℕ) (s : Setting) (n : List ℕ) (ss : List (List ℕ)) (t : Resource) : Type 0 where
  pub answer : Result Hit LookError
  pub is : search (suc k) s false n ss ≡ cond (is_long ss) (Err look.PathTooLong) answer
  pub of : IsAnswer t answer

step_answer : (go : Bool → List ℕ → List (List ℕ) → Result Hit LookError) (valid stop : List ℕ) (t : Resource) (w : Walked) → EndsAt w t
    → (r : Result Hit LookError) × ((go_on go (step_of false valid stop w) ≡ r) × IsAnswer t r)
step_answer go valid stop t (ends u) e = (Ok (record { tree = u; actual = stop }), (refl, e))
step_answer go valid stop t (links us walked []) e =
    let f = e.1.0 in
    let fault : fault_of (aim us valid) ≡ Some f = fault_same valid [] us ∙ (sym (ap alias_fault e.0) ∙ e.1.1) in
    (Err f, (ap (go_on go) (follow_fault (aim us valid) false walked [] f fault), (ap kind_of e.0, e.1.1)))
step_answer go valid stop t (links us walked (s ∷ rest)) e = absurd e
step_answer go valid stop t gone e = absurd e

pub search_first : (k : ℕ) (s : Setting) (n : List ℕ) (ss ns : List (List ℕ)) (t : Resource) → trail s.own s.parents n ≡ names ns
    → First s.own (stops s.own ns) ss t → Answered k s n ss t
unfolding search
search_first k s n ss ns t tr f =
    let level_is : level s.own s.parents n ss ≡ Ok (record { stop = f.stop; walked = f.walked }) =
    ap (λ x. by_trail s.own x ss) tr ∙ by_stops_is s.own (stops s.own ns) ss (record { stop = f.stop; walked = f.walked }) f.is in
    let a = step_answer (λ p m ts. search k s p m ts) s.valid f.stop t f.walked f.ends in
    record {
      answer = a.0;
      is = ap (λ (r : Result Decided LookError). cond (is_long ss) (Err look.PathTooLong) (go_on (λ p m ts. search k s p m ts) (step false s.valid r))) level_is
          ∙ ap (λ (r : Result Hit LookError). cond (is_long ss) (Err look.PathTooLong) r) a.1.0;
      of = a.1.1;
    }

-- a path that a lookup finds isn't too long
pub search_short : (k : ℕ) (s : Setting) (n : List ℕ) (ss : List (List ℕ)) (hit : Hit) → search (suc k) s false n ss ≡ Ok hit → is_long ss ≡ false
unfolding search
search_short k s n ss hit e = by (is_long ss) e
  where
    by : (b : Bool) → cond b (Err look.PathTooLong) (go_on (λ p m ts. search k s p m ts) (step false s.valid (level s.own s.parents n ss))) ≡ Ok hit → b ≡ false
    by true f = absurd cc
    by false f = refl

path_len : (path : List ℕ) → length path ≡ keys_len (segments path) - 1
path_len path = ap (λ (l : List ℕ). length l) (sym (segments_joined path)) ∙ joined_len (segments path)

pub long_is : (path : List ℕ) (ks : List (List ℕ)) → length path ≤ 1024 → is_long (segments path ++ ks) ≡ nat_lt (room_below (length path)) (keys_len ks)
long_is [] ks h =
    ap (nat_lt 1024) (joined_len ks) ∙ same_test 1024 (keys_len ks - 1) 1025 (keys_len ks) (λ l. omega arith) (λ l. omega arith)
long_is (b ∷ bs) ks h =
    let ss = segments (b ∷ bs) in
    let len = path_len (b ∷ bs) in
    let total = keys_append ss ks in
    ap (nat_lt 1024) (joined_len (ss ++ ks)) ∙ same_test 1024 (keys_len (ss ++ ks) - 1) (1024 - suc (length bs)) (keys_len ks)
    (λ l. omega (arith, len, total)) (λ l. omega (arith, len, total))

pub short_path : (path : List ℕ) → is_long (segments path) ≡ false → length path ≤ 1024
short_path path h = let l = ltb-false 1024 (length (join_with_byte 47 (segments path))) h in omega (arith, ap (λ (l : List ℕ). length l) (segments_joined path))

tells : (b : Bool) (t : Resource) (r : Result Hit LookError) (e : Data) → IsAnswer t r → Says b (kind_of t) t e → Tells (cond b (Err look.PathTooLong) r) e
tells true t r e a h = h
tells false t (Ok hit) e a h = subst (λ (u : Resource). Shows (kind_of u) u e) (sym a.0) (says_shows (kind_of t) t e a.1 h)
tells false t (Err f) e a h = says_error (kind_of t) t e f a.0 a.1 h

pub all_found : IsAllFound
all_found own icu parents n path hit d sorted found tree ks e short no_alias at =
    let s = setting own icu parents n in
    let room = room_below (length path) in
    let ns = stops own tree.ns in
    let ss = segments path in
    let parts = found_parts own icu parents n path hit found in
    let same : parts.ns ≡ tree.ns = let f = sym parts.trail ∙ tree.trail in cc in
    let some = subst (λ (l : List (List ℕ)). 0 < length (at_path room own (stops own l) ss)) same parts.some in
    let over = no_alias tree.ns tree.trail in
    let low = short_path path (search_short 255 s n ss hit found) in
    let t = there own ns room ks ss 63 0 (at_path room own ns ss) [] tree.here d e sorted over (sym (append-nil (at_path room own ns ss))) some tree.decides tree.value
    (omega arith) at in
    let first = first_is room own ns (ss ++ ks) t.first t.others over t.is in
    let answer = search_first 255 s n (ss ++ ks) tree.ns t.first.tree tree.trail first in
    let used = keys_after_is 0 ks in
    let long : nat_lt t.first.most (keys_after 0 ks) ≡ is_long (ss ++ ks) =
    ap (λ (m : ℕ). nat_lt m (keys_after 0 ks)) t.room ∙ ap (nat_lt room) (used ∙ zero-add (keys_len ks)) ∙ sym (long_is path ks low) in
    subst (λ (r : Result Hit LookError). Tells r e) (sym answer.is)
    (subst (λ (b : Bool). Tells (cond b (Err look.PathTooLong) answer.answer) e) long
    (tells (nat_lt t.first.most (keys_after 0 ks)) t.first.tree answer.answer e answer.of t.says))
