-- The entries of merged tables and the items of arrays, as they are written one after another.
use Rattle.std.proofs.Common.{◌≡◌, ◌+◌, ◌≤◌, ◌++◌, ℕ, zero, suc, List, [], ◌∷◌, Some, decimal, length, map, take, drop, refl, sym, ap, subst, ◌∙◌, append_assoc, add-one, zero-add, arith, slice_get}
use Rattle.std.proofs.Math.Seq.{drop-append_seam, take-append_seam}
use Rattle.std.proofs.lemmas.List.{length-append, length-drop, length-map, length-take-le, take_all}
use Rattle.std.specs.List.{AllByRecursion}
use Rattle.json.specs.Print.{quoted}
use Rattle.serde_json.specs.Data.{Data}
use Rattle.serde_json.specs.Written.{compact_text}
use Rattle.rb_tree.specs.Resource.{Resource}
use Rattle.rb_tree.specs.declared.node.Node.{Ghosts}
use Rattle.rb_json.specs.Parts.{comma_before}
use Rattle.rb_json.specs.Value.{key_text}
use Rattle.rb_json.specs.inner.Listed.{listed}
use Rattle.rb_inherit.specs.declared.layer.Layer.{Layer}
use Rattle.rb_inherit.specs.Merged.{AreItems, Ascends, Here, IsAt, Layered, Part, all_keys, at_key}
use Rattle.rb_inherit.specs.inner.Earlier.{layered_in}
use Rattle.rb_inherit.specs.inner.Merging.{HasNoKey, IsLeast, key_in, moved, next_parts}
use Rattle.rb_inherit.specs.inner.Written.{WritesItems, WritesMembers, entry_text}
use Rattle.rb_inherit.specs.Merged.{Writes}
use Rattle.rb_inherit.proofs.Keys.{heads_at}
use Rattle.rb_inherit.proofs.Layers.{all_moved, end_least, has_least, next_least, parts_next}
use Rattle.rb_inherit.proofs.Members.{Merging, Total, items_some, members_some, merging_all, merging_more, merging_none, merging_rest}
use Rattle.rb_inherit.proofs.Texts.{entries_skipped, entry_more}

-- of the layers from `from` on, as they were at first, `i` entries were written
pub record Entered {N : Type 0} {G : Ghosts N} (tree : N → Resource) (Takes : List ℕ → Type 0) (Is : ℕ → Here → Data → Type 0) (used from : ℕ)
    (old now : List (Layer N G)) (i : ℕ) : Type 0 where
  pub members : List (List ℕ × Data)
  pub layers : take from now ≡ take from old
  pub len : length now ≡ length old
  pub takes : Takes (listed entry_text members)
  pub count : length members ≡ i
  pub merging : AllByRecursion Ascends (layered_in tree (drop from old))
      → Merging Is used (layered_in tree (drop from old)) (layered_in tree (drop from now)) members

pub entered_none : {N : Type 0} {G : Ghosts N} (tree : N → Resource) (Takes : List ℕ → Type 0) (Is : ℕ → Here → Data → Type 0) (used from : ℕ)
    (old : List (Layer N G)) → Takes [] → Entered tree Takes Is used from old old 0
entered_none tree Takes Is used from old h = record {
  members = [];
  layers = refl;
  len = refl;
  takes = h;
  count = refl;
  merging = λ a. merging_none Is used (layered_in tree (drop from old)) a;
}

front_len : {A : Type 0} (f : A → A) (from : ℕ) (now : List A) → from ≤ length now → length (take from now ++ map f (drop from now)) ≡ length now
front_len f from now le =
    length-append (take from now) (map f (drop from now))
    ∙ omega (arith, length-take-le from now le, length-map (drop from now) f, length-drop from now)

take_front : {A : Type 0} (f : A → A) (from : ℕ) (now : List A) → from ≤ length now → take from (take from now ++ map f (drop from now)) ≡ take from now
take_front f from now le =
    subst (λ (n : ℕ). take n (take from now ++ map f (drop from now)) ≡ take from now) (length-take-le from now le) (take-append_seam (take from now) (map f (drop from now)))

drop_front : {A : Type 0} (f : A → A) (from : ℕ) (now : List A) → from ≤ length now → drop from (take from now ++ map f (drop from now)) ≡ map f (drop from now)
drop_front f from now le =
    subst (λ (n : ℕ). drop n (take from now ++ map f (drop from now)) ≡ map f (drop from now)) (length-take-le from now le) (drop-append_seam (take from now) (map f (drop from now)))

-- ---- the items of an array
-- `i` items were written
pub record ItemsSoFar (Takes : List ℕ → Type 0) (Is : ℕ → Here → Data → Type 0) (used most : ℕ) (ts : List Resource) (i : ℕ) : Type 0 where
  pub items : List Data
  pub takes : Takes (listed compact_text items)
  pub count : length items ≡ i
  pub are : AreItems Is used most 0 (take i ts) items

item_more : (Is : ℕ → Here → Data → Type 0) (used most j i n : ℕ) (ts : List Resource) (t : Resource) (ds : List Data) (d : Data) → n ≡ j + i → slice_get ts i ≡ Some t
    → AreItems Is used most j (take i ts) ds → IsAt Is used (decimal n) (record { tree = t; most = most } ∷ []) d → AreItems Is used most j (take (suc i) ts) (ds ++ d ∷ [])
item_more Is used most j i n [] t ds d e got are is = absurd cc
item_more Is used most j zero n (u ∷ ts) t ds d e got are is =
    let none : ds ≡ [] = are in
    let index : n ≡ j = omega arith in
    let same : t ≡ u = cc in
    subst (λ (l : List Data). AreItems Is used most j (u ∷ []) (l ++ d ∷ [])) (sym none) (
      subst (λ (m : ℕ). IsAt Is used (decimal m) (record { tree = u; most = most } ∷ []) d) index
          (subst (λ (v : Resource). IsAt Is used (decimal n) (record { tree = v; most = most } ∷ []) d) same is),
      refl,
    )
item_more Is used most j (suc i) n (u ∷ ts) t [] d e got are is = absurd are
item_more Is used most j (suc i) n (u ∷ ts) t (c ∷ ds) d e got are is =
    (are.0, item_more Is used most (suc j) i n ts t ds d (omega arith) got are.1 is)

items_rest : (Is : ℕ → Here → Data → Type 0) (used most j i n : ℕ) (ts : List Resource) (ds more : List Data) → n ≡ j + i → i ≤ length ts
    → AreItems Is used most j (take i ts) ds → AreItems Is used most n (drop i ts) more → AreItems Is used most j ts (ds ++ more)
items_rest Is used most j zero n ts ds more e le are rest =
    let none : ds ≡ [] = are in
    let index : n ≡ j = omega arith in
    subst (λ (l : List Data). AreItems Is used most j ts (l ++ more)) (sym none) (subst (λ (m : ℕ). AreItems Is used most m ts more) index rest)
items_rest Is used most j (suc i) n [] ds more e le are rest = absurd (omega arith)
items_rest Is used most j (suc i) n (t ∷ ts) [] more e le are rest = absurd are
items_rest Is used most j (suc i) n (t ∷ ts) (d ∷ ds) more e le are rest =
    (are.0, items_rest Is used most (suc j) i n ts ds more (omega arith) (omega arith) are.1 rest)

pub items_none : (Takes : List ℕ → Type 0) (Is : ℕ → Here → Data → Type 0) (used most : ℕ) (ts : List Resource) → Takes [] → ItemsSoFar Takes Is used most ts 0
items_none Takes Is used most ts h = record { items = []; takes = h; count = refl; are = refl }

pub items_all : (Takes : List ℕ → Type 0) (Is : ℕ → Here → Data → Type 0) (used most : ℕ) (ts : List Resource) (i : ℕ) → ItemsSoFar Takes Is used most ts i
    → length ts ≤ i → WritesItems Takes Is used most ts
items_all Takes Is used most ts i e le = record {
  items = e.items;
  takes = e.takes;
  are = subst (λ (l : List Resource). AreItems Is used most 0 l e.items) (take_all i ts le) e.are;
}

module _ {S : Type 0} (Takes : S → S → List ℕ → Type 0) (joined : (x y z : S) (a b : List ℕ) → Takes x y a → Takes y z b → Takes x z (a ++ b)) where
  pub entered_more : {N : Type 0} {G : Ghosts N} (tree : N → Resource) (Is : ℕ → Here → Data → Type 0) (used from to first : ℕ) (old now new : List (Layer N G)) (i : ℕ)
      (w x y z v : S) (k : List ℕ) → Entered tree (Takes w x) Is used from old now i → from ≤ length old → to ≡ length old
      → IsLeast (key_in tree now) from to first → key_in tree now first ≡ Some k
      → Takes x y (comma_before i) → Takes y z (quoted (key_text k) ++ 58 ∷ []) → Writes (Takes z v) (IsAt Is used k (next_parts tree k (drop from now)))
      → new ≡ take from now ++ map (λ l. moved tree k l) (drop from now) → Entered tree (Takes w v) Is used from old new (i + 1)
  entered_more {N} {G} tree Is used from to first old now new i w x y z v k e le all least key comma name text moves =
      let within : from ≤ length now = omega (arith, e.len) in
      let front : take from new ≡ take from now = ap (λ (l : List (Layer N G)). take from l) moves ∙ take_front (λ l. moved tree k l) from now within in
      let back : drop from new ≡ map (λ l. moved tree k l) (drop from now) = ap (λ (l : List (Layer N G)). drop from l) moves ∙ drop_front (λ l. moved tree k l) from now within in
      let whole : Takes y v (entry_text (k, text.value)) =
      subst (Takes y v) (append_assoc (quoted (key_text k)) (58 ∷ []) (compact_text text.value)) (joined y z v (quoted (key_text k) ++ 58 ∷ []) (compact_text text.value) name text.takes) in
      record {
        members = e.members ++ (k, text.value) ∷ [];
        layers = front ∙ e.layers;
        len = ap length moves ∙ (front_len (λ l. moved tree k l) from now within ∙ e.len);
        takes = entry_more Takes joined w x y v entry_text e.members i (k, text.value) e.count e.takes comma whole;
        count = length-append e.members ((k, text.value) ∷ []) ∙ ap (λ (n : ℕ). n + 1) e.count;
        merging = λ a.
            let m = e.merging a in
            let n = next_least tree now from to first k (omega (arith, e.len)) least key m.ascend in
            let at : next_parts tree k (drop from now) ≡ at_key k (layered_in tree (drop from now)) = parts_next tree k (drop from now) ∙ heads_at k (layered_in tree (drop from now)) n in
            subst (λ (ls : List Layered). Merging Is used (layered_in tree (drop from old)) ls (e.members ++ (k, text.value) ∷ []))
            (sym (ap (λ (l : List (Layer N G)). layered_in tree l) back ∙ all_moved tree k (drop from now)))
            (merging_more Is used (layered_in tree (drop from old)) (layered_in tree (drop from now)) e.members k text.value m n (has_least tree now from first k least.begins key)
            (subst (λ (ps : List Part). IsAt Is used k ps text.value) at text.is));
      }

  pub entered_skipped : {N : Type 0} {G : Ghosts N} (tree : N → Resource) (Is : ℕ → Here → Data → Type 0) (used from : ℕ) (old now : List (Layer N G)) (i : ℕ)
      (w x y : S) → Total Is → Entered tree (Takes w x) Is used from old now i → ((bytes : List ℕ) → Takes x y bytes)
      → WritesMembers (Takes w y) Is used (layered_in tree (drop from old))
  entered_skipped tree Is used from old now i w x y total e skips =
      let more = members_some Is total used (layered_in tree (drop from old)) (all_keys (layered_in tree (drop from now))) in
      record {
        members = e.members ++ more.0;
        takes = entries_skipped Takes joined w x y entry_text e.members more.0 e.takes skips;
        are = λ a. merging_rest Is used (layered_in tree (drop from old)) (layered_in tree (drop from now)) e.members more.0 (e.merging a) more.1.0 more.1.1;
      }

  pub items_skipped : (Is : ℕ → Here → Data → Type 0) (used most : ℕ) (ts : List Resource) (i : ℕ) (w x y : S) → Total Is → ItemsSoFar (Takes w x) Is used most ts i
      → i ≤ length ts → ((bytes : List ℕ) → Takes x y bytes) → WritesItems (Takes w y) Is used most ts
  items_skipped Is used most ts i w x y total e le skips =
      let more = items_some Is total used most i (drop i ts) in
      record {
        items = e.items ++ more.0;
        takes = entries_skipped Takes joined w x y compact_text e.items more.0 e.takes skips;
        are = items_rest Is used most 0 i i ts e.items more.0 (omega arith) le e.are more.1;
      }

  pub items_more : (Is : ℕ → Here → Data → Type 0) (used most : ℕ) (ts : List Resource) (i : ℕ) (t : Resource) (w x y z : S) → ItemsSoFar (Takes w x) Is used most ts i
      → slice_get ts i ≡ Some t → Takes x y (comma_before i) → Writes (Takes y z) (IsAt Is used (decimal i) (record { tree = t; most = most } ∷ []))
      → ItemsSoFar (Takes w z) Is used most ts (i + 1)
  items_more Is used most ts i t w x y z e got comma text = record {
    items = e.items ++ text.value ∷ [];
    takes = entry_more Takes joined w x y z compact_text e.items i text.value e.count e.takes comma text.takes;
    count = length-append e.items (text.value ∷ []) ∙ ap (λ (n : ℕ). n + 1) e.count;
    are = subst (λ (n : ℕ). AreItems Is used most 0 (take n ts) (e.items ++ text.value ∷ [])) (sym (add-one i)) (item_more Is used most 0 i i ts t e.items text.value (sym (zero-add i)) got e.are text.is);
  }

pub entered_all : {N : Type 0} {G : Ghosts N} (tree : N → Resource) (Takes : List ℕ → Type 0) (Is : ℕ → Here → Data → Type 0) (used from to : ℕ)
    (old now : List (Layer N G)) (i : ℕ) → Entered tree Takes Is used from old now i → to ≡ length old → HasNoKey (key_in tree now) from to
    → WritesMembers Takes Is used (layered_in tree (drop from old))
entered_all tree Takes Is used from to old now i e all none = record {
  members = e.members;
  takes = e.takes;
  are = λ a. merging_all Is used (layered_in tree (drop from old)) (layered_in tree (drop from now)) e.members (e.merging a)
      (end_least tree now from to none.0 (omega (arith, e.len)) none.1.0 none.1.1);
}
