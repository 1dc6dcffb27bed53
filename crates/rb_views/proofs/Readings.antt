-- Proves properties of an item that denotes a tree.
use Rattle.std.proofs.Common.{◌≡◌, ℕ, suc, ◌*◌, ◌/◌, ◌<◌, ◌≤◌, ◌⊎◌, Bool, true, false, cond, ltb, leb}
use Rattle.std.proofs.Common.{List, length, Option, Some, None, refl, sym, ap, subst, ◌∙◌, arith, inl, inr}
use Rattle.std.specs.Prelude.{IsSome, unwrap_or, ◌&&◌, option_map}
use Rattle.std.proofs.lemmas.Bool.{ltb-true, ltb-false, and_parts}
use Rattle.std.proofs.lemmas.Bool.Decides.{nat_tests}
use Rattle.rb_tree.specs.Resource.{Resource, height, int}
use Rattle.rb_format.specs.declared.kind.ItemKind.{ItemKind}
use Rattle.rb_format.specs.declared.layout.Layout.{Layout}
use Rattle.rb_format.specs.Place.{word_at, layout_of}
use Rattle.rb_format.specs.Item.{kind_of, offset_of, has_data, bare}
use Rattle.rb_format.specs.File.{has_valid_indexes}
use Rattle.rb_format.specs.Denotation.{where_holds, tree_at, value_at, item_at}
use Rattle.rb_format.proofs.Plainly.{plain_limited}
use Rattle.rb_views.specs.inner.Stands.{stands_for, StandsFor}
use Rattle.rb_views.specs.Trees.{item_tree}
use Rattle.rb_views.proofs.Values.{is_some_from, some_eq, then_some}

pub map_some : {A B : Type 0} (f : A → B) (o : Option A) (y : B) → option_map f o ≡ Some y → (x : A) × (o ≡ Some x) × (f x ≡ y)
map_some f (Some x) y e = (x, refl, cc)
map_some f None y e = absurd cc

-- ---- levels

fits_level : (t : Resource) (b : Bool) → cond {A = Option Resource} b (Some t) None ≡ Some t → b ≡ true
fits_level t true e = refl
fits_level t false e = absurd cc

leb_raise : (h d e : ℕ) → leb h d ≡ true → d ≤ e → leb h e ≡ true
leb_raise h d e p q = grind (arith, nat_tests)

pub tree_raise : (y : Layout) (body : List ℕ) (d e item : ℕ) (t : Resource) → tree_at y body d item ≡ Some t → d ≤ e → tree_at y body e item ≡ Some t
tree_raise y body d e item t p q = plain_limited y body d e item t p
    ∙ rw (leb_raise (height t) d e (fits_level t (leb (height t) d) (sym (plain_limited y body d d item t p) ∙ p)) q) refl

pub stands_from : (body : List ℕ) (item : ℕ) (t : Resource) → tree_at (layout_of body) body 64 item ≡ Some t → StandsFor body item × (item_tree body item ≡ t)
unfolding stands_for item_tree
stands_from body item t e = (is_some_from _ t e, ap (λ (o : Option Resource). unwrap_or o (int 0)) e)

-- a child stands for its tree
pub child_stands : (body : List ℕ) (item : ℕ) (t : Resource) → tree_at (layout_of body) body 63 item ≡ Some t → StandsFor body item × (item_tree body item ≡ t)
child_stands body item t e = stands_from body item t (tree_raise (layout_of body) body 63 64 item t e (omega arith))

-- ---- an item has a kind, whose value is its tree

item_value : (y : Layout) (body : List ℕ) (d item : ℕ) (t : Resource) → tree_at y body (suc d) item ≡ Some t
    → (k : ItemKind) × (kind_of item ≡ Some k) × (item_at y body (λ w. tree_at y body d w) (offset_of item) k ≡ Some t)
unfolding tree_at
item_value y body d item t e = then_some (kind_of item) (item_at y body (λ w. tree_at y body d w) (offset_of item)) t e

unwrapped : (o : Option Resource) → IsSome o → o ≡ Some (unwrap_or o (int 0))
unwrapped (Some t) h = refl
unwrapped None h = absurd cc

stood : (body : List ℕ) (item : ℕ) → StandsFor body item → tree_at (layout_of body) body 64 item ≡ Some (item_tree body item)
unfolding stands_for item_tree
stood body item h = unwrapped (tree_at (layout_of body) body 64 item) h

pub record IsOfKind (body : List ℕ) (item : ℕ) (k : ItemKind) : Type 0 where
  pub kind : kind_of item ≡ Some k
  pub value : item_at (layout_of body) body (λ w. tree_at (layout_of body) body 63 w) (offset_of item) k ≡ Some (item_tree body item)

pub has_kind : (body : List ℕ) (item : ℕ) → StandsFor body item → (k : ItemKind) × IsOfKind body item k
has_kind body item h =
    let v = item_value (layout_of body) body 63 item (item_tree body item) (stood body item h) in
    (v.0, record { kind = v.1; value = v.2 })

-- that kind is the one that the word gives
pub of_kind : (body : List ℕ) (item : ℕ) (k : ItemKind) → StandsFor body item → kind_of item ≡ Some k → IsOfKind body item k
of_kind body item k h e =
    let v = has_kind body item h in
    let same : v.0 ≡ k = some_eq v.0 k (sym v.1.kind ∙ e) in
    subst (IsOfKind body item) same v.1

pub no_kind : (body : List ℕ) (item : ℕ) → StandsFor body item → kind_of item ≡ None → ⊥
no_kind body item h e = let v = has_kind body item h in different v.0 (sym v.1.kind ∙ e)
  where
    different : (k : ItemKind) → ◌≡◌ {A = Option ItemKind} (Some k) None → ⊥
    different k e = cc

-- ---- data, or none

pub choice : (b c : Bool) (v : Option Resource) (r t : Resource) → cond b (where_holds c v) (Some r) ≡ Some t
    → ((b ≡ true) × (c ≡ true) × (v ≡ Some t)) ⊎ ((b ≡ false) × (r ≡ t))
choice true true v r t e = inl (refl, refl, e)
choice true false v r t e = absurd cc
choice false c v r t e = inr (refl, cc)

no_offset : (o : ℕ) → ltb 0 o ≡ false → o ≡ 0
no_offset o e = let h = ltb-false 0 o e in omega arith

-- of an item that isn't an Int: data where its offset isn't 0, and else the bare value
pub with_data : (y : Layout) (body : List ℕ) (child : ℕ → Option Resource) (o : ℕ) (k : ItemKind) (t : Resource) → has_data k o ≡ ltb 0 o
    → item_at y body child o k ≡ Some t → 0 < o → (o < y.top) × (value_at y body child o k ≡ Some t)
with_data y body child o k t d e h =
    elim (choice (has_data k o) (leb y.keys_top o && ltb o y.top) (value_at y body child o k) (bare k o) t e) [
      | inl p ↦ (ltb-true o y.top (and_parts (leb y.keys_top o) (ltb o y.top) p.1).1, p.2)
      | inr p ↦ let z = no_offset o (sym d ∙ p.0) in absurd (omega arith)
    ]

no_data : (o : ℕ) → o ≡ 0 → ltb 0 o ≡ true → ⊥
no_data o e h = let l = ltb-true 0 o h in omega arith

pub without_data : (y : Layout) (body : List ℕ) (child : ℕ → Option Resource) (o : ℕ) (k : ItemKind) (t : Resource) → has_data k o ≡ ltb 0 o
    → item_at y body child o k ≡ Some t → o ≡ 0 → bare k o ≡ t
without_data y body child o k t d e z =
    elim (choice (has_data k o) (leb y.keys_top o && ltb o y.top) (value_at y body child o k) (bare k o) t e) [
      | inl p ↦ absurd (no_data o z (sym d ∙ p.0))
      | inr p ↦ p.1
    ]

-- ---- the bounds

laid_within : (body : List ℕ) → has_valid_indexes body ≡ true → word_at body 4 ≤ length body / 4
laid_within body e = grind (arith, nat_tests)

pub laid_long : (body : List ℕ) → has_valid_indexes body ≡ true → 24 ≤ length body
laid_long body e = grind (arith, nat_tests)

pub laid_room : (body : List ℕ) → has_valid_indexes body ≡ true → 4 * word_at body 4 ≤ length body
laid_room body e = let h = laid_within body e in omega arith
