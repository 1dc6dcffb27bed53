-- The kind of the tree that an item denotes, and the parts of a tree by its kind.
use Rattle.std.proofs.Common.{◌≡◌, ℕ, ◌⊎◌, ltb, List, Option, Some, refl, sym, ap, subst, ◌∙◌, inl, inr}
use Rattle.rb_tree.specs.declared.kind.Kind.{Kind}
use Rattle.rb_tree.specs.declared.kind.Kind.TheVariants as named
use Rattle.rb_tree.specs.Parts as parts
use Rattle.rb_tree.specs.Parts.{HasUnits}
use Rattle.rb_tree.specs.Resource.{Resource, string, table, alias, int, array}
use Rattle.rb_format.specs.declared.kind.ItemKind.{ItemKind}
use Rattle.rb_format.specs.declared.kind.ItemKind.TheVariants.{String, Binary, Table, Alias, LongTable, Int, Array, Ints}
use Rattle.rb_format.specs.declared.layout.Layout.{Layout}
use Rattle.rb_format.specs.Place.{layout_of}
use Rattle.rb_format.specs.Item.{kind_of, offset_of, has_data, bare}
use Rattle.rb_format.specs.Denotation.{tree_at, value_at, item_at}
use Rattle.rb_views.specs.inner.Stands.{StandsFor, kind_named}
use Rattle.rb_views.specs.Trees.{item_tree}
use Rattle.rb_views.specs.Parts.{uint_of}
use Rattle.rb_views.proofs.Values.{some_eq, where_some}
use Rattle.rb_views.proofs.Readings.{map_some, IsOfKind, has_kind, of_kind, choice, without_data}

value_kind : (y : Layout) (body : List ℕ) (child : ℕ → Option Resource) (o : ℕ) (k : ItemKind) (t : Resource) → value_at y body child o k ≡ Some t
    → parts.kind_of t ≡ kind_named k
value_kind y body child o String t e = ap parts.kind_of (sym (map_some string _ t e).2)
value_kind y body child o Binary t e = ap parts.kind_of (sym (some_eq _ t (where_some _ _ t e).1))
value_kind y body child o Table t e = ap parts.kind_of (sym (map_some table _ t e).2)
value_kind y body child o Alias t e = ap parts.kind_of (sym (map_some alias _ t e).2)
value_kind y body child o LongTable t e = ap parts.kind_of (sym (map_some table _ t e).2)
value_kind y body child o Int t e = ap parts.kind_of (sym (some_eq (int o) t e))
value_kind y body child o Array t e = ap parts.kind_of (sym (map_some array _ t (where_some _ _ t e).1).2)
value_kind y body child o Ints t e = ap parts.kind_of (sym (some_eq _ t (where_some _ _ t e).1))

bare_kind : (k : ItemKind) (o : ℕ) → parts.kind_of (bare k o) ≡ kind_named k
bare_kind String o = refl
bare_kind Binary o = refl
bare_kind Table o = refl
bare_kind Alias o = refl
bare_kind LongTable o = refl
bare_kind Int o = refl
bare_kind Array o = refl
bare_kind Ints o = refl

pub tree_kind : (body : List ℕ) (item : ℕ) (k : ItemKind) → StandsFor body item → kind_of item ≡ Some k → parts.kind_of (item_tree body item) ≡ kind_named k
tree_kind body item k h e =
    let v = of_kind body item k h e in
    let y = layout_of body in
    let o = offset_of item in
    elim (choice _ _ (value_at y body (λ w. tree_at y body 63 w) o k) (bare k o) (item_tree body item) v.value) [
      | inl p ↦ value_kind y body (λ w. tree_at y body 63 w) o k (item_tree body item) p.2
      | inr p ↦ ap parts.kind_of (sym p.1) ∙ bare_kind k o
    ]

-- ---- the kinds of item that stand for a tree of one kind

pub only_text : (k : ItemKind) → HasUnits (kind_named k) → (k ≡ String) ⊎ (k ≡ Alias)
only_text String h = inl refl
only_text Alias h = inr refl
only_text other h = absurd h

pub only_binary : (k : ItemKind) → kind_named k ≡ named.Binary → k ≡ Binary
only_binary Binary e = refl
only_binary other e = absurd cc

pub only_int : (k : ItemKind) → kind_named k ≡ named.Int → k ≡ Int
only_int Int e = refl
only_int other e = absurd cc

pub only_ints : (k : ItemKind) → kind_named k ≡ named.Ints → k ≡ Ints
only_ints Ints e = refl
only_ints other e = absurd cc

pub only_array : (k : ItemKind) → kind_named k ≡ named.Array → k ≡ Array
only_array Array e = refl
only_array other e = absurd cc

pub only_table : (k : ItemKind) → kind_named k ≡ named.Table → (k ≡ Table) ⊎ (k ≡ LongTable)
only_table Table e = inl refl
only_table LongTable e = inr refl
only_table other e = absurd cc

-- the kind of an item, from that of its tree
pub kind_back : (body : List ℕ) (item : ℕ) (c : Kind) → StandsFor body item → parts.kind_of (item_tree body item) ≡ c
    → (k : ItemKind) × IsOfKind body item k × (kind_named k ≡ c)
kind_back body item c h e =
    let v = has_kind body item h in
    (v.0, v.1, sym (tree_kind body item v.0 h v.1.kind) ∙ e)

-- if one kind of item alone stands for a kind of tree, an item whose tree is of that kind has that value
pub value_there : (body : List ℕ) (item o : ℕ) (k : ItemKind) (c : Kind) → ((j : ItemKind) → kind_named j ≡ c → j ≡ k) → o ≡ offset_of item
    → StandsFor body item → parts.kind_of (item_tree body item) ≡ c
    → item_at (layout_of body) body (λ w. tree_at (layout_of body) body 63 w) o k ≡ Some (item_tree body item)
value_there body item o k c only same h e =
    let v = kind_back body item c h e in
    let t = item_tree body item in
    let y = layout_of body in
    rw same (subst (λ (j : ItemKind). item_at y body (λ w. tree_at y body 63 w) (offset_of item) j ≡ Some t) (only v.0 v.2) v.1.value)

-- the same without data
pub bare_there : (body : List ℕ) (item o : ℕ) (k : ItemKind) (c : Kind) → ((j : ItemKind) → kind_named j ≡ c → j ≡ k) → has_data k o ≡ ltb 0 o
    → o ≡ offset_of item → StandsFor body item → parts.kind_of (item_tree body item) ≡ c → o ≡ 0 → bare k o ≡ item_tree body item
bare_there body item o k c only d same h e z =
    let y = layout_of body in
    without_data y body (λ w. tree_at y body 63 w) o k (item_tree body item) d (value_there body item o k c only same h e) z

pub uint_is : (t : Resource) → parts.kind_of t ≡ named.Int → uint_of t ≡ Some (parts.int_of t)
uint_is (int n) e = refl
uint_is t e = absurd cc
