-- Proves where the contents of an item without children are.
use Rattle.std.proofs.Common.{◌≡◌, ℕ, ◌+◌, ◌*◌, ◌<◌, ◌≤◌, ◌⊎◌, List, [], take, drop, Option, Some, refl, sym, ap, subst, ◌∙◌, inl, inr}
use Rattle.std.specs.Int.{cast_signed, w32}
use Rattle.std.proofs.lemmas.Bool.{leb-true}
use Rattle.rb_tree.specs.declared.kind.Kind.TheVariants as named
use Rattle.rb_tree.specs.Parts as parts
use Rattle.rb_tree.specs.Parts.{HasUnits}
use Rattle.rb_tree.specs.Resource.{Resource, string, alias, int}
use Rattle.rb_format.specs.declared.kind.ItemKind.{ItemKind}
use Rattle.rb_format.specs.declared.kind.ItemKind.TheVariants.{String, Binary, Alias, Int, Ints}
use Rattle.rb_format.specs.declared.layout.Layout.{Layout}
use Rattle.rb_format.specs.Place.{word_at, half_at, values, layout_of}
use Rattle.rb_format.specs.Item.{offset_of}
use Rattle.rb_format.specs.Denotation.{tree_at, units_at, item_at}
use Rattle.rb_views.specs.inner.Stands.{StandsFor}
use Rattle.rb_views.specs.Trees.{item_tree}
use Rattle.rb_views.proofs.Values.{some_eq, where_some, values_map}
use Rattle.rb_views.proofs.Readings.{map_some, with_data, without_data}
use Rattle.rb_views.proofs.TreeKinds.{kind_back, value_there, bare_there, only_text, only_binary, only_int, only_ints}

-- ---- texts

pub record HasUnitsAt (body : List ℕ) (o : ℕ) (t : Resource) : Type 0 where
  pub room : 4 * o + 6 + 2 * word_at body o ≤ 4 * (layout_of body).top
  pub are : values (half_at body) (2 * o + 2) (word_at body o) ≡ parts.units_of t

units_value : (y : Layout) (body : List ℕ) (o : ℕ) (us : List ℕ) → units_at y body o ≡ Some us
    → (4 * o + 6 + 2 * word_at body o ≤ 4 * y.top) × (values (half_at body) (2 * o + 2) (word_at body o) ≡ us)
units_value y body o us e =
    let a = where_some _ _ us e in
    let b = where_some _ _ us a.1 in
    (leb-true (4 * o + 6 + 2 * word_at body o) (4 * y.top) a.0, some_eq _ us b.1)

text_at : (body : List ℕ) (o : ℕ) (child : ℕ → Option Resource) (k : ItemKind) (t : Resource) → (k ≡ String) ⊎ (k ≡ Alias)
    → item_at (layout_of body) body child o k ≡ Some t → 0 < o → HasUnitsAt body o t
text_at body o child k t (inl s) e h =
    let y = layout_of body in
    let v = with_data y body child o String t refl (subst (λ (j : ItemKind). item_at y body child o j ≡ Some t) s e) h in
    let m = map_some string (units_at y body o) t v.1 in
    let u = units_value y body o m.0 m.1 in
    record { room = u.0; are = u.1 ∙ ap parts.units_of m.2 }
text_at body o child k t (inr s) e h =
    let y = layout_of body in
    let v = with_data y body child o Alias t refl (subst (λ (j : ItemKind). item_at y body child o j ≡ Some t) s e) h in
    let m = map_some alias (units_at y body o) t v.1 in
    let u = units_value y body o m.0 m.1 in
    record { room = u.0; are = u.1 ∙ ap parts.units_of m.2 }

no_text_at : (y : Layout) (body : List ℕ) (o : ℕ) (child : ℕ → Option Resource) (k : ItemKind) (t : Resource) → (k ≡ String) ⊎ (k ≡ Alias)
    → item_at y body child o k ≡ Some t → o ≡ 0 → [] ≡ parts.units_of t
no_text_at y body o child k t (inl s) e z = ap parts.units_of
    (without_data y body child o String t refl (subst (λ (j : ItemKind). item_at y body child o j ≡ Some t) s e) z)
no_text_at y body o child k t (inr s) e z = ap parts.units_of
    (without_data y body child o Alias t refl (subst (λ (j : ItemKind). item_at y body child o j ≡ Some t) s e) z)

pub units_there : (body : List ℕ) (item o : ℕ) → o ≡ offset_of item → StandsFor body item → HasUnits (parts.kind_of (item_tree body item)) → 0 < o
    → HasUnitsAt body o (item_tree body item)
units_there body item o same h u p =
    let v = kind_back body item (parts.kind_of (item_tree body item)) h refl in
    let k = only_text v.0 (subst HasUnits (sym v.2) u) in
    text_at body o (λ w. tree_at (layout_of body) body 63 w) v.0 (item_tree body item) k (rw same v.1.value) p

pub units_none : (body : List ℕ) (item o : ℕ) → o ≡ offset_of item → StandsFor body item → HasUnits (parts.kind_of (item_tree body item)) → o ≡ 0
    → [] ≡ parts.units_of (item_tree body item)
units_none body item o same h u z =
    let v = kind_back body item (parts.kind_of (item_tree body item)) h refl in
    let k = only_text v.0 (subst HasUnits (sym v.2) u) in
    no_text_at (layout_of body) body o (λ w. tree_at (layout_of body) body 63 w) v.0 (item_tree body item) k (rw same v.1.value) z

-- ---- numbers

pub record HasNumbersAt (body : List ℕ) (o : ℕ) (t : Resource) : Type 0 where
  pub room : o + 1 + word_at body o ≤ (layout_of body).top
  pub are : values (λ i. cast_signed w32 (word_at body i)) (o + 1) (word_at body o) ≡ parts.numbers_of t

ints_at : (body : List ℕ) (o : ℕ) (child : ℕ → Option Resource) (t : Resource) → item_at (layout_of body) body child o Ints ≡ Some t → 0 < o
    → HasNumbersAt body o t
ints_at body o child t e h =
    let y = layout_of body in
    let v = with_data y body child o Ints t refl e h in
    let a = where_some _ _ t v.1 in
    record {
      room = leb-true (o + 1 + word_at body o) y.top a.0;
      are = sym (values_map (cast_signed w32) (word_at body) (o + 1) (word_at body o)) ∙ ap parts.numbers_of (some_eq _ t a.1);
    }

pub numbers_there : (body : List ℕ) (item o : ℕ) → o ≡ offset_of item → StandsFor body item → parts.kind_of (item_tree body item) ≡ named.Ints → 0 < o
    → HasNumbersAt body o (item_tree body item)
numbers_there body item o same h e p =
    ints_at body o (λ w. tree_at (layout_of body) body 63 w) (item_tree body item) (value_there body item o Ints named.Ints only_ints same h e) p

pub numbers_none : (body : List ℕ) (item o : ℕ) → o ≡ offset_of item → StandsFor body item → parts.kind_of (item_tree body item) ≡ named.Ints → o ≡ 0
    → [] ≡ parts.numbers_of (item_tree body item)
numbers_none body item o same h e z = ap parts.numbers_of (bare_there body item o Ints named.Ints only_ints refl same h e z)

-- ---- bytes

pub record HasBytesAt (body : List ℕ) (o : ℕ) (t : Resource) : Type 0 where
  pub room : 4 * o + 4 + word_at body o ≤ 4 * (layout_of body).top
  pub are : take (word_at body o) (drop (4 * o + 4) body) ≡ parts.bytes_of t

binary_at : (body : List ℕ) (o : ℕ) (child : ℕ → Option Resource) (t : Resource) → item_at (layout_of body) body child o Binary ≡ Some t → 0 < o
    → HasBytesAt body o t
binary_at body o child t e h =
    let y = layout_of body in
    let v = with_data y body child o Binary t refl e h in
    let a = where_some _ _ t v.1 in
    record {
      room = leb-true (4 * o + 4 + word_at body o) (4 * y.top) a.0;
      are = ap parts.bytes_of (some_eq _ t a.1);
    }

pub bytes_there : (body : List ℕ) (item o : ℕ) → o ≡ offset_of item → StandsFor body item → parts.kind_of (item_tree body item) ≡ named.Binary → 0 < o
    → HasBytesAt body o (item_tree body item)
bytes_there body item o same h e p =
    binary_at body o (λ w. tree_at (layout_of body) body 63 w) (item_tree body item) (value_there body item o Binary named.Binary only_binary same h e) p

pub bytes_none : (body : List ℕ) (item o : ℕ) → o ≡ offset_of item → StandsFor body item → parts.kind_of (item_tree body item) ≡ named.Binary → o ≡ 0
    → [] ≡ parts.bytes_of (item_tree body item)
bytes_none body item o same h e z = ap parts.bytes_of (bare_there body item o Binary named.Binary only_binary refl same h e z)

-- ---- an Int

pub int_there : (body : List ℕ) (item : ℕ) → StandsFor body item → parts.kind_of (item_tree body item) ≡ named.Int
    → parts.int_of (item_tree body item) ≡ offset_of item
int_there body item h e =
    let n = offset_of item in
    ap parts.int_of (sym (some_eq (int n) (item_tree body item) (value_there body item n Int named.Int only_int refl h e)))
