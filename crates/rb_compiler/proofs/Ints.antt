-- Proves that the Ints of a tree that is read are small.
use Rattle.std.proofs.Common.{◌≡◌, ℕ, zero, suc, ◌+◌, ◌^◌, ◌<◌, List, [], ◌∷◌, map, Result, Ok, subst, arith, inl, inr}
use Rattle.std.specs.Int.{cast_signed, w32}
use Rattle.rb_tree.specs.Resource.{Resource, string, int, ints, binary, alias, array, table}
use Rattle.rb_tree.specs.Resource.{Resources, no_trees, tree_and, Members, no_entries, entry_and}
use Rattle.rb_format.specs.declared.fault.FileFault.{FileFault}
use Rattle.rb_format.specs.declared.kind.ItemKind.{ItemKind}
use Rattle.rb_format.specs.declared.kind.ItemKind.TheVariants as kinds
use Rattle.rb_format.specs.declared.layout.Layout.{Layout}
use Rattle.rb_format.specs.Place.{word_at}
use Rattle.rb_format.specs.Item.{bare, kind_of, offset_of}
use Rattle.rb_format.specs.inner.FirstFault.{◌>>=◌, trees, members, keys, array_at, table_of, table16_at, table32_at}
use Rattle.rb_format.specs.inner.FirstFault.{node, read, contents, value, kind_or_fault, units, bytes, numbers}
use Rattle.rb_format.proofs.Steps.{bind_ok, map_ok, ok_is, guard}
use Rattle.rb_format.proofs.Cases.{value_cases}

-- each Int of the tree fits in an item
abbrev mutual
  pub IsSmall : Resource → Type 0
  IsSmall (int n) = n < 2 ^ 28
  IsSmall (array ts) = AreSmall ts
  IsSmall (table es) = AreSmallIn es
  IsSmall leaf = Unit {0}

  pub AreSmall : Resources → Type 0
  AreSmall no_trees = Unit {0}
  AreSmall (tree_and t ts) = IsSmall t × AreSmall ts

  pub AreSmallIn : Members → Type 0
  AreSmallIn no_entries = Unit {0}
  AreSmallIn (entry_and k t es) = IsSmall t × AreSmallIn es

module _ (child : ℕ → Result Resource FileFault) (small : (w : ℕ) (t : Resource) → child w ≡ Ok t → IsSmall t) where
  trees_small : (item : ℕ → ℕ) (i n : ℕ) (ts : Resources) → trees child item i n ≡ Ok ts → AreSmall ts
  unfolding trees
  trees_small item i zero ts e = subst AreSmall (ok_is no_trees ts e) tt
  trees_small item i (suc n) ts e =
      let a = bind_ok (child (item i)) (λ t. trees child item (suc i) n >>= λ us. Ok (tree_and t us)) ts e in
      let b = bind_ok (trees child item (suc i) n) (λ us. Ok (tree_and a.0 us)) ts a.2 in
      subst AreSmall (ok_is (tree_and a.0 b.0) ts b.2) (small (item i) a.0 a.1, trees_small item (suc i) n b.0 b.1)

  members_small : (item : ℕ → ℕ) (i : ℕ) (ks : List (List ℕ)) (es : Members) → members child item i ks ≡ Ok es → AreSmallIn es
  unfolding members
  members_small item i [] es e = subst AreSmallIn (ok_is no_entries es e) tt
  members_small item i (k ∷ ks) es e =
      let a = bind_ok (child (item i)) (λ t. members child item (suc i) ks >>= λ us. Ok (entry_and k t us)) es e in
      let b = bind_ok (members child item (suc i) ks) (λ us. Ok (entry_and k a.0 us)) es a.2 in
      subst AreSmallIn (ok_is (entry_and k a.0 b.0) es b.2) (small (item i) a.0 a.1, members_small item (suc i) ks b.0 b.1)

  array_small : (y : Layout) (body : List ℕ) (o : ℕ) (ts : Resources) → array_at y body child o ≡ Ok ts → AreSmall ts
  unfolding array_at
  array_small y body o ts e = trees_small _ 0 _ ts (guard _ _ _ ts e).1

  table_small : (y : Layout) (body : List ℕ) (place : ℕ → ℕ) (from n : ℕ) (es : Members) → table_of y body child place from n ≡ Ok es → AreSmallIn es
  unfolding table_of
  table_small y body place from n es e =
      let a = bind_ok (keys y body place [] 0 n) (λ ks. members child (λ i. word_at body (from + i)) 0 ks) es (guard _ _ _ es e).1 in
      members_small _ 0 a.0 es a.2

  short_small : (y : Layout) (body : List ℕ) (o : ℕ) (es : Members) → table16_at y body child o ≡ Ok es → AreSmallIn es
  unfolding table16_at
  short_small y body o es e = table_small y body _ _ _ es e

  long_small : (y : Layout) (body : List ℕ) (o : ℕ) (es : Members) → table32_at y body child o ≡ Ok es → AreSmallIn es
  unfolding table32_at
  long_small y body o es e = table_small y body _ _ _ es e

  contents_small : (y : Layout) (body : List ℕ) (o : ℕ) (k : ItemKind) (t : Resource) → o < 2 ^ 28 → contents y body child o k ≡ Ok t → IsSmall t
  unfolding contents
  contents_small y body o kinds.String t low e = subst IsSmall (map_ok string (units y body o) t e).2 tt
  contents_small y body o kinds.Binary t low e = subst IsSmall (map_ok binary (bytes y body o) t e).2 tt
  contents_small y body o kinds.Table t low e =
      let a = map_ok table (table16_at y body child o) t e in subst IsSmall a.2 (short_small y body o a.0 a.1)
  contents_small y body o kinds.Alias t low e = subst IsSmall (map_ok alias (units y body o) t e).2 tt
  contents_small y body o kinds.LongTable t low e =
      let a = map_ok table (table32_at y body child o) t e in subst IsSmall a.2 (long_small y body o a.0 a.1)
  contents_small y body o kinds.Int t low e = subst IsSmall (ok_is (int o) t e) low
  contents_small y body o kinds.Array t low e =
      let a = map_ok array (array_at y body child o) t e in subst IsSmall a.2 (array_small y body o a.0 a.1)
  contents_small y body o kinds.Ints t low e = subst IsSmall (map_ok (λ ns. ints (map (cast_signed w32) ns)) (numbers y body o) t e).2 tt

  bare_small : (k : ItemKind) (o : ℕ) → o < 2 ^ 28 → IsSmall (bare k o)
  bare_small kinds.Int o low = low
  bare_small kinds.String o low = tt
  bare_small kinds.Binary o low = tt
  bare_small kinds.Table o low = tt
  bare_small kinds.Alias o low = tt
  bare_small kinds.LongTable o low = tt
  bare_small kinds.Array o low = tt
  bare_small kinds.Ints o low = tt

  node_small : (y : Layout) (body : List ℕ) (item : ℕ) (t : Resource) → node y body child item ≡ Ok t → IsSmall t
  unfolding node
  node_small y body item t e =
      let low : offset_of item < 2 ^ 28 = omega arith in
      let a = bind_ok (kind_or_fault (kind_of item)) (λ k. value y body child (offset_of item) k) t e in
      elim (value_cases y body child (offset_of item) a.0 t a.2) [
        | inl p ↦ contents_small y body (offset_of item) a.0 t low p.1
        | inr p ↦ subst IsSmall p.1 (bare_small a.0 (offset_of item) low)
      ]

pub read_small : (y : Layout) (body : List ℕ) (d item : ℕ) (t : Resource) → read y body d item ≡ Ok t → IsSmall t
unfolding read
read_small y body zero item t e = absurd cc
read_small y body (suc d) item t e = node_small (λ w. read y body d w) (λ w u q. read_small y body d w u q) y body item t e
