-- The places of a table's keys.
use Rattle.std.proofs.Common.{◌≡◌, ℕ, zero, suc, ◌+◌, List, [], ◌∷◌, ◌++◌, get_or, Some, sym, ap, ◌∙◌, arith, subst, inl, inr}
use Rattle.std.proofs.lemmas.List.{get_or_push, get_or_append_left, length_push}
use Rattle.std.proofs.lemmas.Bool.{cases_eq}
use Rattle.std.specs.Prelude.{slice_get}
use Rattle.std.specs.Map.{keys_of, values_of}
use Rattle.rb_tree.specs.Resource.{Resource, array, table, Resources, no_trees, tree_and, Members, no_entries, entry_and}
use Rattle.rb_tree.specs.Keys.{items, pairs}
use Rattle.rb_tree.specs.Parts.{children_of}
use Rattle.rb_writer.specs.inner.Places.{EachKey, EachKeyIn, EachKeyOf}
use Rattle.rb_writer.specs.inner.Standing.{PlacesAre, HasPlaces}
use Rattle.rb_writer.specs.inner.Keyed.{IsPlace, HasPlace}
use Rattle.rb_writer.specs.declared.keys.KeyOffsets.{KeyOffsets}

pub places_more : (keys : KeyOffsets) (ks : List (List ℕ)) (offsets : List ℕ) (n o : ℕ) (k : List ℕ) → PlacesAre keys ks offsets n → Some k ≡ slice_get ks n
    → IsPlace keys k o → PlacesAre keys ks (offsets ++ o ∷ []) (n + 1)
places_more keys ks offsets n o k p e f =
    let c = p.count in
    record {
      count = omega (arith, length_push offsets o);
      are = λ j q h g. elim (cases_eq j n) [
        | inl same ↦
            let at : get_or (offsets ++ o ∷ []) j 0 ≡ o = get_or_push offsets o 0 j (omega arith) in
            let same_key : Some q ≡ Some k = g ∙ ap (slice_get ks) same ∙ sym e in
            let is : q ≡ k = cc in
            rw (at, is) f
        | inr other ↦ rw (get_or_append_left offsets (o ∷ []) 0 j (omega arith)) (p.are j q (omega arith) g)
      ];
    }

-- each key of a table has what each key of the tree has
key_in : (P : List ℕ → Type 0) (es : Members) (i : ℕ) (k : List ℕ) → EachKeyOf P es → Some k ≡ slice_get (keys_of (pairs es)) i → P k
key_in P no_entries i k h e = cc
key_in P (entry_and q t es) zero k h e = let s : q ≡ k = cc in subst P s h.0
key_in P (entry_and q t es) (suc i) k h e = key_in P es i k h.2 e

pub has_place : (keys : KeyOffsets) (es : Members) (i : ℕ) (k : List ℕ) → HasPlaces keys (table es) → Some k ≡ slice_get (keys_of (pairs es)) i
    → HasPlace keys k
has_place keys es i k h e = key_in (λ k. HasPlace keys k) es i k h e

item_in : (P : List ℕ → Type 0) (ts : Resources) (i : ℕ) (u : Resource) → EachKeyIn P ts → Some u ≡ slice_get (items ts) i → EachKey P u
item_in P no_trees i u h e = cc
item_in P (tree_and t ts) zero u h e = let s : t ≡ u = cc in subst (EachKey P) s h.0
item_in P (tree_and t ts) (suc i) u h e = item_in P ts i u h.1 e

member_in : (P : List ℕ → Type 0) (es : Members) (i : ℕ) (u : Resource) → EachKeyOf P es → Some u ≡ slice_get (values_of (pairs es)) i → EachKey P u
member_in P no_entries i u h e = cc
member_in P (entry_and k t es) zero u h e = let s : t ≡ u = cc in subst (EachKey P) s h.1
member_in P (entry_and k t es) (suc i) u h e = member_in P es i u h.2 e

-- a child's keys are among the keys of the tree
pub child_keys : (P : List ℕ → Type 0) (t u : Resource) (i : ℕ) → EachKey P t → Some u ≡ slice_get (children_of t) i → EachKey P u
child_keys P (array ts) u i h e = item_in P ts i u h e
child_keys P (table es) u i h e = member_in P es i u h e
child_keys P _ u i h e = cc
