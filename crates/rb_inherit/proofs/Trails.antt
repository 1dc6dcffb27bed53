-- The roots of the stops of a trail, one by one.
use Rattle.std.proofs.Common.{◌≡◌, ◌<◌, ◌≤◌, ◌+◌, ◌++◌, ℕ, suc, zero, List, [], ◌∷◌, length, take, get_or, map, Option, Some, None, option_map, option_and_then, slice_get, refl, ap, sym, ◌∙◌, arith, append-nil}
use Rattle.std.proofs.lemmas.Option.{slice_get-map, slice_get_past, slice_get_read}
use Rattle.std.proofs.lemmas.List.{map-append, length-map, take_all}
use Rattle.rb_tree.specs.Resource.{Resource}
use Rattle.rb_parents.specs.Trail.{Bundles}
use Rattle.rb_inherit.specs.inner.Trails.{and_tree, tree_in, trees_in}

inner : {A : Type 0} (a b : Option A) → Some a ≡ option_map Some b → a ≡ b
inner a (Some y) e = cc
inner a None e = absurd cc

outer : {A : Type 0} (b : Option A) → None ≡ option_map Some b → b ≡ None
outer (Some y) e = absurd cc
outer None e = refl

-- the names at the indices of stops are the stops
asked : {A : Type 0} (names ns : List A) (stops : List ℕ) (i : ℕ) → map (slice_get names) stops ≡ map Some ns
    → option_map (slice_get names) (slice_get stops i) ≡ option_map Some (slice_get ns i)
asked names ns stops i e = sym (slice_get-map (slice_get names) stops i) ∙ ap (λ l. slice_get l i) e ∙ slice_get-map Some ns i

pub stop_none : {A : Type 0} (names ns : List A) (stops : List ℕ) (i : ℕ) → map (slice_get names) stops ≡ map Some ns → length stops ≤ i
    → slice_get ns i ≡ None
stop_none names ns stops i e h =
    outer (slice_get ns i) (sym (ap (option_map (slice_get names)) (slice_get_past stops i h)) ∙ asked names ns stops i e)

pub stop_here : {A : Type 0} (names ns : List A) (stops : List ℕ) (i s : ℕ) (n : A) → map (slice_get names) stops ≡ map Some ns → i < length stops
    → s ≡ get_or stops i s → s < length names → n ≡ get_or names s n → slice_get ns i ≡ Some n
stop_here names ns stops i s n e h at l here =
    sym (inner (Some n) (slice_get ns i)
    (ap Some (sym (slice_get_read names (length names) s n refl l here)) ∙ (ap (option_map (slice_get names)) (sym (slice_get_read stops (length stops) i s refl h at)) ∙ asked names ns stops i e)))

pub stop_beyond : {A : Type 0} (names ns : List A) (stops : List ℕ) (i s : ℕ) → map (slice_get names) stops ≡ map Some ns → i < length stops
    → s ≡ get_or stops i s → length names ≤ s → slice_get ns i ≡ None
stop_beyond names ns stops i s e h at l =
    sym (inner None (slice_get ns i)
    (ap Some (sym (slice_get_past names s l)) ∙ (ap (option_map (slice_get names)) (sym (slice_get_read stops (length stops) i s refl h at)) ∙ asked names ns stops i e)))

pub stop_count : {A : Type 0} (names ns : List A) (stops : List ℕ) → map (slice_get names) stops ≡ map Some ns → length stops ≡ length ns
stop_count {A} names ns stops e =
    sym (length-map stops (slice_get names)) ∙ (ap (λ (l : List (Option A)). length l) e
    ∙ length-map ns (λ (x : A). Some x))

-- ---- the trees of the stops so far
trees_append : (bundles : Bundles) (ns ms : List (List ℕ)) → trees_in bundles (ns ++ ms) ≡ trees_in bundles ns ++ trees_in bundles ms
trees_append bundles [] ms = refl
trees_append bundles (n ∷ ns) ms = by (trees_append bundles ns ms) (tree_in bundles n)
  where
    by : trees_in bundles (ns ++ ms) ≡ trees_in bundles ns ++ trees_in bundles ms → (o : Option Resource)
        → and_tree o (trees_in bundles (ns ++ ms)) ≡ and_tree o (trees_in bundles ns) ++ trees_in bundles ms
    by more None = more
    by more (Some t) = ap (λ (l : List Resource). t ∷ l) more

take_on : (m : List ℕ) (ns : List (List ℕ)) (i : ℕ) → take (suc i + 1) (m ∷ ns) ≡ m ∷ take (i + 1) ns
take_on m ns i = ap (λ (k : ℕ). take k (m ∷ ns)) (let e : suc i + 1 ≡ suc (i + 1) = omega arith in e)

take_next : (ns : List (List ℕ)) (i : ℕ) (n : List ℕ) → slice_get ns i ≡ Some n → take (i + 1) ns ≡ take i ns ++ n ∷ []
take_next [] i n e = absurd cc
take_next (m ∷ ns) zero n e = let same : m ≡ n = cc in ap (λ (x : List ℕ). x ∷ []) same
take_next (m ∷ ns) (suc i) n e = take_on m ns i ∙ ap (λ (l : List (List ℕ)). m ∷ l) (take_next ns i n e)

take_beyond : (ns : List (List ℕ)) (i : ℕ) → slice_get ns i ≡ None → take (i + 1) ns ≡ take i ns
take_beyond [] zero e = refl
take_beyond [] (suc i) e = ap (λ (k : ℕ). take k []) (let f : suc i + 1 ≡ suc (i + 1) = omega arith in f)
take_beyond (m ∷ ns) zero e = absurd cc
take_beyond (m ∷ ns) (suc i) e = take_on m ns i ∙ ap (λ (l : List (List ℕ)). m ∷ l) (take_beyond ns i e)

pub trees_next : {N : Type 0} (tree : N → Resource) (bundles : Bundles) (ns : List (List ℕ)) (i : ℕ) (roots : List N) (root : N)
    → map tree roots ≡ trees_in bundles (take i ns) → Some (tree root) ≡ option_and_then (tree_in bundles) (slice_get ns i)
    → map tree (roots ++ root ∷ []) ≡ trees_in bundles (take (i + 1) ns)
trees_next tree bundles ns i roots root all e = by (slice_get ns i) refl e
  where
    by : (o : Option (List ℕ)) → slice_get ns i ≡ o → Some (tree root) ≡ option_and_then (tree_in bundles) o
        → map tree (roots ++ root ∷ []) ≡ trees_in bundles (take (i + 1) ns)
    by None f g = absurd cc
    by (Some n) f g =
        map-append tree roots (root ∷ []) ∙ ap (λ (l : List Resource). l ++ tree root ∷ []) all
        ∙ ap (λ (l : List Resource). trees_in bundles (take i ns) ++ l) (ap (λ (o : Option Resource). and_tree o []) g)
        ∙ sym (trees_append bundles (take i ns) (n ∷ [])) ∙ ap (trees_in bundles) (sym (take_next ns i n f))

pub trees_skip : {N : Type 0} (tree : N → Resource) (bundles : Bundles) (ns : List (List ℕ)) (i : ℕ) (roots : List N)
    → map tree roots ≡ trees_in bundles (take i ns) → None ≡ option_and_then (tree_in bundles) (slice_get ns i)
    → map tree roots ≡ trees_in bundles (take (i + 1) ns)
trees_skip tree bundles ns i roots all e = all ∙ by (slice_get ns i) refl e
  where
    by : (o : Option (List ℕ)) → slice_get ns i ≡ o → None ≡ option_and_then (tree_in bundles) o
        → trees_in bundles (take i ns) ≡ trees_in bundles (take (i + 1) ns)
    by None f g = ap (trees_in bundles) (sym (take_beyond ns i f))
    by (Some n) f g =
        sym (append-nil (trees_in bundles (take i ns)))
        ∙ ap (λ (l : List Resource). trees_in bundles (take i ns) ++ l) (ap (λ (o : Option Resource). and_tree o []) g)
        ∙ sym (trees_append bundles (take i ns) (n ∷ [])) ∙ ap (trees_in bundles) (sym (take_next ns i n f))

pub trees_all : {N : Type 0} (tree : N → Resource) (bundles : Bundles) (ns : List (List ℕ)) (i : ℕ) (roots : List N) → length ns ≤ i
    → map tree roots ≡ trees_in bundles (take i ns) → map tree roots ≡ trees_in bundles ns
trees_all tree bundles ns i roots h all = all ∙ ap (trees_in bundles) (take_all i ns h)
