-- The tokens of lists, element by element.
use Rattle.std.proofs.Common.{◌≡◌, ℕ, zero, suc, List, [], ◌∷◌, ◌++◌, Some, drop, map, refl, ap, sym, ◌∙◌, append_assoc}
use Rattle.std.specs.List.{slice_get}
use Rattle.std.specs.Map.{keys_of, values_of}
use Rattle.json.specs.Token.{Token, begin_array, end_array, begin_object, end_object, key}
use Rattle.serde_json.specs.Data.{Data, array}
use Rattle.serde_json.specs.View.{items_of}
use Rattle.rb_tree.specs.Resource.{Resource, array as array_tree, table, Resources, no_trees, tree_and, Members, no_entries, entry_and}
use Rattle.rb_tree.specs.Keys.{items, pairs}
use Rattle.rb_tree.specs.Parts.{children_of, kind_of, pairs_of}
use Rattle.rb_tree.specs.declared.kind.Kind.TheVariants as Kinds
use Rattle.rb_json.specs.Tokens.{data_tokens}
use Rattle.rb_json.specs.Value.{value_of, key_text}

abbrev pub each : {A : Type 0} → (A → List Token) → List A → List Token
each f [] = []
each f (x ∷ xs) = f x ++ each f xs

pub array_tokens : {A : Type 0} (f : A → Data) (xs : List A)
    → data_tokens (array (items_of (map f xs))) ≡ begin_array ∷ (each (λ x. data_tokens (f x)) xs ++ end_array ∷ [])
array_tokens f [] = refl
array_tokens f (x ∷ xs) =
    ap (λ (ts : List Token). begin_array ∷ (data_tokens (f x) ++ drop 1 ts)) (array_tokens f xs)
    ∙ ap (λ (ts : List Token). begin_array ∷ ts) (sym (append_assoc (data_tokens (f x)) (each (λ y. data_tokens (f y)) xs) (end_array ∷ [])))

-- ---- trees
abbrev pub tree_tokens : Resource → List Token
tree_tokens t = data_tokens (value_of t)

abbrev pub entry_tokens : List ℕ × Resource → List Token
entry_tokens p = key (key_text p.0) ∷ tree_tokens p.1

trees_tokens : (ts : Resources) → data_tokens (value_of (array_tree ts)) ≡ begin_array ∷ (each tree_tokens (items ts) ++ end_array ∷ [])
trees_tokens no_trees = refl
trees_tokens (tree_and t ts) =
    ap (λ (us : List Token). begin_array ∷ (tree_tokens t ++ drop 1 us)) (trees_tokens ts)
    ∙ ap (λ (us : List Token). begin_array ∷ us) (sym (append_assoc (tree_tokens t) (each tree_tokens (items ts)) (end_array ∷ [])))

entries_tokens : (es : Members) → data_tokens (value_of (table es)) ≡ begin_object ∷ (each entry_tokens (pairs es) ++ end_object ∷ [])
entries_tokens no_entries = refl
entries_tokens (entry_and k t es) =
    ap (λ (us : List Token). begin_object ∷ key (key_text k) ∷ (tree_tokens t ++ drop 1 us)) (entries_tokens es)
    ∙ ap (λ (us : List Token). begin_object ∷ key (key_text k) ∷ us) (sym (append_assoc (tree_tokens t) (each entry_tokens (pairs es)) (end_object ∷ [])))

pub items_whole : (t : Resource) → kind_of t ≡ Kinds.Array → data_tokens (value_of t) ≡ begin_array ∷ (each tree_tokens (children_of t) ++ end_array ∷ [])
items_whole (array_tree ts) h = trees_tokens ts
items_whole _ h = absurd cc

pub entries_whole : (t : Resource) → kind_of t ≡ Kinds.Table → data_tokens (value_of t) ≡ begin_object ∷ (each entry_tokens (pairs_of t) ++ end_object ∷ [])
entries_whole (table es) h = entries_tokens es
entries_whole _ h = absurd cc

entry_here : (ps : List (List ℕ × Resource)) (i : ℕ) (k : List ℕ) (t : Resource) → Some k ≡ slice_get (keys_of ps) i → Some t ≡ slice_get (values_of ps) i
    → Some (k, t) ≡ slice_get ps i
entry_here [] i k t h e = absurd cc
entry_here (p ∷ ps) zero k t h e = let same : k ≡ p.0 = cc in let that : t ≡ p.1 = cc in λ j. Some (same j, that j)
entry_here (p ∷ ps) (suc i) k t h e = entry_here ps i k t h e

pub entry_at : (t : Resource) (i : ℕ) (k : List ℕ) (u : Resource) → kind_of t ≡ Kinds.Table → Some k ≡ slice_get (keys_of (pairs_of t)) i
    → Some u ≡ slice_get (children_of t) i → Some (k, u) ≡ slice_get (pairs_of t) i
entry_at (table es) i k u kind h e = entry_here (pairs es) i k u h e
entry_at _ i k u kind h e = absurd cc
