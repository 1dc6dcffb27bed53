-- The texts of arrays, item by item.
use Rattle.std.proofs.Common.{◌≡◌, ◌+◌, ℕ, zero, suc, true, drop, List, [], ◌∷◌, ◌++◌, Some, map, take, refl, ap, sym, subst, ◌∙◌, append_assoc, append-nil, arith}
use Rattle.std.specs.List.{slice_get}
use Rattle.serde_json.specs.Data.{Data, array}
use Rattle.serde_json.specs.View.{items_of}
use Rattle.serde_json.specs.Written.{compact_text, items_text}
use Rattle.rb_json.specs.inner.Listed.{after_commas, listed}
use Rattle.rb_json.specs.Parts.{comma_before}

-- one item more
after_more : {A : Type 0} (f : A → List ℕ) (xs : List A) (i : ℕ) (x : A) → Some x ≡ slice_get xs i
    → after_commas f (take (suc i) xs) ≡ after_commas f (take i xs) ++ 44 ∷ f x
after_more f [] i x h = absurd cc
after_more f (y ∷ xs) zero x h = let same : x ≡ y = cc in ap (λ (t : List ℕ). 44 ∷ t) (append-nil (f y) ∙ ap f (sym same))
after_more f (y ∷ xs) (suc i) x h =
    ap (λ (t : List ℕ). 44 ∷ (f y ++ t)) (after_more f xs i x h)
    ∙ ap (λ (t : List ℕ). 44 ∷ t) (sym (append_assoc (f y) (after_commas f (take i xs)) (44 ∷ f x)))

listed_first : {A : Type 0} (f : A → List ℕ) (xs : List A) (x : A) → Some x ≡ slice_get xs 0 → listed f (take 1 xs) ≡ f x
listed_first f [] x h = absurd cc
listed_first f (y ∷ xs) x h = let same : x ≡ y = cc in append-nil (f y) ∙ ap f (sym same)

listed_more : {A : Type 0} (f : A → List ℕ) (xs : List A) (i : ℕ) (x : A) → Some x ≡ slice_get xs (suc i)
    → listed f (take (suc (suc i)) xs) ≡ listed f (take (suc i) xs) ++ 44 ∷ f x
listed_more f [] i x h = absurd cc
listed_more f (y ∷ xs) i x h = ap (λ (t : List ℕ). f y ++ t) (after_more f xs i x h) ∙ sym (append_assoc (f y) (after_commas f (take i xs)) (44 ∷ f x))

items_told : {A : Type 0} (g : A → Data) (xs : List A) → items_text true (items_of (map g xs)) ≡ after_commas (λ x. compact_text (g x)) xs ++ 93 ∷ []
items_told g [] = refl
items_told g (x ∷ xs) =
    let text = compact_text (g x) in
    ap (λ (t : List ℕ). 44 ∷ (text ++ t)) (items_told g xs)
    ∙ ap (λ (t : List ℕ). 44 ∷ t) (sym (append_assoc text (after_commas (λ y. compact_text (g y)) xs) (93 ∷ [])))

pub array_told : {A : Type 0} (g : A → Data) (xs : List A) → compact_text (array (items_of (map g xs))) ≡ 91 ∷ (listed (λ x. compact_text (g x)) xs ++ 93 ∷ [])
array_told g [] = refl
array_told g (x ∷ xs) = ap (λ (t : List ℕ). 91 ∷ drop 1 t) (items_told g (x ∷ xs))

-- what follows the first items
after_rest : {A : Type 0} (f : A → List ℕ) (xs : List A) (i : ℕ) → after_commas f xs ≡ after_commas f (take i xs) ++ after_commas f (drop i xs)
after_rest f xs zero = refl
after_rest f [] (suc i) = refl
after_rest f (x ∷ xs) (suc i) =
    ap (λ (t : List ℕ). 44 ∷ (f x ++ t)) (after_rest f xs i)
    ∙ ap (λ (t : List ℕ). 44 ∷ t) (sym (append_assoc (f x) (after_commas f (take i xs)) (after_commas f (drop i xs))))

abbrev rest_of : {A : Type 0} → (A → List ℕ) → List A → ℕ → List ℕ
rest_of f xs zero = listed f xs
rest_of f xs (suc i) = after_commas f (drop (suc i) xs)

listed_rest : {A : Type 0} (f : A → List ℕ) (xs : List A) (i : ℕ) → listed f xs ≡ listed f (take i xs) ++ rest_of f xs i
listed_rest f xs zero = refl
listed_rest f [] (suc i) = refl
listed_rest f (x ∷ xs) (suc i) = ap (drop 1) (after_rest f (x ∷ xs) (suc i))

module _ {S : Type 0} (Takes : S → S → List ℕ → Type 0) (joined : (x y z : S) (a b : List ℕ) → Takes x y a → Takes y z b → Takes x z (a ++ b)) where
  one_more : {A : Type 0} (w x y z : S) (f : A → List ℕ) (xs : List A) (i : ℕ) (item : A) → Takes w x (listed f (take i xs)) → Takes x y (comma_before i)
      → Takes y z (f item) → Some item ≡ slice_get xs i → Takes w z (listed f (take (suc i) xs))
  one_more w x y z f xs zero item h comma k at = subst (Takes w z) (sym (listed_first f xs item at)) (joined w x z [] (f item) h (joined x y z [] (f item) comma k))
  one_more w x y z f xs (suc i) item h comma k at =
      subst (Takes w z) (sym (listed_more f xs i item at))
      (joined w x z (listed f (take (suc i) xs)) (44 ∷ f item) h (joined x y z (44 ∷ []) (f item) comma k))

  pub list_more : {A : Type 0} (w x y z : S) (f : A → List ℕ) (xs : List A) (i : ℕ) (item : A) → Takes w x (listed f (take i xs)) → Takes x y (comma_before i)
      → Takes y z (f item) → Some item ≡ slice_get xs i → Takes w z (listed f (take (i + 1) xs))
  list_more w x y z f xs i item h comma k at =
      let n : suc i ≡ i + 1 = omega arith in
      subst (λ (m : ℕ). Takes w z (listed f (take m xs))) n (one_more w x y z f xs i item h comma k at)

  -- the outlet needs no more items
  pub list_skipped : {A : Type 0} (w x y : S) (f : A → List ℕ) (xs : List A) (i : ℕ) → Takes w x (listed f (take i xs)) → ((bytes : List ℕ) → Takes x y bytes)
      → Takes w y (listed f xs)
  list_skipped w x y f xs i h skips =
      subst (Takes w y) (sym (listed_rest f xs i)) (joined w x y (listed f (take i xs)) (rest_of f xs i) h (skips (rest_of f xs i)))

  pub array_taken : {A : Type 0} (w x y z : S) (g : A → Data) (xs : List A) → Takes w x (91 ∷ []) → Takes x y (listed (λ a. compact_text (g a)) xs)
      → Takes y z (93 ∷ []) → Takes w z (compact_text (array (items_of (map g xs))))
  array_taken w x y z g xs a b c =
      subst (Takes w z) (sym (array_told g xs))
      (joined w x z (91 ∷ []) (listed (λ x. compact_text (g x)) xs ++ 93 ∷ []) a (joined x y z (listed (λ x. compact_text (g x)) xs) (93 ∷ []) b c))
