-- The elements of a list, made one by one.
use Rattle.std.proofs.Common.{◌≡◌, ℕ, zero, suc, ◌+◌, ◌<◌, List, [], ◌∷◌, ◌++◌, length, take, get_or, Some, sym, ap, ◌∙◌, arith}
use Rattle.std.specs.List.{slice_get}
use Rattle.std.proofs.lemmas.Option.{slice_get-get_or}

one_more : {A : Type 0} (xs : List A) (i : ℕ) (x : A) → Some x ≡ slice_get xs i → take (suc i) xs ≡ take i xs ++ x ∷ []
one_more [] i x h = absurd cc
one_more (y ∷ xs) zero x h = let same : x ≡ y = cc in ap (λ z. z ∷ []) (sym same)
one_more (y ∷ xs) (suc i) x h = ap (λ ys. y ∷ ys) (one_more xs i x h)

pub element_more : {A : Type 0} (all all' : List A) (xs : List A) (i : ℕ) (x : A) → all ≡ take i xs → all' ≡ all ++ x ∷ []
    → Some x ≡ slice_get xs i → all' ≡ take (i + 1) xs
element_more all all' xs i x so_far is h =
    let n : i + 1 ≡ suc i = omega arith in
    is ∙ ap (λ ys. ys ++ x ∷ []) so_far ∙ sym (one_more xs i x h) ∙ ap (λ m. take m xs) (sym n)

pub is_at : {A : Type 0} (xs : List A) (i : ℕ) (d : A) → i < length xs → Some (get_or xs i d) ≡ slice_get xs i
is_at xs i d h = sym (slice_get-get_or xs i d h)
