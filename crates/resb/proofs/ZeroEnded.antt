-- Proves that names joined one by one are joined.
use Rattle.std.proofs.Common.{◌≡◌, ◌<◌, ◌+◌, List, [], ◌∷◌, ◌++◌, ℕ, ap, sym, ◌∙◌, refl, take, length, get_or}
use Rattle.std.proofs.lemmas.List.{append_assoc, take_more}
use Rattle.resb.specs.Lists.{zero_ended}

ended_append : (a b : List (List ℕ)) → zero_ended (a ++ b) ≡ zero_ended a ++ zero_ended b
ended_append [] b = refl
ended_append (n ∷ a) b = ap (λ (t : List ℕ). n ++ 0 ∷ t) (ended_append a b) ∙ sym (append_assoc n (0 ∷ zero_ended a) (zero_ended b))

pub one_more : (old mid new : List ℕ) (names : List (List ℕ)) (i : ℕ) (x name : List ℕ) → old ≡ zero_ended (take i names) → mid ≡ old ++ name → new ≡ mid ++ 0 ∷ []
    → i < length names → name ≡ get_or names i x → new ≡ zero_ended (take (i + 1) names)
one_more old mid new names i x name p q r h e =
    let next : take (i + 1) names ≡ take i names ++ name ∷ [] = take_more names i x h ∙ ap (λ (y : List ℕ). take i names ++ y ∷ []) (sym e) in
    rw next (r ∙ ap (λ (t : List ℕ). t ++ 0 ∷ []) q ∙ append_assoc old name (0 ∷ []) ∙ ap (λ (t : List ℕ). t ++ (name ++ 0 ∷ [])) p
    ∙ sym (ended_append (take i names) (name ∷ [])))
