-- For what is private. Texts one after another, separated by commas.
use Rattle.std.specs.Prelude.{ℕ, List, [], ◌∷◌, ◌++◌}

-- each with a comma (44) before it
abbrev pub after_commas : {A : Type 0} → (A → List ℕ) → List A → List ℕ
after_commas text [] = []
after_commas text (x ∷ xs) = 44 ∷ (text x ++ after_commas text xs)

abbrev pub listed : {A : Type 0} → (A → List ℕ) → List A → List ℕ
listed text [] = []
listed text (x ∷ xs) = text x ++ after_commas text xs
