-- White space, character by character.
use Rattle.std.proofs.Common.{◌≡◌, ℕ, List, ◌∷◌, true, ap, ◌∙◌}
use Rattle.rb_lexer.specs.Lexeme.{is_white}
use Rattle.rb_lexer.specs.Atom.{blanks, atoms_chars, AreAtoms}

-- however much white space the rest begins with, the whole does too
abbrev pub WhiteGoesOn : List ℕ → List ℕ → Type 0
WhiteGoesOn text rest = (ds end : List ℕ) → rest ≡ atoms_chars (blanks ds) end → AreAtoms (blanks ds) end
    → (cs : List ℕ) × (text ≡ atoms_chars (blanks cs) end) × AreAtoms (blanks cs) end

pub white_more : (text rest : List ℕ) → WhiteGoesOn text rest → (c : ℕ) (after : List ℕ) → rest ≡ c ∷ after → is_white c ≡ true → WhiteGoesOn text after
white_more text rest so_far c after e white = λ ds end spelled are.
    so_far (c ∷ ds) end (e ∙ ap (λ (xs : List ℕ). c ∷ xs) spelled) (white, are)
