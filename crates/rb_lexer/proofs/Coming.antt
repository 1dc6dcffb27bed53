-- Proves that the second reading, as a function, returns the atoms that spell the characters.
use Rattle.std.proofs.Common.{◌≡◌, ℕ, zero, suc, ◌≤◌, Bool, true, false, eqb, not, ◌||◌, ◌&&◌, List, [], ◌∷◌, ◌++◌, length, Option, Some, None, refl, ap}
use Rattle.std.proofs.Common.{◌∙◌, arith, IsTrue, ⊎_elim, eqb-true, ne_eqb}
use Rattle.rb_lexer.specs.Lexeme.{is_white, is_punctuation, quote, backslash, slash, star, begins, begins_comment, ends_line, line_comment, block_comment}
use Rattle.rb_lexer.specs.Lexeme.{option_chars, IsComment, HasNoEnd, Part, plain, escaped, dropped, parts_chars, AreParts, IsQuotedPart}
use Rattle.rb_lexer.specs.Atom.{Atom, blank, remark, punct, cited, single, atom_chars, IsAtom, atoms_chars, AreAtoms}
use Rattle.rb_lexer.specs.Coming.{line_at, block_at, quoted_at, atom_at, atoms_at}
use Rattle.rb_lexer.proofs.Escapes.{escape_again}
use Rattle.rb_lexer.proofs.Total.{escape_longer, atom_longer}
use Rattle.rb_lexer.proofs.Unique.{line_rest, neither, four_false, not_false, or_true}

-- ---- comments
pub line_read : (cs : List ℕ) (end : Option ℕ) (rest : List ℕ) → IsComment (line_comment cs end) rest → line_at (cs ++ option_chars end rest) ≡ (cs, end, rest)
unfolding line_at
line_read [] None rest h = rw h.1 refl
line_read [] (Some c) rest h = rw h.1 refl
line_read (c ∷ cs) end rest h =
    let w = line_rest c cs end rest h in
    rw (not_false (ends_line c) w.0, line_read cs end rest w.1) refl

begins_not : (b : Bool) (cs rest : List ℕ) → (IsTrue b → IsTrue (not (begins (λ d. eqb d slash) cs)))
    → (b && begins (λ d. eqb d slash) (cs ++ star ∷ slash ∷ rest)) ≡ false
begins_not false cs rest h = refl
begins_not true [] rest h = refl
begins_not true (d ∷ cs) rest h = not_false (eqb d slash) (h refl)

pub block_read : (cs rest : List ℕ) → HasNoEnd cs → block_at (cs ++ star ∷ slash ∷ rest) ≡ (cs, rest)
unfolding block_at
block_read [] rest h = refl
block_read (c ∷ cs) rest h = rw (begins_not (eqb c star) cs rest h.0, block_read cs rest h.1) refl

-- ---- quoted pieces
pub quoted_read : (n : ℕ) (ps : List Part) (rest : List ℕ) → length (parts_chars ps (quote ∷ rest)) ≤ n → AreParts IsQuotedPart ps (quote ∷ rest)
    → quoted_at n (parts_chars ps (quote ∷ rest)) ≡ (ps, rest)
unfolding quoted_at
quoted_read zero [] rest short h = absurd (omega arith)
quoted_read (suc n) [] rest short h = refl
quoted_read zero (plain c ∷ ps) rest short h = absurd (omega arith)
quoted_read (suc n) (plain c ∷ ps) rest short h =
    rw (ne_eqb c quote (neither c h.0).0, ne_eqb c backslash (neither c h.0).1, quoted_read n ps rest (omega arith) h.1) refl
quoted_read zero (escaped e ∷ ps) rest short h = absurd (omega arith)
quoted_read (suc n) (escaped e ∷ ps) rest short h =
    let less : length (parts_chars ps (quote ∷ rest)) ≤ n = omega (arith, escape_longer e (parts_chars ps (quote ∷ rest))) in
    rw (escape_again e (parts_chars ps (quote ∷ rest)) h.0, quoted_read n ps rest less h.1) refl
quoted_read n (dropped c ∷ ps) rest short h = absurd h.0

-- ---- atoms
punctuation_read : (c : ℕ) (rest : List ℕ) → is_punctuation c ≡ true → atom_at c rest ≡ (punct c, rest)
unfolding atom_at
punctuation_read c rest h =
    ⊎_elim (λ h1. ⊎_elim (λ h2. ⊎_elim (λ h3. rw (eqb-true c 0x7B h3) refl) (λ h3. rw (eqb-true c 0x7D h3) refl) (or_true (eqb c 0x7B) (eqb c 0x7D) h2))
    (λ h2. rw (eqb-true c 0x2C h2) refl) (or_true (eqb c 0x7B || eqb c 0x7D) (eqb c 0x2C) h1)) (λ h1. rw (eqb-true c 0x3A h1) refl)
    (or_true ((eqb c 0x7B || eqb c 0x7D) || eqb c 0x2C) (eqb c 0x3A) h)

-- an atom in front is read, and the rest is left
atom_read : (a : Atom) (rest : List ℕ) (n : ℕ) → IsAtom a rest → atoms_at (suc n) (atom_chars a rest) ≡ a ∷ atoms_at n rest
unfolding atoms_at atom_at
atom_read (blank c) rest n is = rw is refl
atom_read (remark (line_comment cs end)) rest n is = rw (line_read cs end rest is) refl
atom_read (remark (block_comment cs)) rest n is = rw (block_read cs rest is) refl
atom_read (punct c) rest n is = rw (punctuation_read c rest is) refl
atom_read (cited ps) rest n is = rw (quoted_read (length (parts_chars ps (quote ∷ rest))) ps rest (omega arith) is) refl
atom_read (single (plain c)) rest n is =
    let w = four_false (is_white c) (eqb c quote) (eqb c backslash) (is_punctuation c) is.1.0 in
    rw (w.0, w.3, w.1, not_false (begins_comment (c ∷ rest)) is.1.1, w.2) refl
atom_read (single (escaped e)) rest n is = rw (escape_again e rest is.1) refl
atom_read (single (dropped c)) rest n is = absurd is.0

pub atoms_read : (n : ℕ) (xs : List Atom) → length (atoms_chars xs []) ≤ n → AreAtoms xs [] → atoms_at n (atoms_chars xs []) ≡ xs
unfolding atoms_at
atoms_read zero [] short good = refl
atoms_read (suc n) [] short good = refl
atoms_read zero (a ∷ xs) short good = absurd (omega (arith, atom_longer a (atoms_chars xs [])))
atoms_read (suc n) (a ∷ xs) short good =
    atom_read a (atoms_chars xs []) n good.0
    ∙ ap (λ (ys : List Atom). a ∷ ys) (atoms_read n xs (omega (arith, atom_longer a (atoms_chars xs []))) good.1)
