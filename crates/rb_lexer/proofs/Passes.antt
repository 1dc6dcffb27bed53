-- Proves that checking a text finds its first error.
use Rattle.std.proofs.Common.{◌≡◌, ◌≢◌, List, ℕ, Bool, true, false, [], ◌∷◌, ◌++◌, refl, sym, ap, ◌∙◌, ne_eqb}
use Rattle.std.specs.Prelude.{◌==◌}
use Rattle.rb_lexer.specs.Lexeme.{is_white, is_punctuation, quote, backslash, slash, plain}
use Rattle.rb_lexer.specs.declared.fault.LexError.{LexError}
use Rattle.rb_lexer.specs.Faults.{broken_chars}
use Rattle.rb_lexer.specs.Atom.{Atom, blank, punct, single, atom_chars, atoms_chars, IsAtom, AreAtoms, Stops}
use Rattle.rb_lexer.specs.inner.Passing.{BreaksSo}
use Rattle.rb_lexer.proofs.Turns.{chars_front, are_front}

-- Atoms of the text come before the rest.
abbrev pub Follows : List ℕ → List ℕ → Type 0
Follows text rest = (xs : List Atom) (end : List ℕ) → rest ≡ atoms_chars xs end → AreAtoms xs end
    → (ys : List Atom) × (text ≡ atoms_chars ys end) × AreAtoms ys end

pub follows_more : (text rest : List ℕ) → Follows text rest → (front : List Atom) (after : List ℕ) → rest ≡ atoms_chars front after → AreAtoms front after
    → Follows text after
follows_more text rest so_far front after e are = λ xs end spelled good.
    so_far (front ++ xs) end (e ∙ ap (atoms_chars front) spelled ∙ sym (chars_front front xs end)) (are_front front xs end (rw (sym spelled) are) good)

-- a character that is no quote, no backslash and no slash is an atom by itself
atom_of : Bool → Bool → ℕ → Atom
atom_of true p c = blank c
atom_of false true c = punct c
atom_of false false c = single (plain c)

atom_is : (w p : Bool) (c : ℕ) (rest : List ℕ) → is_white c ≡ w → is_punctuation c ≡ p → (c == quote) ≡ false → (c == backslash) ≡ false → (c == slash) ≡ false
    → (atom_chars (atom_of w p c) rest ≡ c ∷ rest) × IsAtom (atom_of w p c) rest
unfolding atom_of
atom_is true p c rest w k q b s = (refl, w)
atom_is false true c rest w k q b s = (refl, k)
atom_is false false c rest w k q b s = (refl, (tt, (rw (w, q, b, k) refl, rw s refl)))

pub plain_more : (text rest : List ℕ) → Follows text rest → (c : ℕ) (after : List ℕ) → rest ≡ c ∷ after → c ≢ quote → c ≢ backslash → c ≢ slash
    → Follows text after
plain_more text rest so_far c after e q b s =
    let a = atom_is (is_white c) (is_punctuation c) c after refl refl (ne_eqb c quote q) (ne_eqb c backslash b) (ne_eqb c slash s) in
    follows_more text rest so_far (atom_of (is_white c) (is_punctuation c) c ∷ []) after (e ∙ sym a.0) (a.1, tt)

pub breaks_so : (text rest : List ℕ) → Follows text rest → (s : LexError) → Stops s rest → BreaksSo s text
breaks_so text rest so_far s stops = λ other.
    let b = stops other in
    let w = so_far [] (broken_chars b.0) b.1 tt in
    (w.0, (b.0, (w.1, w.2, b.2, b.3, b.4)))
