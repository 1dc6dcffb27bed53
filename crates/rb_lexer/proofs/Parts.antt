-- Quoted pieces, part by part.
use Rattle.std.proofs.Common.{◌≡◌, ◌≢◌, ℕ, Bool, true, false, eqb, ◌||◌, List, [], ◌∷◌, ◌++◌, Some, None, refl, sym, ap, ◌∙◌, append-nil, append_assoc, ne_eqb}
use Rattle.rb_lexer.specs.Lexeme.{is_white, is_punctuation, begins_comment, quote, backslash, Escape, escape_chars, escape_value, IsEscape, units_of, Part}
use Rattle.rb_lexer.specs.Lexeme.{plain, escaped, parts_chars, parts_units, IsQuotedPart, AreParts}
use Rattle.rb_lexer.specs.Escapes.{escape_at}
use Rattle.rb_lexer.specs.declared.fault.SourceKind.TheVariants.{BadEscape, OpenQuote}
use Rattle.rb_lexer.specs.declared.fault.LexError.{LexError}
use Rattle.rb_lexer.specs.Faults.{open_quote, bad_quoted}
use Rattle.rb_lexer.specs.Tokens.{width}
use Rattle.rb_lexer.specs.Atom.{Stops, IsSingle, IsPastQuote, IsPastRun}
use Rattle.rb_lexer.proofs.Escapes.{escape_takes, no_escape}

-- the whole continues as its rest does
abbrev pub GoesOn : (Part → List ℕ → Type 0) → List ℕ → List ℕ → List ℕ → List ℕ → Type 0
GoesOn Is before text units rest =
    (ps : List Part) (more : List ℕ) → rest ≡ parts_chars ps more → AreParts Is ps more
    → (qs : List Part) × (text ≡ parts_chars qs more) × AreParts Is qs more × (before ++ parts_units qs ≡ units ++ parts_units ps)

module _ (Is : Part → List ℕ → Type 0) where
  pub parts_start : (before text : List ℕ) → GoesOn Is before text before text
  parts_start before text ps more e is = (ps, e, is, refl)

  module _ (before text units rest : List ℕ) (so_far : GoesOn Is before text units rest) where
    pub plain_more : (c : ℕ) (after units' : List ℕ) → rest ≡ c ∷ after → Is (plain c) after → units' ≡ units ++ units_of c → GoesOn Is before text units' after
    plain_more c after units' e here is ps more spelled good =
        let w = so_far (plain c ∷ ps) more (e ∙ ap (λ (xs : List ℕ). c ∷ xs) spelled) (rw (sym spelled) here, good) in
        (w.0, w.1, w.2, w.3 ∙ sym (append_assoc units (units_of c) (parts_units ps)) ∙ ap (λ (us : List ℕ). us ++ parts_units ps) (sym is))

    pub escape_more : ((e : Escape) (past : List ℕ) → IsEscape e past → Is (escaped e) past) → (after past units' : List ℕ) (e : Escape) (code : ℕ)
        → rest ≡ backslash ∷ after → escape_at after ≡ Some (e, past) → code ≡ escape_value e → units' ≡ units ++ units_of code
        → GoesOn Is before text units' past
    escape_more of_escape after past units' e code is read value grew ps more spelled good =
        let t = escape_takes after e past read in
        let w =
        so_far (escaped e ∷ ps) more (is ∙ ap (λ (xs : List ℕ). backslash ∷ xs) (t.0 ∙ ap (escape_chars e) spelled))
        (rw (sym spelled) (of_escape e past t.1), good) in (
          w.0,
          w.1,
          w.2,
          w.3 ∙ sym (append_assoc units (units_of (escape_value e)) (parts_units ps))
              ∙ ap (λ (us : List ℕ). us ++ parts_units ps) (rw (sym value) (sym grew)),
        )

pub plain_quoted : (c : ℕ) (rest : List ℕ) → c ≢ quote → c ≢ backslash → IsQuotedPart (plain c) rest
plain_quoted c rest not_quote not_backslash = rw (ne_eqb c quote not_quote, ne_eqb c backslash not_backslash) refl

either_false : (a b : Bool) → (a || b) ≡ false → (a ≡ false) × (b ≡ false)
either_false true b e = cc
either_false false b e = (refl, e)

pub plain_single : (c : ℕ) (rest : List ℕ) → c ≢ backslash → (is_white c || eqb c quote || is_punctuation c || begins_comment (c ∷ rest)) ≡ false
    → IsSingle (plain c) rest
plain_single c rest not_backslash e =
    let comment = either_false (is_white c || eqb c quote || is_punctuation c) (begins_comment (c ∷ rest)) e in
    let mark = either_false (is_white c || eqb c quote) (is_punctuation c) comment.0 in
    let white = either_false (is_white c) (eqb c quote) mark.0 in
    (tt, (rw (white.0, white.1, ne_eqb c backslash not_backslash, mark.1) refl, rw comment.1 refl))

pub run_ends : (before front text units rest : List ℕ) → before ≡ front → GoesOn IsSingle before text units rest → IsPastRun front text units rest
run_ends before front text units rest e so_far = let w = so_far [] rest refl tt in
    (w.0, w.1, w.2, sym (append-nil units) ∙ sym w.3 ∙ ap (λ (us : List ℕ). us ++ parts_units w.0) e)

module _ (text units rest : List ℕ) (so_far : GoesOn IsQuotedPart [] text units rest) where
  pub quote_ends : (after : List ℕ) → rest ≡ quote ∷ after → IsPastQuote text units after
  quote_ends after e = let w = so_far [] (quote ∷ after) e tt in (w.0, w.1, w.2, sym (w.3 ∙ append-nil units))

  pub quote_open : rest ≡ [] → (s : LexError) → s.kind ≡ OpenQuote → s.left ≡ 0 → Stops s (quote ∷ text)
  quote_open e s kind left not_memory = let w = so_far [] [] e tt in (open_quote w.0, ap (λ (xs : List ℕ). quote ∷ xs) w.1, w.2, kind, left)

  pub quote_bad : (after : List ℕ) → rest ≡ backslash ∷ after → escape_at after ≡ None → (s : LexError) → s.kind ≡ BadEscape → s.left ≡ width rest
      → Stops s (quote ∷ text)
  quote_bad after e none s kind left not_memory =
      let w = so_far [] (backslash ∷ after) e tt in
      (bad_quoted w.0 after, ap (λ (xs : List ℕ). quote ∷ xs) w.1, (w.2, no_escape after none), kind, left ∙ ap width e)
