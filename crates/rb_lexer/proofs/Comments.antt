-- Comments, character by character.
use Rattle.std.proofs.Common.{◌≡◌, ℕ, Bool, true, false, eqb, not, List, [], ◌∷◌, ◌++◌, Option, Some, None, refl, ap, ◌∙◌, IsTrue, append-nil, eqb-true}
use Rattle.rb_lexer.specs.Lexeme.{slash, star, ends_line, begins, option_chars, line_comment, block_comment, comment_chars, HasNoEnd, IsComment}

abbrev pub LineGoesOn : List ℕ → List ℕ → Type 0
LineGoesOn text rest =
    (cs : List ℕ) (end : Option ℕ) (more : List ℕ) → rest ≡ cs ++ option_chars end more → IsComment (line_comment cs end) more
    → (ds : List ℕ) × (text ≡ ds ++ option_chars end more) × IsComment (line_comment ds end) more

abbrev pub PastLine : List ℕ → List ℕ → Type 0
PastLine text rest =
    (cs : List ℕ) × ((end : Option ℕ) × ((slash ∷ slash ∷ text ≡ comment_chars (line_comment cs end) rest) × IsComment (line_comment cs end) rest))

line_with : (c : ℕ) (cs : List ℕ) (end : Option ℕ) (more : List ℕ) → ends_line c ≡ false → IsComment (line_comment cs end) more
    → IsComment (line_comment (c ∷ cs) end) more
line_with c cs None more not_end is = ((rw not_end refl, is.0), is.1)
line_with c cs (Some d) more not_end is = ((rw not_end refl, is.0), is.1)

pub line_starts : (text : List ℕ) → LineGoesOn text text
line_starts text cs end more e is = (cs, e, is)

module _ (text rest : List ℕ) (so_far : LineGoesOn text rest) where
  pub line_more : (c : ℕ) (after : List ℕ) → rest ≡ c ∷ after → ends_line c ≡ false → LineGoesOn text after
  line_more c after e not_end cs end more is good = so_far (c ∷ cs) end more (e ∙ ap (λ (xs : List ℕ). c ∷ xs) is) (line_with c cs end more not_end good)

  pub line_ends : (c : ℕ) (after : List ℕ) → rest ≡ c ∷ after → ends_line c ≡ true → PastLine text after
  line_ends c after e is_end = let w = so_far [] (Some c) after e (tt, is_end) in (w.0, (Some c, (ap (λ (xs : List ℕ). slash ∷ slash ∷ xs) w.1, w.2)))

  pub line_over : rest ≡ [] → PastLine text rest
  line_over e = let w = so_far [] None rest refl (tt, e) in (w.0, (None, (ap (λ (xs : List ℕ). slash ∷ slash ∷ xs) w.1, w.2)))

abbrev pub BlockGoesOn : List ℕ → List ℕ → Type 0
BlockGoesOn text rest = (cs more : List ℕ) → rest ≡ cs ++ more → HasNoEnd cs → (ds : List ℕ) × (text ≡ ds ++ more) × HasNoEnd ds

abbrev pub PastBlock : List ℕ → List ℕ → Type 0
PastBlock text rest = (cs : List ℕ) × ((slash ∷ star ∷ text ≡ comment_chars (block_comment cs) rest) × IsComment (block_comment cs) rest)

pub block_starts : (text : List ℕ) → BlockGoesOn text text
block_starts text cs more e is = (cs, e, is)

not_ended : (cs more after : List ℕ) → after ≡ cs ++ more → ((past : List ℕ) → after ≡ slash ∷ past → ⊥) → IsTrue (not (begins (λ d. eqb d slash) cs))
not_ended [] more after e never = refl
not_ended (d ∷ cs) more after e never = by_test (eqb d slash) refl
  where
    by_test : (b : Bool) → eqb d slash ≡ b → IsTrue (not b)
    by_test true is = absurd (never (cs ++ more) (e ∙ ap (λ x. x ∷ (cs ++ more)) (eqb-true d slash is)))
    by_test false is = refl

module _ (text rest : List ℕ) (so_far : BlockGoesOn text rest) where
  pub block_more : (c : ℕ) (after : List ℕ) → rest ≡ c ∷ after → ((past : List ℕ) → rest ≡ star ∷ slash ∷ past → ⊥) → BlockGoesOn text after
  block_more c after e never cs more is good =
      so_far (c ∷ cs) more (e ∙ ap (λ (xs : List ℕ). c ∷ xs) is) (
        λ is_star. not_ended cs more after is (λ past f. never past (e ∙ ap (λ x. x ∷ after) (eqb-true c star is_star) ∙ ap (λ (xs : List ℕ). star ∷ xs) f)),
        good,
      )

  pub block_ends : (past : List ℕ) → rest ≡ star ∷ slash ∷ past → PastBlock text past
  block_ends past e = let w = so_far [] (star ∷ slash ∷ past) e tt in (w.0, (ap (λ (xs : List ℕ). slash ∷ star ∷ xs) w.1, w.2))

  pub block_open : rest ≡ [] → HasNoEnd text
  block_open e = let w = so_far [] [] e tt in rw (w.1 ∙ append-nil w.0) w.2
