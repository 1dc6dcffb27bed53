-- Proves how taking a token changes the cursor and its lookahead.
use Rattle.std.proofs.Common.{◌≡◌, ◌⊎◌, inl, inr, ◌||◌, true, false, ℕ, List, [], ◌∷◌, drop, Some, None, refl}
use Rattle.rb_lexer.specs.declared.token.Token.{Token}
use Rattle.rb_lexer.specs.declared.token.Mark.{Mark}
use Rattle.rb_lexer.specs.declared.token.Mark.TheVariants as mark
use Rattle.rb_grammar.specs.Reading.{left, colon, begins, is_punctuation, first_text, text_of, tail}
use Rattle.rb_parser.specs.inner.Views.{next_mark, next_of}
use Rattle.rb_parser.specs.declared.cursor.Lookahead.TheVariants as next

pub dropped : (ts : List Token) → drop 1 ts ≡ tail ts
dropped [] = refl
dropped (t ∷ ts) = refl

pub next_text : (ts : List Token) → next_of ts ≡ next.Text → (s : List ℕ) × (first_text ts ≡ Some s)
next_text [] e = absurd cc
next_text (t ∷ ts) e = by t.what e where
  by : (m : Mark) → next_mark m ≡ next.Text → (s : List ℕ) × (text_of m ≡ Some s)
  by (mark.Text s) e = (s, refl)
  by mark.LeftBrace e = absurd cc
  by mark.RightBrace e = absurd cc
  by mark.Colon e = absurd cc
  by mark.Comma e = absurd cc

pub next_colon : (ts : List Token) → next_of ts ≡ next.Colon → begins colon ts ≡ true
next_colon [] e = absurd cc
next_colon (t ∷ ts) e = by t.what e where
  by : (m : Mark) → next_mark m ≡ next.Colon → is_punctuation colon m ≡ true
  by (mark.Text s) e = absurd cc
  by mark.LeftBrace e = absurd cc
  by mark.RightBrace e = absurd cc
  by mark.Colon e = refl
  by mark.Comma e = absurd cc

pub next_left : (ts : List Token) → next_of ts ≡ next.Left → (begins colon ts ≡ false) × (begins left ts ≡ true)
next_left [] e = absurd cc
next_left (t ∷ ts) e = by t.what e where
  by : (m : Mark) → next_mark m ≡ next.Left → (is_punctuation colon m ≡ false) × (is_punctuation left m ≡ true)
  by (mark.Text s) e = absurd cc
  by mark.LeftBrace e = (refl, refl)
  by mark.RightBrace e = absurd cc
  by mark.Colon e = absurd cc
  by mark.Comma e = absurd cc

-- No value that is a body begins with it.
pub no_body : (ts : List Token) → (next_of ts ≡ next.Text) ⊎ (next_of ts ≡ next.Other) → (begins colon ts ≡ false) × (begins left ts ≡ false)
no_body [] e = (refl, refl)
no_body (t ∷ ts) e = by t.what e where
  by : (m : Mark) → (next_mark m ≡ next.Text) ⊎ (next_mark m ≡ next.Other) → (is_punctuation colon m ≡ false) × (is_punctuation left m ≡ false)
  by (mark.Text s) e = (refl, refl)
  by mark.LeftBrace (inl e) = absurd cc
  by mark.LeftBrace (inr e) = absurd cc
  by mark.RightBrace e = (refl, refl)
  by mark.Colon (inl e) = absurd cc
  by mark.Colon (inr e) = absurd cc
  by mark.Comma e = (refl, refl)

-- A body comes next, and no text.
pub next_body : (ts : List Token) → (next_of ts ≡ next.Left) ⊎ (next_of ts ≡ next.Colon)
    → (first_text ts ≡ None) × ((begins colon ts || begins left ts) ≡ true)
next_body [] (inl e) = absurd cc
next_body [] (inr e) = absurd cc
next_body (t ∷ ts) e = by t.what e where
  by : (m : Mark) → (next_mark m ≡ next.Left) ⊎ (next_mark m ≡ next.Colon)
      → (text_of m ≡ None) × ((is_punctuation colon m || is_punctuation left m) ≡ true)
  by (mark.Text s) (inl e) = absurd cc
  by (mark.Text s) (inr e) = absurd cc
  by mark.LeftBrace e = (refl, refl)
  by mark.RightBrace (inl e) = absurd cc
  by mark.RightBrace (inr e) = absurd cc
  by mark.Colon e = (refl, refl)
  by mark.Comma (inl e) = absurd cc
  by mark.Comma (inr e) = absurd cc

-- Neither comes.
pub next_other : (ts : List Token) → next_of ts ≡ next.Other → (first_text ts ≡ None) × ((begins colon ts || begins left ts) ≡ false)
next_other [] e = (refl, refl)
next_other (t ∷ ts) e = by t.what e where
  by : (m : Mark) → next_mark m ≡ next.Other → (text_of m ≡ None) × ((is_punctuation colon m || is_punctuation left m) ≡ false)
  by (mark.Text s) e = absurd cc
  by mark.LeftBrace e = absurd cc
  by mark.RightBrace e = (refl, refl)
  by mark.Colon e = absurd cc
  by mark.Comma e = (refl, refl)
