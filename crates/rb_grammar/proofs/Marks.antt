-- Proves which marks each small reader accepts.
use Rattle.std.proofs.Common.{◌≡◌, ℕ, Bool, true, false, cond, List, [], ◌∷◌, Option, Some, None, Ok, Err, refl, ap, ◌∙◌}
use Rattle.rb_lexer.specs.declared.token.Mark.{Mark}
use Rattle.rb_lexer.specs.declared.token.Mark.TheVariants.{Text, LeftBrace, RightBrace, Colon, Comma}
use Rattle.rb_lexer.specs.declared.token.Token.{Token}
use Rattle.rb_lexer.specs.declared.fault.SourceKind.TheVariants.{Unexpected}
use Rattle.rb_grammar.specs.Form.{marks, comma_marks}
use Rattle.rb_grammar.specs.Reading.{Stop, stop, Punctuation, left, right, colon, comma, punctuation_mark, is_punctuation, text_of, begins, tail}
use Rattle.rb_grammar.specs.Reading.{punctuation_at, text_or, text_at, first_text, has_comma, after_comma}

text_is : (m : Mark) (s : List ℕ) → text_of m ≡ Some s → m ≡ Text s
text_is (Text r) s e = let same : r ≡ s = cc in ap Text same
text_is LeftBrace s e = absurd cc
text_is RightBrace s e = absurd cc
text_is Colon s e = absurd cc
text_is Comma s e = absurd cc

pub mark_is : (s : Punctuation) (m : Mark) → is_punctuation s m ≡ true → m ≡ punctuation_mark s
mark_is left (Text r) e = absurd cc
mark_is left LeftBrace e = refl
mark_is left RightBrace e = absurd cc
mark_is left Colon e = absurd cc
mark_is left Comma e = absurd cc
mark_is right (Text r) e = absurd cc
mark_is right LeftBrace e = absurd cc
mark_is right RightBrace e = refl
mark_is right Colon e = absurd cc
mark_is right Comma e = absurd cc
mark_is colon (Text r) e = absurd cc
mark_is colon LeftBrace e = absurd cc
mark_is colon RightBrace e = absurd cc
mark_is colon Colon e = refl
mark_is colon Comma e = absurd cc
mark_is comma (Text r) e = absurd cc
mark_is comma LeftBrace e = absurd cc
mark_is comma RightBrace e = absurd cc
mark_is comma Colon e = absurd cc
mark_is comma Comma e = refl

pub text_first : (ts : List Token) (s : List ℕ) → first_text ts ≡ Some s → marks ts ≡ Text s ∷ marks (tail ts)
text_first [] s e = absurd cc
text_first (t ∷ ts) s e = ap (λ m. m ∷ marks ts) (text_is t.what s e)

pub mark_there : (s : Punctuation) (ts : List Token) → begins s ts ≡ true → marks ts ≡ punctuation_mark s ∷ marks (tail ts)
mark_there s [] e = absurd cc
mark_there s (t ∷ ts) e = ap (λ m. m ∷ marks ts) (mark_is s t.what e)

guarded : (b : Bool) (x y : List Token) (s : Stop) → cond b (Ok x) (Err s) ≡ Ok y → (b ≡ true) × (x ≡ y)
guarded true x y s e = (refl, cc)
guarded false x y s e = absurd cc

pub mark_takes : (s : Punctuation) (ts r : List Token) → punctuation_at s ts ≡ Ok r → marks ts ≡ punctuation_mark s ∷ marks r
mark_takes s ts r e = let g = guarded (begins s ts) (tail ts) r (stop Unexpected ts) e in mark_there s ts g.0 ∙ ap (λ us. punctuation_mark s ∷ marks us) g.1

pub comma_takes : (ts : List Token) → marks ts ≡ comma_marks (has_comma ts) (marks (after_comma ts))
comma_takes ts = at_comma (has_comma ts) refl where
  at_comma : (b : Bool) → has_comma ts ≡ b → marks ts ≡ comma_marks b (marks (cond b (tail ts) ts))
  at_comma true e = mark_there comma ts e
  at_comma false e = refl

pub text_takes : (ts : List Token) (x : List ℕ × List Token) → text_at ts ≡ Ok x → marks ts ≡ Text x.0 ∷ marks x.1
text_takes ts x e = seen (first_text ts) refl e where
  seen : (o : Option (List ℕ)) → first_text ts ≡ o → text_or ts o ≡ Ok x → marks ts ≡ Text x.0 ∷ marks x.1
  seen None is e = absurd cc
  seen (Some s) is e = let same : ◌≡◌ {A = List ℕ × List Token} (s, tail ts) x = cc in
      text_first ts s is ∙ ap (λ (y : List ℕ × List Token). Text y.0 ∷ marks y.1) same

pub text_read : (ts : List Token) (x : List ℕ × List Token) → text_at ts ≡ Ok x → (first_text ts ≡ Some x.0) × (tail ts ≡ x.1)
text_read ts x e = seen (first_text ts) refl e where
  seen : (o : Option (List ℕ)) → first_text ts ≡ o → text_or ts o ≡ Ok x → (first_text ts ≡ Some x.0) × (tail ts ≡ x.1)
  seen None is e = absurd cc
  seen (Some t) is e = let same : ◌≡◌ {A = List ℕ × List Token} (t, tail ts) x = cc in
      (is ∙ ap (λ (y : List ℕ × List Token). Some y.0) same, ap (λ (y : List ℕ × List Token). y.1) same)
