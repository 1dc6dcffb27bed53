-- Proves that if the guess of an untyped body fails, no form has the marks up to and with the one that decides.
use Rattle.std.proofs.Common.{◌≡◌, ℕ, true, false, List, [], ◌∷◌, Some, None, refl, sym, ap, ◌∙◌}
use Rattle.std.proofs.lemmas.Bool.{false≢true}
use Rattle.rb_lexer.specs.declared.token.Token.{Token}
use Rattle.rb_lexer.specs.declared.token.Mark.{Mark}
use Rattle.rb_lexer.specs.declared.token.Mark.TheVariants.{Text, LeftBrace, RightBrace, Colon}
use Rattle.rb_grammar.specs.Form.{marks, Body, plain, group, listed, leaf, table, array, no_entries, entry, no_elements, one_text, one_body, comma_marks}
use Rattle.rb_grammar.specs.Form.{body_marks, entries_marks, elements_marks, IsForm}
use Rattle.rb_grammar.specs.Reading.{Punctuation, left, right, colon, comma, punctuation_mark, is_punctuation, text_of, begins, first_text}
use Rattle.rb_grammar.proofs.Unique.{IsOpening, Opens, body_opens}

-- both begin with the same mark, or there is none in both
abbrev pub Alike : List Mark → List Mark → Type 0
Alike [] ys = ys ≡ []
Alike (x ∷ xs) ys = (more : List Mark) × (ys ≡ x ∷ more)

mark_same : (s : Punctuation) → is_punctuation s (punctuation_mark s) ≡ true
mark_same left = refl
mark_same right = refl
mark_same colon = refl
mark_same comma = refl

heads : (x y : Mark) (xs ys : List Mark) → x ∷ xs ≡ y ∷ ys → x ≡ y
heads x y xs ys e = cc

pub not_text : (ts : List Token) (s : List ℕ) (ms tail : List Mark) → first_text ts ≡ None → Alike (marks ts) tail → Text s ∷ ms ≡ tail → ⊥
not_text [] s ms tail none a e = let bad : Text s ∷ ms ≡ [] = e ∙ a in cc
not_text (t ∷ ts) s ms tail none a e =
    let same : t.what ≡ Text s = sym (heads (Text s) t.what ms a.0 (e ∙ a.1)) in
    let bad : None ≡ Some s = sym none ∙ ap text_of same in cc

pub not_mark : (s : Punctuation) (ts : List Token) (ms tail : List Mark) → begins s ts ≡ false → Alike (marks ts) tail → punctuation_mark s ∷ ms ≡ tail → ⊥
not_mark s [] ms tail none a e = let bad : punctuation_mark s ∷ ms ≡ [] = e ∙ a in cc
not_mark s (t ∷ ts) ms tail none a e =
    let same : t.what ≡ punctuation_mark s = sym (heads (punctuation_mark s) t.what ms a.0 (e ∙ a.1)) in
    false≢true (sym none ∙ ap (is_punctuation s) same ∙ mark_same s)

pub not_body : (b : Body) (ts : List Token) (ms tail : List Mark) → begins left ts ≡ false → begins colon ts ≡ false → Alike (marks ts) tail
    → body_marks b ms ≡ tail → ⊥
not_body b ts ms tail no_left no_colon a e = by_mark (body_opens b ms) where
  by_mark : Opens (body_marks b ms) → ⊥
  by_mark h = opened h.first h.opening (sym h.is ∙ e) where
    opened : (m : Mark) → IsOpening m → m ∷ h.others ≡ tail → ⊥
    opened LeftBrace o e = not_mark left ts h.others tail no_left a e
    opened Colon o e = not_mark colon ts h.others tail no_colon a e
    opened t o e = o

-- after the brace neither a text nor `{`, `:` or `}`
pub unguessed_first : (after : List Token) → first_text after ≡ None → begins left after ≡ false → begins colon after ≡ false → begins right after ≡ false
    → (f : Body) (rest ms : List Mark) → IsForm f → Alike (marks after) ms → body_marks f rest ≡ LeftBrace ∷ ms → ⊥
unguessed_first after text no_left no_colon no_right (plain r) rest ms form a e = not_text after r (RightBrace ∷ rest) ms text a cc
unguessed_first after text no_left no_colon no_right (group no_entries) rest ms form a e = form.0
unguessed_first after text no_left no_colon no_right (group (entry k b c es)) rest ms form a e =
    not_text after k (body_marks b (comma_marks c (entries_marks es (RightBrace ∷ rest)))) ms text a cc
unguessed_first after text no_left no_colon no_right (listed no_elements) rest ms form a e = not_mark right after rest ms no_right a cc
unguessed_first after text no_left no_colon no_right (listed (one_text s c xs)) rest ms form a e =
    not_text after s (comma_marks c (elements_marks xs (RightBrace ∷ rest))) ms text a cc
unguessed_first after text no_left no_colon no_right (listed (one_body b c xs)) rest ms form a e =
    not_body b after (comma_marks c (elements_marks xs (RightBrace ∷ rest))) ms no_left no_colon a cc
unguessed_first after text no_left no_colon no_right (leaf l) rest ms form a e = cc
unguessed_first after text no_left no_colon no_right (table es) rest ms form a e = cc
unguessed_first after text no_left no_colon no_right (array xs) rest ms form a e = cc

-- after the brace and a text no sign comes
pub unguessed_second : (mid : List Token) (r : List ℕ) → begins left mid ≡ false → begins colon mid ≡ false → begins right mid ≡ false
    → begins comma mid ≡ false
    → (f : Body) (rest ms : List Mark) → IsForm f → Alike (marks mid) ms → body_marks f rest ≡ LeftBrace ∷ Text r ∷ ms → ⊥
unguessed_second mid r no_left no_colon no_right no_comma (plain s) rest ms form a e = not_mark right mid rest ms no_right a cc
unguessed_second mid r no_left no_colon no_right no_comma (group no_entries) rest ms form a e = form.0
unguessed_second mid r no_left no_colon no_right no_comma (group (entry k b c es)) rest ms form a e =
    not_body b mid (comma_marks c (entries_marks es (RightBrace ∷ rest))) ms no_left no_colon a cc
unguessed_second mid r no_left no_colon no_right no_comma (listed no_elements) rest ms form a e = cc
unguessed_second mid r no_left no_colon no_right no_comma (listed (one_text s true xs)) rest ms form a e =
    not_mark comma mid (elements_marks xs (RightBrace ∷ rest)) ms no_comma a cc
unguessed_second mid r no_left no_colon no_right no_comma (listed (one_text s false xs)) rest ms form a e = false≢true form.0
unguessed_second mid r no_left no_colon no_right no_comma (listed (one_body b c xs)) rest ms form a e =
    not_first (body_opens b (comma_marks c (elements_marks xs (RightBrace ∷ rest)))) where
      not_first : Opens (body_marks b (comma_marks c (elements_marks xs (RightBrace ∷ rest)))) → ⊥
      not_first h = opened h.first h.opening (sym h.is ∙ inner) where
        inner : body_marks b (comma_marks c (elements_marks xs (RightBrace ∷ rest))) ≡ Text r ∷ ms
        inner = cc

        opened : (m : Mark) → IsOpening m → m ∷ h.others ≡ Text r ∷ ms → ⊥
        opened LeftBrace o e = cc
        opened Colon o e = cc
        opened t o e = o
unguessed_second mid r no_left no_colon no_right no_comma (leaf l) rest ms form a e = cc
unguessed_second mid r no_left no_colon no_right no_comma (table es) rest ms form a e = cc
unguessed_second mid r no_left no_colon no_right no_comma (array xs) rest ms form a e = cc
