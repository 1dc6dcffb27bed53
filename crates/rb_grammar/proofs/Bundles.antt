-- Proves that the reading function reads exactly the spelled bundles.
use Rattle.std.proofs.Common.{◌≡◌, ℕ, suc, ◌≤◌, true, List, [], ◌∷◌, length, Option, Some, None, Ok, refl, ap, subst, ◌∙◌, arith, inl, inr}
use Rattle.std.proofs.lemmas.Slice.Eq.{bytes_eq-Decides}
use Rattle.rb_lexer.specs.declared.token.Token.{Token}
use Rattle.rb_lexer.specs.declared.token.Mark.{Mark}
use Rattle.rb_lexer.specs.declared.token.Mark.TheVariants.{Text, LeftBrace, RightBrace, Colon}
use Rattle.rb_grammar.specs.Form.{Head, untyped, plain_table, no_fallback_table, table_word, no_fallback_table_word, marks, Entries, entries_marks, head_marks}
use Rattle.rb_grammar.specs.Form.{bundle_marks, AreForms}
use Rattle.rb_grammar.specs.Reading.{◌>>=◌, left, colon, begins, tail, punctuation_at, text_at, Tests, Word, string_type, alias_type, binary_type, int_type}
use Rattle.rb_grammar.specs.Reading.{ints_type, table_type, array_type, word_units, word_at, first_text, is_no_fallback_text, head_word_at, table_word_or}
use Rattle.rb_grammar.specs.Reading.{type_at, entries, body, ended, bundle}
use Rattle.rb_grammar.proofs.Marks.{text_first, mark_there, mark_takes, text_takes}
use Rattle.rb_grammar.proofs.Sound.{bind_ok, ok_is, chosen, AllPassed, entries_take}
use Rattle.rb_grammar.proofs.SoundBody.{word_takes, body_takes}
use Rattle.rb_grammar.proofs.Complete.{begins_is, text_is, tail_is, mark_again, entries_again}
use Rattle.rb_grammar.proofs.Height.{entries_height}

abbrev Whole : Type 0
Whole = List ℕ × Head × Entries

-- ---- the type of a bundle

-- the type that is read after a colon
pub data HeadRead (ts : List Token) (x : Head × List Token) : Type 0 where
  no_fallback_read : first_text ts ≡ Some no_fallback_table_word → ◌≡◌ {A = Head × List Token} (no_fallback_table, tail ts) x → HeadRead ts x
  word_read : (w : Word × List Token) → word_at ts ≡ Ok w → table_word_or ts w.0 w.1 ≡ Ok x → HeadRead ts x

pub head_read : (ts : List Token) (x : Head × List Token) → head_word_at ts ≡ Ok x → HeadRead ts x
head_read ts x e =
    elim (chosen (is_no_fallback_text (first_text ts)) (Ok (no_fallback_table, tail ts)) (word_at ts >>= λ w. table_word_or ts w.0 w.1) (Ok x) e) [
      | inl h ↦ let made : Head × List Token = (no_fallback_table, tail ts) in no_fallback_read (there (first_text ts) h.0) (ok_is made x h.1)
      | inr h ↦ let w = bind_ok (word_at ts) (λ w. table_word_or ts w.0 w.1) x h.1 in word_read w.0 w.1 w.2
    ] where
      there : (o : Option (List ℕ)) → is_no_fallback_text o ≡ true → o ≡ Some no_fallback_table_word
      there None e = absurd cc
      there (Some s) e = ap (λ r. Some r) ((bytes_eq-Decides s no_fallback_table_word).0 e)

pub type_takes : (ts : List Token) (x : Head × List Token) → type_at ts ≡ Ok x → marks ts ≡ head_marks x.0 (marks x.1)
type_takes ts x e = elim (chosen (begins colon ts) (head_word_at (tail ts)) (Ok (untyped, ts)) (Ok x) e) [
  | inl h ↦ by_head (mark_there colon ts h.0) (head_read (tail ts) x h.1)
  | inr h ↦ let made : Head × List Token = (untyped, ts) in subst (λ (y : Head × List Token). marks ts ≡ head_marks y.0 (marks y.1)) (ok_is made x h.1) refl
] where
  by_word : (w : Word) (rest : List Token) → marks ts ≡ Colon ∷ Text (word_units w) ∷ marks rest → table_word_or (tail ts) w rest ≡ Ok x
      → marks ts ≡ head_marks x.0 (marks x.1)
  by_word table_type rest spelled e = let made : Head × List Token = (plain_table, rest) in
      subst (λ (y : Head × List Token). marks ts ≡ head_marks y.0 (marks y.1)) (ok_is made x e) spelled
  by_word string_type rest spelled e = absurd cc
  by_word alias_type rest spelled e = absurd cc
  by_word (binary_type long) rest spelled e = absurd cc
  by_word (int_type long) rest spelled e = absurd cc
  by_word ints_type rest spelled e = absurd cc
  by_word array_type rest spelled e = absurd cc

  by_head : marks ts ≡ Colon ∷ marks (tail ts) → HeadRead (tail ts) x → marks ts ≡ head_marks x.0 (marks x.1)
  by_head there (no_fallback_read comes same) =
      subst (λ (y : Head × List Token). marks ts ≡ head_marks y.0 (marks y.1)) same
      (there ∙ ap (λ ms. Colon ∷ ms) (text_first (tail ts) no_fallback_table_word comes))
  by_head there (word_read w is e) = by_word w.0 w.1 (there ∙ ap (λ ms. Colon ∷ ms) (word_takes (tail ts) w is)) e

ended_takes : (name : List ℕ) (head : Head) (es : Entries) (ts : List Token) (x : Whole) → ended name head es ts ≡ Ok x → (ts ≡ []) × ((name, head, es) ≡ x)
ended_takes name head es [] x e = (refl, cc)
ended_takes name head es (t ∷ ts) x e = absurd cc

pub record TookBundle (tests : Tests) (ts : List Token) (x : Whole) : Type 0 where
  pub spelled : marks ts ≡ bundle_marks x.0 x.1 x.2
  pub form : AreForms x.2
  pub passed : AllPassed tests x.2
  pub high : suc (entries_height x.2) ≤ 64

pub bundle_takes : (tests : Tests) (ts : List Token) (x : Whole) → bundle tests ts ≡ Ok x → TookBundle tests ts x
unfolding bundle
bundle_takes tests ts x e =
    let a =
    bind_ok (text_at ts) (λ name. type_at name.1 >>= λ head. punctuation_at left head.1 >>= λ after. entries tests (body tests 63) (suc (length after)) []
    after >>= λ es. ended name.0 head.0 es.0 es.1) x e in
    let b =
    bind_ok (type_at a.0.1) (λ head. punctuation_at left head.1 >>= λ after. entries tests (body tests 63) (suc (length after)) [] after >>= λ es. ended
    a.0.0 head.0 es.0 es.1) x a.2 in
    let c =
    bind_ok (punctuation_at left b.0.1) (λ after. entries tests (body tests 63) (suc (length after)) [] after >>= λ es. ended a.0.0 b.0.0 es.0 es.1) x
    b.2 in
    let d = bind_ok (entries tests (body tests 63) (suc (length c.0)) [] c.0) (λ es. ended a.0.0 b.0.0 es.0 es.1) x c.2 in
    let f = ended_takes a.0.0 b.0.0 d.0.0 d.0.1 x d.2 in
    let t = entries_take tests 63 (body tests 63) (body_takes tests 63) (suc (length c.0)) [] c.0 d.0 d.1 in
    subst (TookBundle tests ts) f.1 (record {
      spelled =
          text_takes ts a.0 a.1 ∙ ap (λ ms. Text a.0.0 ∷ ms)
          (type_takes a.0.1 b.0 b.1 ∙ ap (head_marks b.0.0)
          (mark_takes left b.0.1 c.0 c.1 ∙ ap (λ ms. LeftBrace ∷ ms) (t.spelled ∙ ap (λ r. entries_marks d.0.0 (RightBrace ∷ marks r)) f.0)));
      form = t.form;
      passed = t.passed;
      high = omega (arith, t.high);
    })

-- ---- the other way

abbrev TypeAgain : Head → List Token → List Mark → Type 0
TypeAgain head ts ms = (r : List Token) × (type_at ts ≡ Ok (head, r)) × (marks r ≡ LeftBrace ∷ ms)

type_again : (head : Head) (ts : List Token) (ms : List Mark) → marks ts ≡ head_marks head (LeftBrace ∷ ms) → TypeAgain head ts ms
type_again untyped ts ms e = (ts, rw (begins_is colon ts LeftBrace ms e) refl, e)
type_again plain_table ts ms e =
    let e1 = tail_is ts Colon (Text table_word ∷ LeftBrace ∷ ms) e in (
      tail (tail ts),
      rw (begins_is colon ts Colon (Text table_word ∷ LeftBrace ∷ ms) e, text_is (tail ts) (Text table_word) (LeftBrace ∷ ms) e1) refl,
      tail_is (tail ts) (Text table_word) (LeftBrace ∷ ms) e1,
    )
type_again no_fallback_table ts ms e =
    let e1 = tail_is ts Colon (Text no_fallback_table_word ∷ LeftBrace ∷ ms) e in (
      tail (tail ts),
      rw (begins_is colon ts Colon (Text no_fallback_table_word ∷ LeftBrace ∷ ms) e, text_is (tail ts) (Text no_fallback_table_word) (LeftBrace ∷ ms) e1) refl,
      tail_is (tail ts) (Text no_fallback_table_word) (LeftBrace ∷ ms) e1,
    )

nothing_left : (ts : List Token) → marks ts ≡ [] → ts ≡ []
nothing_left [] e = refl
nothing_left (t ∷ ts) e = absurd cc

pub bundle_again : (tests : Tests) (ts : List Token) (name : List ℕ) (head : Head) (es : Entries) → AreForms es → AllPassed tests es
    → suc (entries_height es) ≤ 64 → marks ts ≡ bundle_marks name head es → bundle tests ts ≡ Ok (name, head, es)
unfolding bundle
bundle_again tests ts name head es form passed high e =
    let inner : List Mark = entries_marks es (RightBrace ∷ []) in
    let e1 = tail_is ts (Text name) (head_marks head (LeftBrace ∷ inner)) e in
    let t = type_again head (tail ts) inner e1 in
    let after = tail t.0 in
    let there = tail_is t.0 LeftBrace inner t.2 in
    let found = entries_again tests es 63 (suc (length after)) [] after [] form passed (λ k h. refl) (omega arith) (omega arith) there in
    rw (text_is ts (Text name) (head_marks head (LeftBrace ∷ inner)) e, t.1, mark_again left t.0 inner t.2, found.1, nothing_left found.0 found.2) refl
