-- Proves that the bodies and bundles that reading returns are spelled by the tokens.
use Rattle.std.proofs.Common.{◌≡◌, ℕ, zero, suc, ◌≤◌, Bool, true, cond, ◌||◌, nat_lt, List, [], ◌∷◌, length, Option, Some, None, Ok, Err, refl, sym, ap, subst}
use Rattle.std.proofs.Common.{◌∙◌, arith, inl, inr}
use Rattle.std.specs.Prelude.{nat_eq}
use Rattle.std.specs.Cmp.Lexicographic.{pointwise}
use Rattle.std.proofs.lemmas.Slice.Eq.{bytes_eq-Decides}
use Rattle.std.proofs.lemmas.Bool.{ltb-true}
use Rattle.rb_lexer.specs.declared.token.Token.{Token}
use Rattle.rb_lexer.specs.declared.token.Mark.{Mark}
use Rattle.rb_lexer.specs.declared.token.Mark.TheVariants.{Text, LeftBrace, RightBrace, Colon}
use Rattle.rb_lexer.specs.declared.fault.SourceKind.{SourceKind}
use Rattle.rb_lexer.specs.declared.fault.SourceKind.TheVariants.{Unexpected, BadInt, BadHex, TooDeep}
use Rattle.rb_grammar.specs.Form.{marks, Leaf, string, alias, binary, int, ints, Body, plain, group, listed, leaf, table, array, table_word, array_word}
use Rattle.rb_grammar.specs.Form.{text_marks, numbers_marks, leaf_word, leaf_inner, body_marks, IsForm}
use Rattle.rb_grammar.specs.Reading.{stop, ◌>>=◌, left, right, colon, begins, tail, punctuation_at, text_at, first_text, Tests, Word, string_type, alias_type}
use Rattle.rb_grammar.specs.Reading.{binary_type, int_type, ints_type, table_type, array_type, word_units, first_word, all_words, word_or, word_at, checked_at}
use Rattle.rb_grammar.specs.Reading.{maybe_or, maybe_at, numbers, anything, Inner, table_at, array_at, typed_at, Guess, as_text, as_table, as_array, none_at}
use Rattle.rb_grammar.specs.Reading.{guess, untyped_at, body_at, body}
use Rattle.rb_grammar.proofs.Marks.{text_first, mark_there, mark_takes, text_takes}
use Rattle.rb_grammar.proofs.Sound.{bind_ok, ok_is, guard_ok, chosen, TextPassed, LeafPassed, Passed, Took, Law, entries_take, elements_take, numbers_take}
use Rattle.rb_grammar.proofs.Sound.{first_is, guess_table, begin_array}
use Rattle.rb_grammar.proofs.Height.{body_height}

-- ---- type words

word_is : (s : List ℕ) (ws : List Word) (w : Word) → first_word s ws ≡ Some w → s ≡ word_units w
word_is s [] w e = absurd cc
word_is s (v ∷ ws) w e = elim (chosen (pointwise nat_eq s (word_units v)) (Some v) (first_word s ws) (Some w) e) [
  | inl h ↦ let same : v ≡ w = cc in (bytes_eq-Decides s (word_units v)).0 h.0 ∙ ap word_units same
  | inr h ↦ word_is s ws w h.1
]

pub word_takes : (ts : List Token) (x : Word × List Token) → word_at ts ≡ Ok x → marks ts ≡ Text (word_units x.0) ∷ marks x.1
word_takes ts x e =
    let a = bind_ok (text_at ts) (λ s. word_or ts s.0 (first_word s.0 all_words)) x e in
    found a.0 a.1 (first_word a.0.0 all_words) refl a.2 where
      found : (t : List ℕ × List Token) → text_at ts ≡ Ok t → (o : Option Word) → first_word t.0 all_words ≡ o → word_or ts t.0 o ≡ Ok x
          → marks ts ≡ Text (word_units x.0) ∷ marks x.1
      found t is None w e = absurd cc
      found t is (Some v) w e =
          let same : ◌≡◌ {A = Word × List Token} (v, tail ts) x = cc in
          let text = text_takes ts t is in
          heads ts t.0 (marks t.1) text ∙ ap (λ s. Text s ∷ marks (tail ts)) (word_is t.0 all_words v w)
          ∙ ap (λ (y : Word × List Token). Text (word_units y.0) ∷ marks y.1) same where
            heads : (ts : List Token) (s : List ℕ) (ms : List Mark) → marks ts ≡ Text s ∷ ms → marks ts ≡ Text s ∷ marks (tail ts)
            heads [] s ms e = absurd cc
            heads (t ∷ ts) s ms e = let same : t.what ≡ Text s = cc in ap (λ m. m ∷ marks ts) same

-- ---- texts of leaves

maybe_takes : (kind : SourceKind) (passes : List ℕ → Bool) (ts : List Token) (o : Option (List ℕ)) (x : Option (List ℕ) × List Token) → first_text ts ≡ o
    → maybe_or kind passes ts o ≡ Ok x → marks ts ≡ text_marks x.0 (marks x.1)
maybe_takes kind passes ts None x comes e = let made : Option (List ℕ) × List Token = (None, ts) in let same = ok_is made x e in
    subst (λ (y : Option (List ℕ) × List Token). marks ts ≡ text_marks y.0 (marks y.1)) same refl
maybe_takes kind passes ts (Some s) x comes e =
    let g = guard_ok (passes s) (stop kind ts) (Ok (Some s, tail ts)) x e in
    let made : Option (List ℕ) × List Token = (Some s, tail ts) in
    subst (λ (y : Option (List ℕ) × List Token). marks ts ≡ text_marks y.0 (marks y.1)) (ok_is made x g.1) (text_first ts s comes)

maybe_passes : (tests : Tests) (kind : SourceKind) (passes : List ℕ → Bool) (ts : List Token) (o : Option (List ℕ)) (x : Option (List ℕ) × List Token)
    → maybe_or kind passes ts o ≡ Ok x → TextPassed tests x.0 passes
maybe_passes tests kind passes ts None x e = let made : Option (List ℕ) × List Token = (None, ts) in
    subst (λ (y : Option (List ℕ) × List Token). TextPassed tests y.0 passes) (ok_is made x e) tt
maybe_passes tests kind passes ts (Some s) x e =
    let g = guard_ok (passes s) (stop kind ts) (Ok (Some s, tail ts)) x e in
    let made : Option (List ℕ) × List Token = (Some s, tail ts) in
    subst (λ (y : Option (List ℕ) × List Token). TextPassed tests y.0 passes) (ok_is made x g.1) g.0

module _ (tests : Tests) (depth : ℕ) (inner : Inner) (law : Law tests depth inner.reads) (fits : inner.room ≡ true → 1 ≤ depth) where
  -- after the brace: the spelling of what is inside, and what follows
  record Inside (ts : List Token) (x : Body × List Token) (before : List Mark → List Mark) : Type 0 where
    pub spelled : before (marks ts) ≡ body_marks x.0 (marks x.1)
    pub form : IsForm x.0
    pub passed : Passed tests x.0
    pub high : body_height x.0 ≤ suc depth

  abbrev after_type : Word → List Mark → List Mark
  after_type w ms = Colon ∷ Text (word_units w) ∷ LeftBrace ∷ ms

  leaf_takes : (l : Leaf) (w : Word) (ts mid : List Token) (x : Body × List Token) → leaf_word l ≡ word_units w → marks ts ≡ leaf_inner l (marks mid)
      → ((ms : List Mark) → leaf_inner l ms ≡ leaf_inner l ms) → LeafPassed tests l
      → (punctuation_at right mid >>= λ after. Ok (leaf l, after)) ≡ Ok x → ((xs ys : List Mark) → xs ≡ ys → leaf_inner l xs ≡ leaf_inner l ys)
      → Inside ts x (after_type w)
  leaf_takes l w ts mid x word spelled same passed e along =
      let a = bind_ok (punctuation_at right mid) (λ after. Ok (leaf l, after)) x e in
      let made : Body × List Token = (leaf l, a.0) in
      subst (λ (y : Body × List Token). Inside ts y (after_type w)) (ok_is made x a.2) (record {
        spelled =
            ap (λ ms. Colon ∷ Text (word_units w) ∷ LeftBrace ∷ ms) (spelled ∙ along (marks mid) (RightBrace ∷ marks a.0) (mark_takes right mid a.0 a.1))
            ∙ ap (λ s. Colon ∷ Text s ∷ LeftBrace ∷ leaf_inner l (RightBrace ∷ marks a.0)) (sym word);
        form = tt;
        passed = passed;
        high = omega arith;
      })

  typed_takes : (w : Word) (ts : List Token) (x : Body × List Token) → typed_at tests inner w ts ≡ Ok x → Inside ts x (after_type w)
  typed_takes string_type ts x e =
      let a = bind_ok (maybe_at BadHex anything ts) (λ t. punctuation_at right t.1 >>= λ after. Ok (leaf (string t.0), after)) x e in
      leaf_takes (string a.0.0) string_type ts a.0.1 x refl (maybe_takes BadHex anything ts (first_text ts) a.0 refl a.1) (λ ms. refl) tt a.2
      (λ xs ys p. ap (text_marks a.0.0) p)
  typed_takes alias_type ts x e =
      let a = bind_ok (maybe_at BadHex anything ts) (λ t. punctuation_at right t.1 >>= λ after. Ok (leaf (alias t.0), after)) x e in
      leaf_takes (alias a.0.0) alias_type ts a.0.1 x refl (maybe_takes BadHex anything ts (first_text ts) a.0 refl a.1) (λ ms. refl) tt a.2
      (λ xs ys p. ap (text_marks a.0.0) p)
  typed_takes (binary_type long) ts x e =
      let a = bind_ok (maybe_at BadHex tests.is_hex ts) (λ t. punctuation_at right t.1 >>= λ after. Ok (leaf (binary long t.0), after)) x e in
      leaf_takes (binary long a.0.0) (binary_type long) ts a.0.1 x refl (maybe_takes BadHex tests.is_hex ts (first_text ts) a.0 refl a.1) (λ ms. refl)
      (maybe_passes tests BadHex tests.is_hex ts (first_text ts) a.0 a.1) a.2 (λ xs ys p. ap (text_marks a.0.0) p)
  typed_takes (int_type long) ts x e =
      let a = bind_ok (checked_at BadInt tests.is_int ts) (λ t. punctuation_at right t.1 >>= λ after. Ok (leaf (int long t.0), after)) x e in
      let b = bind_ok (text_at ts) (λ s. cond (tests.is_int s.0) (Ok s) (Err (stop BadInt ts))) a.0 a.1 in
      let g = guard_ok (tests.is_int b.0.0) (stop BadInt ts) (Ok b.0) a.0 b.2 in
      let same : b.0 ≡ a.0 = ok_is b.0 a.0 g.1 in
      leaf_takes (int long a.0.0) (int_type long) ts a.0.1 x refl
      (subst (λ (y : List ℕ × List Token). marks ts ≡ Text y.0 ∷ marks y.1) same (text_takes ts b.0 b.1)) (λ ms. refl)
      (subst (λ (y : List ℕ × List Token). tests.is_int y.0 ≡ true) same g.0) a.2 (λ xs ys p. ap (λ ms. Text a.0.0 ∷ ms) p)
  typed_takes ints_type ts x e =
      let a = bind_ok (numbers tests.is_element (suc (length ts)) ts) (λ t. punctuation_at right t.1 >>= λ after. Ok (leaf (ints t.0), after)) x e in
      let t = numbers_take tests (suc (length ts)) ts a.0 a.1 in
      leaf_takes (ints a.0.0) ints_type ts a.0.1 x refl t.spelled (λ ms. refl) t.passed a.2 (λ xs ys p. ap (numbers_marks a.0.0) p)
  typed_takes table_type ts x e =
      let a = bind_ok (table_at tests inner ts) (λ es. Ok (table es.0, es.1)) x e in
      let t = entries_take tests depth inner.reads law (suc (length ts)) [] ts a.0 a.1 in
      let made : Body × List Token = (table a.0.0, a.0.1) in
      subst (λ (y : Body × List Token). Inside ts y (after_type table_type)) (ok_is made x a.2) (record {
        spelled = ap (λ ms. Colon ∷ Text table_word ∷ LeftBrace ∷ ms) t.spelled;
        form = t.form;
        passed = t.passed;
        high = omega (arith, t.high);
      })
  typed_takes array_type ts x e =
      let a = bind_ok (array_at inner ts) (λ xs. Ok (array xs.0, xs.1)) x e in
      let t = elements_take tests depth inner.room inner.reads law fits (suc (length ts)) ts a.0 a.1 in
      let made : Body × List Token = (array a.0.0, a.0.1) in
      subst (λ (y : Body × List Token). Inside ts y (after_type array_type)) (ok_is made x a.2) (record {
        spelled = ap (λ ms. Colon ∷ Text array_word ∷ LeftBrace ∷ ms) t.spelled;
        form = t.form;
        passed = t.passed;
        high = omega (arith, t.high);
      })

  abbrev after_brace : List Mark → List Mark
  after_brace ms = LeftBrace ∷ ms

  untyped_takes : (g : Guess) (ts : List Token) (x : Body × List Token) → guess ts ≡ g → untyped_at tests inner g ts ≡ Ok x → Inside ts x after_brace
  untyped_takes as_text ts x is e =
      let a = bind_ok (text_at ts) (λ t. punctuation_at right t.1 >>= λ after. Ok (plain t.0, after)) x e in
      let b = bind_ok (punctuation_at right a.0.1) (λ after. Ok (plain a.0.0, after)) x a.2 in
      let made : Body × List Token = (plain a.0.0, b.0) in
      subst (λ (y : Body × List Token). Inside ts y after_brace) (ok_is made x b.2) (record {
        spelled = ap (λ ms. LeftBrace ∷ ms) (text_takes ts a.0 a.1 ∙ ap (λ ms. Text a.0.0 ∷ ms) (mark_takes right a.0.1 b.0 b.1));
        form = tt;
        passed = tt;
        high = omega arith;
      })
  untyped_takes as_table ts x is e =
      let a = bind_ok (table_at tests inner ts) (λ es. Ok (group es.0, es.1)) x e in
      let t = entries_take tests depth inner.reads law (suc (length ts)) [] ts a.0 a.1 in
      let first = guess_table tests ts is in
      let made : Body × List Token = (group a.0.0, a.0.1) in
      subst (λ (y : Body × List Token). Inside ts y after_brace) (ok_is made x a.2) (record {
        spelled = ap (λ ms. LeftBrace ∷ ms) t.spelled;
        form = (first_is tests a.0.0 ts first.0 (marks a.0.1) first.1 t.spelled, t.form);
        passed = t.passed;
        high = omega (arith, t.high);
      })
  untyped_takes as_array ts x is e =
      let a = bind_ok (array_at inner ts) (λ xs. Ok (listed xs.0, xs.1)) x e in
      let t = elements_take tests depth inner.room inner.reads law fits (suc (length ts)) ts a.0 a.1 in
      let made : Body × List Token = (listed a.0.0, a.0.1) in
      subst (λ (y : Body × List Token). Inside ts y after_brace) (ok_is made x a.2) (record {
        spelled = ap (λ ms. LeftBrace ∷ ms) t.spelled;
        form = (begin_array tests a.0.0 ts (marks a.0.1) is t.spelled, t.form);
        passed = t.passed;
        high = omega (arith, t.high);
      })
  untyped_takes (none_at rest) ts x is e = absurd cc

  pub body_at_takes : (ts : List Token) (x : Body × List Token) → body_at tests inner ts ≡ Ok x → Took tests (suc depth) ts x
  body_at_takes ts x e =
      elim (chosen (begins colon ts) (word_at (tail ts) >>= λ w. punctuation_at left w.1 >>= λ after. typed_at tests inner w.0 after)
      (punctuation_at left ts >>= λ after. untyped_at tests inner (guess after) after) (Ok x) e) [
        | inl h ↦
            let a = bind_ok (word_at (tail ts)) (λ w. punctuation_at left w.1 >>= λ after. typed_at tests inner w.0 after) x h.1 in
            let b = bind_ok (punctuation_at left a.0.1) (λ after. typed_at tests inner a.0.0 after) x a.2 in
            let t = typed_takes a.0.0 b.0 x b.2 in
            record {
              spelled =
                  mark_there colon ts h.0 ∙ ap (λ ms. Colon ∷ ms)
                  (word_takes (tail ts) a.0 a.1 ∙ ap (λ ms. Text (word_units a.0.0) ∷ ms) (mark_takes left a.0.1 b.0 b.1)) ∙ t.spelled;
              form = t.form;
              passed = t.passed;
              high = t.high;
            }
        | inr h ↦
            let a = bind_ok (punctuation_at left ts) (λ after. untyped_at tests inner (guess after) after) x h.1 in
            let t = untyped_takes (guess a.0) a.0 x refl a.2 in
            record { spelled = mark_takes left ts a.0 a.1 ∙ t.spelled; form = t.form; passed = t.passed; high = t.high }
      ]

-- Reading returns a body that the tokens spell, and that is no higher than the number.
pub body_takes : (tests : Tests) (depth : ℕ) → Law tests depth (body tests depth)
unfolding body
body_takes tests zero ts x e = elim (chosen (begins colon ts || begins left ts) (Err (stop TooDeep ts)) (Err (stop Unexpected ts)) (Ok x) e) [
  | inl h ↦ absurd (cc)
  | inr h ↦ absurd (cc)
]
body_takes tests (suc depth) ts x e =
    body_at_takes tests depth (record { room = nat_lt 0 depth; reads = body tests depth }) (λ ts x e. body_takes tests depth ts x e)
    (λ room. ltb-true 0 depth room) ts x e
