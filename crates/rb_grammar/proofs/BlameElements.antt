-- Stops among elements, and among numbers.
use Rattle.std.proofs.Common.{◌≡◌, ℕ, zero, suc, ◌<◌, Bool, true, false, cond, ◌||◌, List, [], ◌∷◌, ◌++◌, length, Option, Some, None, Ok, Err, refl, sym, ap}
use Rattle.std.proofs.Common.{subst, ◌∙◌, arith, ◌⊎◌, inl, inr}
use Rattle.std.proofs.lemmas.List.{append-nil}
use Rattle.std.proofs.lemmas.Bool.{false≢true}
use Rattle.rb_lexer.specs.declared.fault.SourceKind.TheVariants.{Unexpected, BadInt, TooDeep}
use Rattle.rb_lexer.specs.declared.token.Token.{Token}
use Rattle.rb_lexer.specs.declared.token.Mark.{Mark}
use Rattle.rb_lexer.specs.declared.token.Mark.TheVariants.{Text, RightBrace, Colon, Comma}
use Rattle.rb_grammar.specs.Form.{marks, Body, Elements, no_elements, one_text, one_body, comma_marks, numbers_marks, body_marks, elements_marks, IsForm}
use Rattle.rb_grammar.specs.Form.{EachIsForm}
use Rattle.rb_grammar.specs.Reading.{Stop, stop, Read, ◌>>=◌, left, right, colon, comma, begins, tail, punctuation_at, first_text, has_comma, after_comma}
use Rattle.rb_grammar.specs.Reading.{Tests, numbers_step, numbers, elements_step, elements}
use Rattle.rb_grammar.specs.Tests.{AreTests}
use Rattle.rb_grammar.specs.Faults.{element_text, NumbersHave, ElementsHave, IsBad}
use Rattle.rb_grammar.proofs.Blame.{within, first_lacks, begins_bad}
use Rattle.rb_grammar.proofs.Blame.{Tail, same_comma, Blame, bodies, arrays, vectors, Opened, Blames, outside, bind_err}
use Rattle.rb_grammar.proofs.BlameLists.{no_mark, neither_mark, opened_still, not_opened, array_comma, array_mark, text_colon, Ended, body_ended, ended_opens}
use Rattle.rb_grammar.proofs.BlameLists.{no_other_comma, one_less}
use Rattle.rb_grammar.proofs.Complete.{body_longer}
use Rattle.rb_grammar.proofs.Front.{body_front}
use Rattle.rb_grammar.proofs.Guess.{Alike, not_text, not_mark, not_body}
use Rattle.rb_grammar.proofs.Marks.{text_first, mark_there, comma_takes}
use Rattle.rb_grammar.proofs.Sound.{Law, chosen, bind_ok, ok_is}
use Rattle.rb_grammar.proofs.Unique.{body_opens, no_comma_elements, no_comma_numbers, body_one}

-- ---- elements

-- neither an element nor the closing brace
unclosed : (level : ℕ) (ts : List Token) → first_text ts ≡ None → begins colon ts ≡ false → begins left ts ≡ false → begins right ts ≡ false
    → Blame (arrays level) ts (stop Unexpected ts)
unclosed level ts none no_colon no_left no_right =
    first_lacks (arrays level) ts
    (one_text [] false no_elements) (Text []) (RightBrace ∷ []) tt (λ is. absurd (array_mark ts none no_colon no_left no_right is)) refl
    (λ xs after ms good t e. no_such xs after ms t.alike e) (λ ms t is. absurd (array_mark ts none no_colon no_left no_right is)) where
      no_such : (xs : Elements) (after ms : List Mark) → Alike (marks ts) ms → elements_marks xs (RightBrace ∷ after) ≡ ms → ⊥
      no_such no_elements after ms a e = not_mark right ts after ms no_right a e
      no_such (one_text s c xs) after ms a e = not_text ts s (comma_marks c (elements_marks xs (RightBrace ∷ after))) ms none a e
      no_such (one_body b c xs) after ms a e = not_body b ts (comma_marks c (elements_marks xs (RightBrace ∷ after))) ms no_left no_colon a e

-- a text one level too deep
at_text : (level : ℕ) (s : List ℕ) → level ≡ 65 → (xs : Elements) (after ms more : List Mark) → ms ≡ Text s ∷ more → elements_marks xs (RightBrace ∷ after) ≡ ms
    → ElementsHave (IsBad TooDeep) xs level (RightBrace ∷ after) ms
at_text level s deep no_elements after ms more shown e = let both : RightBrace ∷ after ≡ Text s ∷ more = e ∙ shown in absurd cc
at_text level s deep (one_text r c xs) after ms more shown e = inl (sym e, deep)
at_text level s deep (one_body b c xs) after ms more shown e =
    absurd (not_opened (Text s) more (body_marks b (comma_marks c (elements_marks xs (RightBrace ∷ after)))) (λ o. o)
    (opens (comma_marks c (elements_marks xs (RightBrace ∷ after)))) (sym shown ∙ sym e)) where
      opens : (ms : List Mark) → Opened (body_marks b ms)
      opens ms = let o = body_opens b ms in (o.first, o.others, o.opening, o.is)

text_deep : (level : ℕ) (ts : List Token) (s : List ℕ) (c : Bool) → has_comma (tail ts) ≡ c → level ≡ 65 → first_text ts ≡ Some s
    → Blame (arrays level) ts (stop TooDeep ts)
text_deep level ts s true follows deep comes =
    begins_bad (arrays level) TooDeep (Text s) (Comma ∷ []) (Text s, Comma ∷ [], refl) ts tt (marks (tail (tail ts)))
    (text_first ts s comes ∙ ap (λ ms. Text s ∷ ms) (mark_there comma (tail ts) follows))
    (one_text s true no_elements) RightBrace [] tt (λ is. refl) refl
    (λ xs after ms good t e. at_text level s deep xs after ms (Comma ∷ t.shown.0) t.shown.1 e) (λ ms t is. inr (s, t.shown.0, t.shown.1))
text_deep level ts s false none deep comes =
    begins_bad (arrays level) TooDeep (Text s) [] (Text s, [], refl) ts tt (marks (tail ts)) (text_first ts s comes)
    (one_text s false no_elements) RightBrace [] tt (λ is. absurd (false≢true (sym none ∙ array_comma ts s comes is))) refl
    (λ xs after ms good t e. at_text level s deep xs after ms t.shown.0 t.shown.1 e) (λ ms t is. absurd (false≢true (sym none ∙ array_comma ts s comes is)))

-- part of a body was read
in_body : (level : ℕ) (ts : List Token) (s : Stop) → (begins colon ts || begins left ts) ≡ true → Blame (bodies level) ts s → Blame (arrays level) ts s
in_body level ts s opens b =
    within (bodies level) (arrays level) ts s b (one_body b.form false no_elements) (RightBrace ∷ []) (b.good, tt) refl (body_front b.form [] (RightBrace ∷ []))
    inside (λ is. tt) (λ ms t is. inl (opened_still ts b.front (marks s.rest) ms opens b.parts t.alike)) where
      inside : (xs : Elements) (after ms : List Mark) → EachIsForm xs → Tail s.rest b.seen ms → elements_marks xs (RightBrace ∷ after) ≡ b.front ++ ms
          → ElementsHave (IsBad s.kind) xs level (RightBrace ∷ after) ms
      inside no_elements after ms good t e =
          absurd (not_opened RightBrace after (b.front ++ ms) (λ o. o) (opened_still ts b.front (marks s.rest) ms opens b.parts t.alike) e)
      inside (one_text r c xs) after ms good t e =
          absurd (not_opened (Text r) (comma_marks c (elements_marks xs (RightBrace ∷ after))) (b.front ++ ms) (λ o. o)
          (opened_still ts b.front (marks s.rest) ms opens b.parts t.alike) e)
      inside (one_body x c xs) after ms good t e = inl (b.blame x (comma_marks c (elements_marks xs (RightBrace ∷ after))) ms good.0 t e)

body_opened : (x : Body) (ms : List Mark) → Opened (body_marks x ms)
body_opened x ms = let o = body_opens x ms in (o.first, o.others, o.opening, o.is)

-- a whole body was read, and part of the others
after_body : (level : ℕ) (ts mid : List Token) (x : Body) (s : Stop) → IsForm x → marks ts ≡ body_marks x (marks mid) → Blame (arrays level) (after_comma mid) s
    → Blame (arrays level) ts s
after_body level ts mid x s form spelled b =
    outside (arrays level) (arrays level) ts (after_comma mid) s b h.pre h.last h.other
    (spelled ∙ ap (body_marks x) (comma_takes mid) ∙ h.is (marks (after_comma mid)))
    (one_body x c b.form) [] (form, b.good) (h.is (elements_marks b.form (RightBrace ∷ []))) (sym (append-nil (elements_marks b.form (RightBrace ∷ [])))) later
    (λ is. tt) (λ ms t is. inl (ended_opens x c h (b.front ++ ms))) where
      c : Bool
      c = has_comma mid

      h : Ended x c
      h = body_ended x c

      later : (xs : Elements) (after ms : List Mark) → EachIsForm xs → Tail s.rest b.seen ms
          → elements_marks xs (RightBrace ∷ after) ≡ h.pre ++ h.last ∷ (b.front ++ ms) → ElementsHave (IsBad s.kind) xs level (RightBrace ∷ after) ms
      later no_elements after ms good t e =
          absurd (not_opened RightBrace after (h.pre ++ h.last ∷ (b.front ++ ms)) (λ o. o) (ended_opens x c h (b.front ++ ms)) e)
      later (one_text r d xs) after ms good t e =
          absurd (not_opened (Text r) (comma_marks d (elements_marks xs (RightBrace ∷ after))) (h.pre ++ h.last ∷ (b.front ++ ms)) (λ o. o)
          (ended_opens x c h (b.front ++ ms)) e)
      later (one_body y d xs) after ms good t e =
          let rest =
          body_one y x (comma_marks d (elements_marks xs (RightBrace ∷ after))) (comma_marks (has_comma mid) (b.front ++ ms)) good.0 form
          (e ∙ sym (h.is (b.front ++ ms))) in
          let others =
          same_comma (has_comma mid) d (b.front ++ ms) (elements_marks xs (RightBrace ∷ after)) (no_other_comma mid b.front ms s.rest b.parts t.alike)
          (no_comma_elements xs after) rest.1 in
          inr (b.blame xs after ms good.1 t others)

-- how a text ends: with itself, or a comma
record EndedText (s : List ℕ) (c : Bool) : Type 0 where
  pub pre : List Mark
  pub last : Mark
  pub other : last ≡ Colon → ⊥
  pub is : (ms : List Mark) → Text s ∷ comma_marks c ms ≡ pre ++ last ∷ ms

text_ended : (s : List ℕ) (c : Bool) → EndedText s c
text_ended s true = record { pre = Text s ∷ []; last = Comma; other = λ e. cc; is = λ ms. refl }
text_ended s false = record { pre = []; last = Text s; other = text_colon s; is = λ ms. refl }

-- a text was read, and part of the others
after_text : (level : ℕ) (ts : List Token) (r : List ℕ) (s : Stop) → first_text ts ≡ Some r → Blame (arrays level) (after_comma (tail ts)) s
    → Blame (arrays level) ts s
after_text level ts r s comes b =
    outside (arrays level) (arrays level) ts (after_comma (tail ts)) s b h.pre h.last h.other
    (text_first ts r comes ∙ ap (λ ms. Text r ∷ ms) (comma_takes (tail ts)) ∙ h.is (marks (after_comma (tail ts))))
    (one_text r c b.form) [] b.good (h.is (elements_marks b.form (RightBrace ∷ []))) (sym (append-nil (elements_marks b.form (RightBrace ∷ [])))) later
    (λ is. array_comma ts r comes is)
    (λ ms t is. inr (r, b.front ++ ms, sym (h.is (b.front ++ ms)) ∙ ap (λ d. Text r ∷ comma_marks d (b.front ++ ms)) (array_comma ts r comes is))) where
      c : Bool
      c = has_comma (tail ts)

      h : EndedText r c
      h = text_ended r c

      later : (xs : Elements) (after ms : List Mark) → EachIsForm xs → Tail s.rest b.seen ms
          → elements_marks xs (RightBrace ∷ after) ≡ h.pre ++ h.last ∷ (b.front ++ ms) → ElementsHave (IsBad s.kind) xs level (RightBrace ∷ after) ms
      later no_elements after ms good t e = let both : RightBrace ∷ after ≡ Text r ∷ comma_marks (has_comma (tail ts)) (b.front ++ ms) =
          e ∙ sym (h.is (b.front ++ ms)) in absurd cc
      later (one_body y d xs) after ms good t e =
          absurd (not_opened (Text r) (comma_marks (has_comma (tail ts)) (b.front ++ ms))
          (body_marks y (comma_marks d (elements_marks xs (RightBrace ∷ after)))) (λ o. o)
          (body_opened y (comma_marks d (elements_marks xs (RightBrace ∷ after)))) (h.is (b.front ++ ms) ∙ sym e))
      later (one_text q d xs) after ms good t e =
          let both : Text q ∷ comma_marks d (elements_marks xs (RightBrace ∷ after)) ≡ Text r ∷ comma_marks (has_comma (tail ts)) (b.front ++ ms) =
          e ∙ sym (h.is (b.front ++ ms)) in
          let others =
          same_comma (has_comma (tail ts)) d (b.front ++ ms) (elements_marks xs (RightBrace ∷ after))
          (no_other_comma (tail ts) b.front ms s.rest b.parts t.alike) (no_comma_elements xs after) cc in
          inr (b.blame xs after ms good t others)

module _ (tests : Tests) where
  each_blames : (level depth : ℕ) (room : Bool) (reads : List Token → Read Body) (law : Law tests depth reads) (blames : Blames level reads)
      (deep : room ≡ false → level ≡ 65) (n : ℕ)
      (later : (ts : List Token) (s : Stop) → length ts < n → elements room reads n ts ≡ Err s → Blame (arrays level) ts s)
      (ts : List Token) (o : Option (List ℕ)) (s : Stop) → length ts < suc n → first_text ts ≡ o → elements_step room reads (elements room reads n) ts o ≡ Err s
      → Blame (arrays level) ts s
  each_blames level depth room reads law blames deep n later ts None s enough comes e =
      elim (chosen (begins colon ts || begins left ts) (reads ts >>= λ b. elements room reads n (after_comma b.1) >>= λ xs. Ok
      (one_body b.0 (has_comma b.1) xs.0, xs.1)) (punctuation_at right ts >>= λ after. Ok (no_elements, after)) (Err s) e) [
        | inl h ↦ elim (bind_err (reads ts) (λ b. elements room reads n (after_comma b.1) >>= λ xs. Ok (one_body b.0 (has_comma b.1) xs.0, xs.1)) s h.1) [
          | inl g ↦ in_body level ts s h.0 (blames ts s g)
          | inr g ↦
              let took = law ts g.0 g.1 in
              let o = body_opens g.0.0 (marks g.0.1) in
              let longer = body_longer g.0.0 (marks g.0.1) in
              let count : length (body_marks g.0.0 (marks g.0.1)) ≡ suc (length o.others) = ap length o.is in
              elim (bind_err (elements room reads n (after_comma g.0.1)) (λ xs. Ok (one_body g.0.0 (has_comma g.0.1) xs.0, xs.1)) s g.2) [
                | inl q ↦ after_body level ts g.0.1 g.0.0 s took.form took.spelled
                    (later (after_comma g.0.1) s (one_less ts g.0.1 o.first o.others n (took.spelled ∙ o.is) (omega arith) enough) q)
                | inr q ↦ absurd (cc)
              ]
        ]
        | inr h ↦ elim (bind_err (punctuation_at right ts) (λ after. Ok (no_elements, after)) s h.1) [
          | inl g ↦ let q = no_mark right ts s g in let p = neither_mark (begins colon ts) (begins left ts) h.0 in
              subst (Blame (arrays level) ts) q.1 (unclosed level ts comes p.0 p.1 q.0)
          | inr g ↦ absurd (cc)
        ]
      ]
  each_blames level depth room reads law blames deep n later ts (Some r) s enough comes e = by room refl e where
    by : (b : Bool) → room ≡ b → cond b (◌>>=◌ {B = Elements × List Token} (elements room reads n (after_comma (tail ts)))
        (λ xs. Ok (one_text r (has_comma (tail ts)) xs.0, xs.1))) (Err (stop TooDeep ts)) ≡ Err s → Blame (arrays level) ts s
    by true is e = elim (bind_err (elements room reads n (after_comma (tail ts))) (λ xs. Ok (one_text r (has_comma (tail ts)) xs.0, xs.1)) s e) [
      | inl q ↦ after_text level ts r s comes (later (after_comma (tail ts)) s
          (one_less ts (tail ts) (Text r) (marks (tail ts)) n (text_first ts r comes) (omega arith) enough) q)
      | inr q ↦ absurd (cc)
    ]
    by false is e = let same : stop TooDeep ts ≡ s = cc in
        subst (Blame (arrays level) ts) same (text_deep level ts r (has_comma (tail ts)) refl (deep is) comes)

  pub elements_blame : (level depth : ℕ) (room : Bool) (reads : List Token → Read Body) (law : Law tests depth reads) (blames : Blames level reads)
      (deep : room ≡ false → level ≡ 65) (n : ℕ) (ts : List Token) (s : Stop)
      → length ts < n → elements room reads n ts ≡ Err s → Blame (arrays level) ts s
  unfolding elements
  elements_blame level depth room reads law blames deep zero ts s enough e = absurd (omega arith)
  elements_blame level depth room reads law blames deep (suc n) ts s enough e =
      each_blames level depth room reads law blames deep n (λ ts s enough e. elements_blame level depth room reads law blames deep n ts s enough e) ts
      (first_text ts) s enough refl e

-- ---- numbers, and the brace after them

-- neither a number nor the closing brace
no_number : (ts : List Token) → first_text ts ≡ None → begins right ts ≡ false → Blame vectors ts (stop Unexpected ts)
no_number ts none no_right =
    first_lacks vectors ts
    (([], false) ∷ []) (Text []) (RightBrace ∷ []) tt tt refl
    (λ ns after ms good t e. no_such ns after ms t.alike e) (λ ms t. tt) where
      no_such : (ns : List (List ℕ × Bool)) (after ms : List Mark) → Alike (marks ts) ms → numbers_marks ns (RightBrace ∷ after) ≡ ms → ⊥
      no_such [] after ms a e = not_mark right ts after ms no_right a e
      no_such (n ∷ ns) after ms a e = not_text ts n.0 (comma_marks n.1 (numbers_marks ns (RightBrace ∷ after))) ms none a e

bad_number : (ts : List Token) (r : List ℕ) → first_text ts ≡ Some r → IsBad BadInt (element_text r) → Blame vectors ts (stop BadInt ts)
bad_number ts r comes bad =
    begins_bad vectors BadInt (Text r) [] (Text r, [], refl) ts tt (marks (tail ts)) (text_first ts r comes)
    ((r, false) ∷ []) RightBrace [] tt tt refl
    (λ ns after ms good t e. at_number ns after ms t.shown.0 t.shown.1 e) (λ ms t. tt) where
      at_number : (ns : List (List ℕ × Bool)) (after ms more : List Mark) → ms ≡ Text r ∷ more → numbers_marks ns (RightBrace ∷ after) ≡ ms
          → NumbersHave (IsBad BadInt) ns (RightBrace ∷ after) ms
      at_number [] after ms more shown e = let both : RightBrace ∷ after ≡ Text r ∷ more = e ∙ shown in absurd cc
      at_number (n ∷ ns) after ms more shown e =
          let both : Text n.0 ∷ comma_marks n.1 (numbers_marks ns (RightBrace ∷ after)) ≡ Text r ∷ more = e ∙ shown in
          let same : r ≡ n.0 = cc in
          inl (sym e, subst (λ (x : List ℕ). IsBad BadInt (element_text x)) same bad)

after_number : (ts : List Token) (r : List ℕ) (s : Stop) → first_text ts ≡ Some r → Blame vectors (after_comma (tail ts)) s → Blame vectors ts s
after_number ts r s comes b =
    outside vectors vectors ts (after_comma (tail ts)) s b h.pre h.last h.other
    (text_first ts r comes ∙ ap (λ ms. Text r ∷ ms) (comma_takes (tail ts)) ∙ h.is (marks (after_comma (tail ts))))
    ((r, c) ∷ b.form) [] tt (h.is (numbers_marks b.form (RightBrace ∷ []))) (sym (append-nil (numbers_marks b.form (RightBrace ∷ [])))) later tt (λ ms t. tt)
  where
    c : Bool
    c = has_comma (tail ts)

    h : EndedText r c
    h = text_ended r c

    later : (ns : List (List ℕ × Bool)) (after ms : List Mark) → Unit {0} → Tail s.rest b.seen ms
        → numbers_marks ns (RightBrace ∷ after) ≡ h.pre ++ h.last ∷ (b.front ++ ms) → NumbersHave (IsBad s.kind) ns (RightBrace ∷ after) ms
    later [] after ms good t e = let both : RightBrace ∷ after ≡ Text r ∷ comma_marks (has_comma (tail ts)) (b.front ++ ms) =
        e ∙ sym (h.is (b.front ++ ms)) in absurd cc
    later (n ∷ ns) after ms good t e =
        let both : Text n.0 ∷ comma_marks n.1 (numbers_marks ns (RightBrace ∷ after)) ≡ Text r ∷ comma_marks (has_comma (tail ts)) (b.front ++ ms) =
        e ∙ sym (h.is (b.front ++ ms)) in
        let others =
        same_comma (has_comma (tail ts)) n.1 (b.front ++ ms) (numbers_marks ns (RightBrace ∷ after))
        (no_other_comma (tail ts) b.front ms s.rest b.parts t.alike) (no_comma_numbers ns after) cc in
        inr (b.blame ns after ms tt t others)

abbrev Numbers : Type 0
Numbers = List (List ℕ × Bool) × List Token

-- reading stops at a number, or at the brace after them
abbrev pub StopsNumbers : Read (List (List ℕ × Bool)) → Stop → Type 0
StopsNumbers read s = (read ≡ Err s) ⊎ ((x : Numbers) × (read ≡ Ok x) × (punctuation_at right x.1 ≡ Err s))

module _ (tests : Tests) (are : AreTests tests) where
  number_blames : (n : ℕ) (later : (ts : List Token) (s : Stop) → length ts < n → StopsNumbers (numbers tests.is_element n ts) s → Blame vectors ts s)
      (ts : List Token) (o : Option (List ℕ)) (s : Stop)
      → length ts < suc n → first_text ts ≡ o → StopsNumbers (numbers_step tests.is_element (numbers tests.is_element n) ts o) s → Blame vectors ts s
  number_blames n later ts None s enough comes (inl e) = absurd cc
  number_blames n later ts None s enough comes (inr (x, is, e)) =
      let made : Numbers = ([], ts) in
      let same : made ≡ x = ok_is made x is in
      let g = no_mark right ts s (ap (λ (y : Numbers). punctuation_at right y.1) same ∙ e) in
      subst (Blame vectors ts) g.1 (no_number ts comes g.0)
  number_blames n later ts (Some r) s enough comes e = by (tests.is_element r) refl e where
    less : length (after_comma (tail ts)) < n
    less = one_less ts (tail ts) (Text r) (marks (tail ts)) n (text_first ts r comes) (omega arith) enough

    by : (b : Bool) → tests.is_element r ≡ b → StopsNumbers (cond b
        (numbers tests.is_element n (after_comma (tail ts)) >>= λ ns. Ok ((r, has_comma (tail ts)) ∷ ns.0, ns.1)) (Err (stop BadInt ts))) s → Blame vectors ts s
    by true is (inl h) = elim (bind_err (numbers tests.is_element n (after_comma (tail ts))) (λ ns. Ok ((r, has_comma (tail ts)) ∷ ns.0, ns.1)) s h) [
      | inl q ↦ after_number ts r s comes (later (after_comma (tail ts)) s less (inl q))
      | inr q ↦ absurd (cc)
    ]
    by true is (inr (x, h, e)) =
        let g = bind_ok (numbers tests.is_element n (after_comma (tail ts))) (λ ns. Ok ((r, has_comma (tail ts)) ∷ ns.0, ns.1)) x h in
        let made : Numbers = ((r, has_comma (tail ts)) ∷ g.0.0, g.0.1) in
        let same : made ≡ x = ok_is made x g.2 in
        after_number ts r s comes (later (after_comma (tail ts)) s less (inr (g.0, g.1, ap (λ (y : Numbers). punctuation_at right y.1) same ∙ e)))
    by false is (inl h) = let same : stop BadInt ts ≡ s = cc in subst (Blame vectors ts) same (bad_number ts r comes (are.elements.1 r is))
    by false is (inr (x, h, e)) = absurd cc

  pub numbers_blame : (n : ℕ) (ts : List Token) (s : Stop) → length ts < n → StopsNumbers (numbers tests.is_element n ts) s → Blame vectors ts s
  unfolding numbers
  numbers_blame zero ts s enough e = absurd (omega arith)
  numbers_blame (suc n) ts s enough e = number_blames n (λ ts s enough e. numbers_blame n ts s enough e) ts (first_text ts) s enough refl e
