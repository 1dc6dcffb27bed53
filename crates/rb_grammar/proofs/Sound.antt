-- Proves that the reading function returns only forms that the tokens spell.
use Rattle.std.proofs.Common.{◌≡◌, ℕ, zero, suc, ◌≤◌, Bool, true, false, cond, ◌||◌, List, [], ◌∷◌, Option, Some, None, Result, Ok, Err, refl, sym, ap, subst}
use Rattle.std.proofs.Common.{◌∙◌, arith, ◌⊎◌, inl, inr}
use Rattle.std.specs.Prelude.{nat_eq}
use Rattle.std.specs.Cmp.Lexicographic.{pointwise}
use Rattle.std.proofs.lemmas.Slice.Eq.{bytes_eq-Decides}
use Rattle.std.proofs.lemmas.Bool.{false≢true}
use Rattle.rb_lexer.specs.declared.token.Token.{Token}
use Rattle.rb_lexer.specs.declared.token.Mark.{Mark}
use Rattle.rb_lexer.specs.declared.token.Mark.TheVariants.{Text, RightBrace}
use Rattle.rb_lexer.specs.declared.fault.SourceKind.TheVariants.{BadKey, DuplicateKey, BadInt, TooDeep}
use Rattle.rb_grammar.specs.Form.{marks, Leaf, string, alias, binary, int, ints, Body, plain, group, listed, leaf, table, array, Entries, no_entries, entry}
use Rattle.rb_grammar.specs.Form.{Elements, no_elements, one_text, one_body, comma_marks, numbers_marks, body_marks, entries_marks, elements_marks, AreSome}
use Rattle.rb_grammar.specs.Form.{BeginArray, IsForm, AreForms, EachIsForm, IsKeyOf}
use Rattle.rb_grammar.specs.Reading.{Stop, stop, Read, ◌>>=◌, left, right, colon, comma, text_of, begins, tail, punctuation_at, first_text, has_comma}
use Rattle.rb_grammar.specs.Reading.{after_comma, Tests, numbers_step, numbers, is_among, entry_at, entries_step, entries, elements_step, elements, as_text}
use Rattle.rb_grammar.specs.Reading.{as_table, as_array, none_at, guess_second, guess_or, guess}
use Rattle.rb_grammar.proofs.Marks.{text_first, mark_there, mark_takes, comma_takes}
use Rattle.rb_grammar.proofs.Unique.{starts_comma, no_comma_elements}
use Rattle.rb_grammar.proofs.Height.{body_height, entries_height, elements_height}

pub bind_ok : {A B : Type 0} (r : Result A Stop) (f : A → Result B Stop) (y : B) → (r >>= f) ≡ Ok y → (x : A) × (r ≡ Ok x) × (f x ≡ Ok y)
bind_ok (Ok x) f y e = (x, refl, e)
bind_ok (Err d) f y e = absurd cc

abbrev pub done : {A : Type 0} → A → Result A Stop
done x = Ok x

pub ok_is : {A : Type 0} (x y : A) → done x ≡ done y → x ≡ y
ok_is x y e = cc

pub guard_ok : {A : Type 0} (b : Bool) (d : Stop) (r : Result A Stop) (y : A) → cond b r (Err d) ≡ Ok y → (b ≡ true) × (r ≡ Ok y)
guard_ok true d r y e = (refl, e)
guard_ok false d r y e = absurd cc

pub guard_not : {A : Type 0} (b : Bool) (d : Stop) (r : Result A Stop) (y : A) → cond b (Err d) r ≡ Ok y → (b ≡ false) × (r ≡ Ok y)
guard_not true d r y e = absurd cc
guard_not false d r y e = (refl, e)

pub chosen : {A : Type 0} (b : Bool) (x y z : A) → cond b x y ≡ z → ((b ≡ true) × (x ≡ z)) ⊎ ((b ≡ false) × (y ≡ z))
chosen true x y z e = inl (refl, e)
chosen false x y z e = inr (refl, e)

-- ---- what the tests have passed

module _ (tests : Tests) where
  abbrev pub TextPassed : Option (List ℕ) → (List ℕ → Bool) → Type 0
  TextPassed None passes = Unit {0}
  TextPassed (Some s) passes = passes s ≡ true

  abbrev pub NumbersPassed : List (List ℕ × Bool) → Type 0
  NumbersPassed [] = Unit {0}
  NumbersPassed (n ∷ ns) = (tests.is_element n.0 ≡ true) × NumbersPassed ns

  abbrev pub LeafPassed : Leaf → Type 0
  LeafPassed (string t) = Unit {0}
  LeafPassed (alias t) = Unit {0}
  LeafPassed (binary long t) = TextPassed t tests.is_hex
  LeafPassed (int long s) = tests.is_int s ≡ true
  LeafPassed (ints ns) = NumbersPassed ns

  -- keys, and none twice in one table; numbers and bytes
  abbrev mutual
    pub Passed : Body → Type 0
    Passed (plain s) = Unit {0}
    Passed (group es) = AllPassed es
    Passed (listed xs) = EachPassed xs
    Passed (leaf l) = LeafPassed l
    Passed (table es) = AllPassed es
    Passed (array xs) = EachPassed xs

    pub AllPassed : Entries → Type 0
    AllPassed no_entries = Unit {0}
    AllPassed (entry k b c es) = (tests.is_key k ≡ true) × (IsKeyOf es k → ⊥) × Passed b × AllPassed es

    pub EachPassed : Elements → Type 0
    EachPassed no_elements = Unit {0}
    EachPassed (one_text s c xs) = EachPassed xs
    EachPassed (one_body b c xs) = Passed b × EachPassed xs

  pub record Took (depth : ℕ) (ts : List Token) (x : Body × List Token) : Type 0 where
    pub spelled : marks ts ≡ body_marks x.0 (marks x.1)
    pub form : IsForm x.0
    pub passed : Passed x.0
    pub high : body_height x.0 ≤ depth

  abbrev pub AreNew : List (List ℕ) → Entries → Type 0
  AreNew earlier es = (k : List ℕ) → IsKeyOf es k → is_among earlier k ≡ false

  pub record TookAll (depth : ℕ) (earlier : List (List ℕ)) (ts : List Token) (x : Entries × List Token) : Type 0 where
    pub spelled : marks ts ≡ entries_marks x.0 (RightBrace ∷ marks x.1)
    pub form : AreForms x.0
    pub passed : AllPassed x.0
    pub new : AreNew earlier x.0
    pub high : entries_height x.0 ≤ depth

  pub record TookEach (depth : ℕ) (ts : List Token) (x : Elements × List Token) : Type 0 where
    pub spelled : marks ts ≡ elements_marks x.0 (RightBrace ∷ marks x.1)
    pub form : EachIsForm x.0
    pub passed : EachPassed x.0
    pub high : elements_height x.0 ≤ depth

  abbrev pub Law : ℕ → (List Token → Read Body) → Type 0
  Law depth reads = (ts : List Token) (x : Body × List Token) → reads ts ≡ Ok x → Took depth ts x

  -- ---- entries

  among_parts : (k q : List ℕ) (earlier : List (List ℕ)) → is_among (k ∷ earlier) q ≡ false → (q ≡ k → ⊥) × (is_among earlier q ≡ false)
  among_parts k q earlier e = seen (pointwise nat_eq q k) refl e where
    seen : (b : Bool) → pointwise nat_eq q k ≡ b → (b || is_among earlier q) ≡ false → (q ≡ k → ⊥) × (is_among earlier q ≡ false)
    seen true is e = absurd cc
    seen false is e = (λ same. false≢true (sym is ∙ (bytes_eq-Decides q k).1 same), e)

  pub entry_takes : (reads : List Token → Read Body) (earlier : List (List ℕ)) (k : List ℕ) (ts : List Token) (x : Body × List Token)
      → entry_at tests reads earlier k ts ≡ Ok x → (tests.is_key k ≡ true) × (is_among earlier k ≡ false) × (reads (tail ts) ≡ Ok x)
  entry_takes reads earlier k ts x e =
      let p = guard_ok (tests.is_key k) (stop BadKey ts) (cond (is_among earlier k) (Err (stop DuplicateKey ts)) (reads (tail ts))) x e in
      let q = guard_not (is_among earlier k) (stop DuplicateKey ts) (reads (tail ts)) x p.1 in
      (p.0, q.0, q.1)

  one_more : (depth : ℕ) (earlier : List (List ℕ)) (ts mid : List Token) (k : List ℕ) (b : Body) (x : Entries × List Token) → first_text ts ≡ Some k
      → tests.is_key k ≡ true → is_among earlier k ≡ false
      → Took depth (tail ts) (b, mid) → TookAll depth (k ∷ earlier) (after_comma mid) x → TookAll depth earlier ts (entry k b (has_comma mid) x.0, x.1)
  one_more depth earlier ts mid k b x comes good fresh one rest = record {
    spelled =
        text_first ts k comes ∙ ap (λ ms. Text k ∷ ms) (one.spelled ∙ ap (body_marks b) (comma_takes mid ∙ ap (comma_marks (has_comma mid)) rest.spelled));
    form = (one.form, rest.form);
    passed = (good, λ h. (among_parts k k earlier (rest.new k h)).0 refl, one.passed, rest.passed);
    new = λ q h. is_new q h;
    high = omega (arith, one.high, rest.high);
  } where
    is_new : (q : List ℕ) → (q ≡ k) ⊎ IsKeyOf x.0 q → is_among earlier q ≡ false
    is_new q (inl same) = rw same fresh
    is_new q (inr later) = (among_parts k q earlier (rest.new q later)).1

  step_takes : (depth : ℕ) (reads : List Token → Read Body) (law : Law depth reads) (more : List (List ℕ) → List Token → Read Entries)
      (later : (earlier : List (List ℕ)) (ts : List Token) (x : Entries × List Token) → more earlier ts ≡ Ok x → TookAll depth earlier ts x)
      (earlier : List (List ℕ)) (ts : List Token) (o : Option (List ℕ)) (x : Entries × List Token) → first_text ts ≡ o
      → entries_step tests reads more earlier ts o ≡ Ok x → TookAll depth earlier ts x
  step_takes depth reads law more later earlier ts None x comes e =
      let a = bind_ok (punctuation_at right ts) (λ after. Ok (no_entries, after)) x e in
      let made : Entries × List Token = (no_entries, a.0) in
      subst (TookAll depth earlier ts) (ok_is made x a.2) (record
      { spelled = mark_takes right ts a.0 a.1; form = tt; passed = tt; new = λ k h. absurd h; high = omega arith })
  step_takes depth reads law more later earlier ts (Some k) x comes e =
      let a =
      bind_ok (entry_at tests reads earlier k ts) (λ b. more (k ∷ earlier) (after_comma b.1) >>= λ es. Ok (entry k b.0 (has_comma b.1) es.0, es.1)) x e in
      let g = entry_takes reads earlier k ts a.0 a.1 in
      let b = bind_ok (more (k ∷ earlier) (after_comma a.0.1)) (λ es. Ok (entry k a.0.0 (has_comma a.0.1) es.0, es.1)) x a.2 in
      let made : Entries × List Token = (entry k a.0.0 (has_comma a.0.1) b.0.0, b.0.1) in
      subst (TookAll depth earlier ts) (ok_is made x b.2) (one_more depth earlier ts a.0.1 k a.0.0 b.0 comes g.0 g.1 (law (tail ts) a.0 g.2)
      (later (k ∷ earlier) (after_comma a.0.1) b.0 b.1))

  pub entries_take : (depth : ℕ) (reads : List Token → Read Body) (law : Law depth reads) (n : ℕ) (earlier : List (List ℕ)) (ts : List Token)
      (x : Entries × List Token) → entries tests reads n earlier ts ≡ Ok x → TookAll depth earlier ts x
  unfolding entries
  entries_take depth reads law zero earlier ts x e = absurd cc
  entries_take depth reads law (suc n) earlier ts x e =
      step_takes depth reads law (entries tests reads n) (λ earlier ts x e. entries_take depth reads law n earlier ts x e) earlier ts (first_text ts) x refl e

  -- ---- elements

  each_takes : (depth : ℕ) (room : Bool) (reads : List Token → Read Body) (law : Law depth reads) (fits : room ≡ true → 1 ≤ depth)
      (more : List Token → Read Elements)
      (later : (ts : List Token) (x : Elements × List Token) → more ts ≡ Ok x → TookEach depth ts x)
      (ts : List Token) (o : Option (List ℕ)) (x : Elements × List Token) → first_text ts ≡ o → elements_step room reads more ts o ≡ Ok x → TookEach depth ts x
  each_takes depth room reads law fits more later ts None x comes e =
      elim (chosen (begins colon ts || begins left ts) (reads ts >>= λ b. more (after_comma b.1) >>= λ xs. Ok (one_body b.0 (has_comma b.1) xs.0, xs.1))
      (punctuation_at right ts >>= λ after. Ok (no_elements, after)) (Ok x) e) [
        | inl h ↦
            let a = bind_ok (reads ts) (λ b. more (after_comma b.1) >>= λ xs. Ok (one_body b.0 (has_comma b.1) xs.0, xs.1)) x h.1 in
            let b = bind_ok (more (after_comma a.0.1)) (λ xs. Ok (one_body a.0.0 (has_comma a.0.1) xs.0, xs.1)) x a.2 in
            let one = law ts a.0 a.1 in
            let rest = later (after_comma a.0.1) b.0 b.1 in
            let made : Elements × List Token = (one_body a.0.0 (has_comma a.0.1) b.0.0, b.0.1) in
            subst (TookEach depth ts) (ok_is made x b.2) (record {
              spelled = one.spelled ∙ ap (body_marks a.0.0) (comma_takes a.0.1 ∙ ap (comma_marks (has_comma a.0.1)) rest.spelled);
              form = (one.form, rest.form);
              passed = (one.passed, rest.passed);
              high = omega (arith, one.high, rest.high);
            })
        | inr h ↦
            let a = bind_ok (punctuation_at right ts) (λ after. Ok (no_elements, after)) x h.1 in
            let made : Elements × List Token = (no_elements, a.0) in
            subst (TookEach depth ts) (ok_is made x a.2) (record { spelled = mark_takes right ts a.0 a.1; form = tt; passed = tt; high = omega arith })
      ]
  each_takes depth room reads law fits more later ts (Some s) x comes e =
      let g = guard_ok room (stop TooDeep ts) (more (after_comma (tail ts)) >>= λ xs. Ok (one_text s (has_comma (tail ts)) xs.0, xs.1)) x e in
      let b = bind_ok (more (after_comma (tail ts))) (λ xs. Ok (one_text s (has_comma (tail ts)) xs.0, xs.1)) x g.1 in
      let rest = later (after_comma (tail ts)) b.0 b.1 in
      let enough = fits g.0 in
      let made : Elements × List Token = (one_text s (has_comma (tail ts)) b.0.0, b.0.1) in
      subst (TookEach depth ts) (ok_is made x b.2) (record {
        spelled = text_first ts s comes ∙ ap (λ ms. Text s ∷ ms) (comma_takes (tail ts) ∙ ap (comma_marks (has_comma (tail ts))) rest.spelled);
        form = rest.form;
        passed = rest.passed;
        high = omega (arith, rest.high);
      })

  pub elements_take : (depth : ℕ) (room : Bool) (reads : List Token → Read Body) (law : Law depth reads) (fits : room ≡ true → 1 ≤ depth) (n : ℕ)
      (ts : List Token) (x : Elements × List Token) → elements room reads n ts ≡ Ok x → TookEach depth ts x
  unfolding elements
  elements_take depth room reads law fits zero ts x e = absurd cc
  elements_take depth room reads law fits (suc n) ts x e =
      each_takes depth room reads law fits (elements room reads n) (λ ts x e. elements_take depth room reads law fits n ts x e) ts (first_text ts) x refl e

  -- ---- numbers

  pub record TookNumbers (ts : List Token) (x : List (List ℕ × Bool) × List Token) : Type 0 where
    pub spelled : marks ts ≡ numbers_marks x.0 (marks x.1)
    pub passed : NumbersPassed x.0

  number_takes : (more : List Token → Read (List (List ℕ × Bool)))
      (later : (ts : List Token) (x : List (List ℕ × Bool) × List Token) → more ts ≡ Ok x → TookNumbers ts x)
      (ts : List Token) (o : Option (List ℕ)) (x : List (List ℕ × Bool) × List Token) → first_text ts ≡ o → numbers_step tests.is_element more ts o ≡ Ok x
      → TookNumbers ts x
  number_takes more later ts None x comes e =
      let made : List (List ℕ × Bool) × List Token = ([], ts) in
      subst (TookNumbers ts) (ok_is made x e) (record { spelled = refl; passed = tt })
  number_takes more later ts (Some s) x comes e =
      let g = guard_ok (tests.is_element s) (stop BadInt ts) (more (after_comma (tail ts)) >>= λ ns. Ok ((s, has_comma (tail ts)) ∷ ns.0, ns.1)) x e in
      let b = bind_ok (more (after_comma (tail ts))) (λ ns. Ok ((s, has_comma (tail ts)) ∷ ns.0, ns.1)) x g.1 in
      let rest = later (after_comma (tail ts)) b.0 b.1 in
      let made : List (List ℕ × Bool) × List Token = ((s, has_comma (tail ts)) ∷ b.0.0, b.0.1) in
      subst (TookNumbers ts) (ok_is made x b.2) (record {
        spelled = text_first ts s comes ∙ ap (λ ms. Text s ∷ ms) (comma_takes (tail ts) ∙ ap (comma_marks (has_comma (tail ts))) rest.spelled);
        passed = (g.0, rest.passed);
      })

  pub numbers_take : (n : ℕ) (ts : List Token) (x : List (List ℕ × Bool) × List Token) → numbers tests.is_element n ts ≡ Ok x → TookNumbers ts x
  unfolding numbers
  numbers_take zero ts x e = absurd cc
  numbers_take (suc n) ts x e = number_takes (numbers tests.is_element n) (λ ts x e. numbers_take n ts x e) ts (first_text ts) x refl e

  -- ---- the guess

  pub first_is : (es : Entries) (ts : List Token) (s : List ℕ) (rest : List Mark) → first_text ts ≡ Some s → marks ts ≡ entries_marks es (RightBrace ∷ rest)
      → AreSome es
  first_is no_entries ts s rest comes e = let both : Text s ∷ marks (tail ts) ≡ RightBrace ∷ rest = sym (text_first ts s comes) ∙ e in absurd cc
  first_is (entry k b c es) ts s rest comes e = tt

  pub guess_table : (ts : List Token) → guess ts ≡ as_table → (s : List ℕ) × (first_text ts ≡ Some s)
  guess_table ts e = seen (first_text ts) refl e where
    seen : (o : Option (List ℕ)) → first_text ts ≡ o → guess_or ts o ≡ as_table → (s : List ℕ) × (first_text ts ≡ Some s)
    seen None is e = none (begins left ts || begins colon ts || begins right ts) e where
      none : (b : Bool) → cond b as_array (none_at ts) ≡ as_table → (s : List ℕ) × (first_text ts ≡ Some s)
      none true e = absurd cc
      none false e = absurd cc
    seen (Some s) is e = (s, is)

  second_array : (ts : List Token) → guess_second ts ≡ as_array → begins comma ts ≡ true
  second_array ts e = seen (begins comma ts) (begins right ts) (begins left ts || begins colon ts) e where
    seen : (a b c : Bool) → cond a as_array (cond b as_text (cond c as_table (none_at ts))) ≡ as_array → a ≡ true
    seen true b c e = refl
    seen false true c e = absurd cc
    seen false false true e = absurd cc
    seen false false false e = absurd cc

  starts_is : (ts : List Token) → begins comma ts ≡ true → starts_comma (marks ts) ≡ true
  starts_is ts e = ap starts_comma (mark_there comma ts e)

  pub begin_array : (xs : Elements) (ts : List Token) (rest : List Mark) → guess ts ≡ as_array → marks ts ≡ elements_marks xs (RightBrace ∷ rest)
      → BeginArray xs
  begin_array no_elements ts rest is e = tt
  begin_array (one_body b c xs) ts rest is e = tt
  begin_array (one_text s true xs) ts rest is e = refl
  begin_array (one_text s false xs) ts rest is e = seen (first_text ts) refl is where
    seen : (o : Option (List ℕ)) → first_text ts ≡ o → guess_or ts o ≡ as_array → false ≡ true
    seen None none g = no_text ts none e where
      no_text : (ts : List Token) → first_text ts ≡ None → marks ts ≡ Text s ∷ elements_marks xs (RightBrace ∷ rest) → false ≡ true
      no_text [] none e = absurd cc
      no_text (t ∷ ts) none e = let text : t.what ≡ Text s = cc in let bad : None ≡ Some s = sym none ∙ ap text_of text in absurd cc
    seen (Some r) comes g =
        let both : Text r ∷ marks (tail ts) ≡ Text s ∷ elements_marks xs (RightBrace ∷ rest) = sym (text_first ts r comes) ∙ e in
        let later : marks (tail ts) ≡ elements_marks xs (RightBrace ∷ rest) = cc in
        sym (no_comma_elements xs rest) ∙ sym (ap starts_comma later) ∙ starts_is (tail ts) (second_array (tail ts) g)
