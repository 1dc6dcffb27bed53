-- Proves that the reading function reads each spelled form.
use Rattle.std.proofs.Common.{◌≡◌, ℕ, zero, suc, ◌<◌, ◌≤◌, Bool, true, false, ◌||◌, nat_lt, List, [], ◌∷◌, length, Option, Some, None, Ok, refl, sym, ap, subst}
use Rattle.std.proofs.Common.{◌∙◌, arith, inl, inr}
use Rattle.std.specs.Prelude.{nat_eq}
use Rattle.std.specs.Cmp.Lexicographic.{pointwise}
use Rattle.std.proofs.lemmas.Slice.Eq.{bytes_eq-Decides}
use Rattle.std.proofs.lemmas.Bool.{false≢true, lt-ltb}
use Rattle.rb_lexer.specs.declared.token.Token.{Token}
use Rattle.rb_lexer.specs.declared.token.Mark.{Mark}
use Rattle.rb_lexer.specs.declared.token.Mark.TheVariants.{Text, LeftBrace, RightBrace, Colon, Comma}
use Rattle.rb_lexer.specs.declared.fault.SourceKind.{SourceKind}
use Rattle.rb_lexer.specs.declared.fault.SourceKind.TheVariants.{BadInt, BadHex}
use Rattle.rb_grammar.specs.Form.{marks, Leaf, string, alias, binary, int, ints, Body, plain, group, listed, leaf, table, array, Entries, no_entries, entry}
use Rattle.rb_grammar.specs.Form.{Elements, no_elements, one_text, one_body, table_word, array_word, comma_marks, text_marks, numbers_marks, leaf_inner}
use Rattle.rb_grammar.specs.Form.{body_marks, entries_marks, elements_marks, AreSome, BeginArray, IsForm, AreForms, EachIsForm, IsKeyOf}
use Rattle.rb_grammar.specs.Reading.{Read, Punctuation, left, right, colon, comma, punctuation_mark, is_punctuation, text_of, begins, tail, punctuation_at}
use Rattle.rb_grammar.specs.Reading.{text_at, first_text, has_comma, after_comma, Tests, Word, table_type, array_type, word_units, checked_at, maybe_at}
use Rattle.rb_grammar.specs.Reading.{numbers, anything, is_among, entries, elements, Inner, table_at, array_at, closed, typed_at, Guess, as_text, as_table}
use Rattle.rb_grammar.specs.Reading.{as_array, guess, untyped_at, body_at, body}
use Rattle.rb_grammar.proofs.Unique.{starts_comma, no_comma_entries, no_comma_elements, no_comma_numbers, IsOpening, body_opens, leaf_type, leaf_typed}
use Rattle.rb_grammar.proofs.Unique.{word_found}
use Rattle.rb_grammar.proofs.Sound.{TextPassed, NumbersPassed, LeafPassed, Passed, AllPassed, EachPassed, AreNew}
use Rattle.rb_grammar.proofs.Height.{body_height, entries_height, elements_height}

-- ---- the first mark

pub begins_is : (s : Punctuation) (ts : List Token) (m : Mark) (ms : List Mark) → marks ts ≡ m ∷ ms → begins s ts ≡ is_punctuation s m
begins_is s [] m ms e = absurd cc
begins_is s (t ∷ ts) m ms e = let same : t.what ≡ m = cc in ap (is_punctuation s) same

pub text_is : (ts : List Token) (m : Mark) (ms : List Mark) → marks ts ≡ m ∷ ms → first_text ts ≡ text_of m
text_is [] m ms e = absurd cc
text_is (t ∷ ts) m ms e = let same : t.what ≡ m = cc in ap text_of same

pub tail_is : (ts : List Token) (m : Mark) (ms : List Mark) → marks ts ≡ m ∷ ms → marks (tail ts) ≡ ms
tail_is [] m ms e = absurd cc
tail_is (t ∷ ts) m ms e = cc

mark_same : (s : Punctuation) → is_punctuation s (punctuation_mark s) ≡ true
mark_same left = refl
mark_same right = refl
mark_same colon = refl
mark_same comma = refl

pub mark_again : (s : Punctuation) (ts : List Token) (ms : List Mark) → marks ts ≡ punctuation_mark s ∷ ms → punctuation_at s ts ≡ Ok (tail ts)
mark_again s ts ms e = rw (begins_is s ts (punctuation_mark s) ms e, mark_same s) refl

-- ---- lengths

pub count_of : (ts : List Token) (ms : List Mark) → marks ts ≡ ms → length ts ≡ length ms
count_of ts ms e = counted ts ∙ ap length e where
  counted : (ts : List Token) → length ts ≡ length (marks ts)
  counted [] = refl
  counted (t ∷ ts) = ap suc (counted ts)

pub comma_longer : (c : Bool) (ms : List Mark) → length ms ≤ length (comma_marks c ms)
comma_longer true ms = omega arith
comma_longer false ms = omega arith

text_longer : (t : Option (List ℕ)) (ms : List Mark) → length ms ≤ length (text_marks t ms)
text_longer None ms = omega arith
text_longer (Some s) ms = omega arith

numbers_longer : (ns : List (List ℕ × Bool)) (ms : List Mark) → length ms ≤ length (numbers_marks ns ms)
numbers_longer [] ms = omega arith
numbers_longer (n ∷ ns) ms = omega (arith, comma_longer n.1 (numbers_marks ns ms), numbers_longer ns ms)

leaf_longer : (l : Leaf) (ms : List Mark) → length ms ≤ length (leaf_inner l ms)
leaf_longer (string t) ms = text_longer t ms
leaf_longer (alias t) ms = text_longer t ms
leaf_longer (binary long t) ms = text_longer t ms
leaf_longer (int long s) ms = omega arith
leaf_longer (ints ns) ms = numbers_longer ns ms

mutual
  pub body_longer : (b : Body) (ms : List Mark) → length ms < length (body_marks b ms)
  body_longer (plain s) ms = omega arith
  body_longer (group es) ms = omega (arith, entries_longer es (RightBrace ∷ ms))
  body_longer (listed xs) ms = omega (arith, elements_longer xs (RightBrace ∷ ms))
  body_longer (leaf l) ms = omega (arith, leaf_longer l (RightBrace ∷ ms))
  body_longer (table es) ms = omega (arith, entries_longer es (RightBrace ∷ ms))
  body_longer (array xs) ms = omega (arith, elements_longer xs (RightBrace ∷ ms))

  pub entries_longer : (es : Entries) (ms : List Mark) → length ms ≤ length (entries_marks es ms)
  entries_longer no_entries ms = omega arith
  entries_longer (entry k b c es) ms =
      omega (arith, body_longer b (comma_marks c (entries_marks es ms)), comma_longer c (entries_marks es ms), entries_longer es ms)

  pub elements_longer : (xs : Elements) (ms : List Mark) → length ms ≤ length (elements_marks xs ms)
  elements_longer no_elements ms = omega arith
  elements_longer (one_text s c xs) ms = omega (arith, comma_longer c (elements_marks xs ms), elements_longer xs ms)
  elements_longer (one_body b c xs) ms =
      omega (arith, body_longer b (comma_marks c (elements_marks xs ms)), comma_longer c (elements_marks xs ms), elements_longer xs ms)

-- ---- commas

pub comma_first : (m : Mark) (ms : List Mark) → starts_comma (m ∷ ms) ≡ is_punctuation comma m
comma_first (Text s) ms = refl
comma_first LeftBrace ms = refl
comma_first RightBrace ms = refl
comma_first Colon ms = refl
comma_first Comma ms = refl

pub comma_again : (c : Bool) (ms : List Mark) (ts : List Token) → starts_comma ms ≡ false → marks ts ≡ comma_marks c ms
    → (has_comma ts ≡ c) × (marks (after_comma ts) ≡ ms)
comma_again true ms ts other e = let is = begins_is comma ts Comma ms e in (is, rw is (tail_is ts Comma ms e))
comma_again false [] [] other e = (refl, e)
comma_again false (m ∷ ms) [] other e = absurd cc
comma_again false [] (t ∷ ts) other e = absurd cc
comma_again false (m ∷ ms) (t ∷ ts) other e = let is : has_comma (t ∷ ts) ≡ false = begins_is comma (t ∷ ts) m ms e ∙ sym (comma_first m ms) ∙ other in
    (is, rw is e)

-- ---- the guess

opening_left : (m : Mark) → IsOpening m → (text_of m ≡ None) × ((is_punctuation colon m || is_punctuation left m) ≡ true)
    × ((is_punctuation left m || is_punctuation colon m) ≡ true) × (is_punctuation comma m ≡ false) × (is_punctuation right m ≡ false)
opening_left LeftBrace o = (refl, refl, refl, refl, refl)
opening_left Colon o = (refl, refl, refl, refl, refl)
opening_left t o = absurd o

pub guess_text : (ts : List Token) (s : List ℕ) (ms : List Mark) → marks ts ≡ Text s ∷ RightBrace ∷ ms → guess ts ≡ as_text
guess_text ts s ms e =
    let t = tail_is ts (Text s) (RightBrace ∷ ms) e in
    rw (text_is ts (Text s) (RightBrace ∷ ms) e, begins_is comma (tail ts) RightBrace ms t, begins_is right (tail ts) RightBrace ms t) refl

pub guess_table : (ts : List Token) (s : List ℕ) (m : Mark) (ms : List Mark) → IsOpening m → marks ts ≡ Text s ∷ m ∷ ms → guess ts ≡ as_table
guess_table ts s m ms o e =
    let t = tail_is ts (Text s) (m ∷ ms) e in
    let p = opening_left m o in
    rw (
      text_is ts (Text s) (m ∷ ms) e,
      begins_is comma (tail ts) m ms t,
      p.3,
      begins_is right (tail ts) m ms t,
      p.4,
      begins_is left (tail ts) m ms t,
      begins_is colon (tail ts) m ms t,
      p.2,
    ) refl

guess_opens : (ts : List Token) (m : Mark) (ms : List Mark) → IsOpening m → marks ts ≡ m ∷ ms → guess ts ≡ as_array
guess_opens ts m ms o e = by_mark m o e where
  by_mark : (m : Mark) → IsOpening m → marks ts ≡ m ∷ ms → guess ts ≡ as_array
  by_mark LeftBrace o e = rw (text_is ts LeftBrace ms e, begins_is left ts LeftBrace ms e) refl
  by_mark Colon o e = rw (text_is ts Colon ms e, begins_is left ts Colon ms e, begins_is colon ts Colon ms e) refl
  by_mark t o e = absurd o

pub guess_array : (xs : Elements) (ts : List Token) (ms : List Mark) → BeginArray xs → marks ts ≡ elements_marks xs (RightBrace ∷ ms) → guess ts ≡ as_array
guess_array no_elements ts ms begin e =
    rw (text_is ts RightBrace ms e, begins_is left ts RightBrace ms e, begins_is colon ts RightBrace ms e, begins_is right ts RightBrace ms e) refl
guess_array (one_text s true xs) ts ms begin e =
    let rest : List Mark = elements_marks xs (RightBrace ∷ ms) in
    rw (text_is ts (Text s) (Comma ∷ rest) e, begins_is comma (tail ts) Comma rest (tail_is ts (Text s) (Comma ∷ rest) e)) refl
guess_array (one_text s false xs) ts ms begin e = absurd (false≢true begin)
guess_array (one_body b c xs) ts ms begin e = let h = body_opens b (comma_marks c (elements_marks xs (RightBrace ∷ ms))) in
    guess_opens ts h.first h.others h.opening (e ∙ h.is)

-- ---- what reading again gives

abbrev pub Again : (List Token → Read Body) → List Token → Body → List Mark → Type 0
Again reads ts b rest = (r : List Token) × (reads ts ≡ Ok (b, r)) × (marks r ≡ rest)

module _ (tests : Tests) where
  among_not : (k q : List ℕ) (earlier : List (List ℕ)) → (q ≡ k → ⊥) → is_among earlier q ≡ false → is_among (k ∷ earlier) q ≡ false
  among_not k q earlier other fresh = seen (pointwise nat_eq q k) refl where
    seen : (b : Bool) → pointwise nat_eq q k ≡ b → (b || is_among earlier q) ≡ false
    seen true is = absurd (other ((bytes_eq-Decides q k).0 is))
    seen false is = fresh

  still_new : (earlier : List (List ℕ)) (k : List ℕ) (b : Body) (c : Bool) (es : Entries) → (IsKeyOf es k → ⊥) → AreNew tests earlier (entry k b c es)
      → AreNew tests (k ∷ earlier) es
  still_new earlier k b c es once new = λ q h. among_not k q earlier (λ same. once (subst (IsKeyOf es) same h)) (new q (inr h))

  numbers_again : (ns : List (List ℕ × Bool)) (n : ℕ) (ts : List Token) (rest : List Mark) → NumbersPassed tests ns → length ts < n
      → marks ts ≡ numbers_marks ns (RightBrace ∷ rest)
      → (r : List Token) × (numbers tests.is_element n ts ≡ Ok (ns, r)) × (marks r ≡ RightBrace ∷ rest)
  unfolding numbers
  numbers_again ns zero ts rest passed enough e = absurd (omega arith)
  numbers_again [] (suc n) ts rest passed enough e = (ts, rw (text_is ts RightBrace rest e) refl, e)
  numbers_again (m ∷ ns) (suc n) ts rest passed enough e =
      let later : List Mark = numbers_marks ns (RightBrace ∷ rest) in
      let t = tail_is ts (Text m.0) (comma_marks m.1 later) e in
      let c = comma_again m.1 later (tail ts) (no_comma_numbers ns rest) t in
      let count = count_of ts (Text m.0 ∷ comma_marks m.1 later) e in
      let remain = count_of (after_comma (tail ts)) later c.1 in
      let others = numbers_again ns n (after_comma (tail ts)) rest passed.1 (omega (arith, comma_longer m.1 later)) c.1 in
      (others.0, one m.1 others.0 (text_is ts (Text m.0) (comma_marks m.1 later) e) c.0 others.1, others.2) where
        one : (c : Bool) (r : List Token) → first_text ts ≡ Some m.0 → has_comma (tail ts) ≡ c → numbers tests.is_element n (after_comma (tail ts)) ≡ Ok (ns, r)
            → numbers tests.is_element (suc n) ts ≡ Ok ((m.0, c) ∷ ns, r)
        one c r comes follows others = rw (comes, passed.0, others, follows) refl

  -- ---- leaves

  closed_again : {A : Type 0} (make : A → Body) (read : Read A) (x : A) (mid : List Token) (rest : List Mark) → read ≡ Ok (x, mid)
      → marks mid ≡ RightBrace ∷ rest → closed make read ≡ Ok (make x, tail mid)
  closed_again make read x mid rest h e = rw (h, mark_again right mid rest e) refl

  maybe_again : (kind : SourceKind) (passes : List ℕ → Bool) (t : Option (List ℕ)) (ts : List Token) (rest : List Mark) → TextPassed tests t passes
      → marks ts ≡ text_marks t (RightBrace ∷ rest)
      → (mid : List Token) × (maybe_at kind passes ts ≡ Ok (t, mid)) × (marks mid ≡ RightBrace ∷ rest)
  maybe_again kind passes None ts rest passed e = (ts, rw (text_is ts RightBrace rest e) refl, e)
  maybe_again kind passes (Some s) ts rest passed e =
      (tail ts, rw (text_is ts (Text s) (RightBrace ∷ rest) e, passed) refl, tail_is ts (Text s) (RightBrace ∷ rest) e)

  abbrev LeafAgain : Inner → Leaf → List Token → List Mark → Type 0
  LeafAgain inner l ts rest = (r : List Token) × (typed_at tests inner (leaf_type l) ts ≡ Ok (leaf l, r)) × (marks r ≡ rest)

  any_text : (t : Option (List ℕ)) → TextPassed tests t anything
  any_text None = tt
  any_text (Some s) = refl

  leaf_again : (inner : Inner) (l : Leaf) (ts : List Token) (rest : List Mark) → LeafPassed tests l → marks ts ≡ leaf_inner l (RightBrace ∷ rest)
      → LeafAgain inner l ts rest
  leaf_again inner (string t) ts rest passed e = let m = maybe_again BadHex anything t ts rest (any_text t) e in
      (tail m.0, closed_again (λ t. leaf (string t)) (maybe_at BadHex anything ts) t m.0 rest m.1 m.2, tail_is m.0 RightBrace rest m.2)
  leaf_again inner (alias t) ts rest passed e = let m = maybe_again BadHex anything t ts rest (any_text t) e in
      (tail m.0, closed_again (λ t. leaf (alias t)) (maybe_at BadHex anything ts) t m.0 rest m.1 m.2, tail_is m.0 RightBrace rest m.2)
  leaf_again inner (binary long t) ts rest passed e = let m = maybe_again BadHex tests.is_hex t ts rest passed e in
      (tail m.0, closed_again (λ t. leaf (binary long t)) (maybe_at BadHex tests.is_hex ts) t m.0 rest m.1 m.2, tail_is m.0 RightBrace rest m.2)
  leaf_again inner (int long s) ts rest passed e =
      let t = tail_is ts (Text s) (RightBrace ∷ rest) e in
      let read : checked_at BadInt tests.is_int ts ≡ Ok (s, tail ts) = rw (text_is ts (Text s) (RightBrace ∷ rest) e, passed) refl in
      (tail (tail ts), closed_again (λ s. leaf (int long s)) (checked_at BadInt tests.is_int ts) s (tail ts) rest read t, tail_is (tail ts) RightBrace rest t)
  leaf_again inner (ints ns) ts rest passed e =
      let m = numbers_again ns (suc (length ts)) ts rest passed (omega arith) e in
      (tail m.0, closed_again (λ ns. leaf (ints ns)) (numbers tests.is_element (suc (length ts)) ts) ns m.0 rest m.1 m.2, tail_is m.0 RightBrace rest m.2)

  -- ---- bodies

  typed_again : (inner : Inner) (w : Word) (ts : List Token) (ms : List Mark) → marks ts ≡ Colon ∷ Text (word_units w) ∷ LeftBrace ∷ ms
      → body_at tests inner ts ≡ typed_at tests inner w (tail (tail (tail ts)))
  typed_again inner w ts ms e =
      let e1 = tail_is ts Colon (Text (word_units w) ∷ LeftBrace ∷ ms) e in
      let e2 = tail_is (tail ts) (Text (word_units w)) (LeftBrace ∷ ms) e1 in
      rw (
        begins_is colon ts Colon (Text (word_units w) ∷ LeftBrace ∷ ms) e,
        text_is (tail ts) (Text (word_units w)) (LeftBrace ∷ ms) e1,
        word_found w,
        mark_again left (tail (tail ts)) ms e2,
      ) refl

  typed_rest : (s : List ℕ) (ts : List Token) (ms : List Mark) → marks ts ≡ Colon ∷ Text s ∷ LeftBrace ∷ ms → marks (tail (tail (tail ts))) ≡ ms
  typed_rest s ts ms e = tail_is (tail (tail ts)) LeftBrace ms (tail_is (tail ts) (Text s) (LeftBrace ∷ ms) (tail_is ts Colon (Text s ∷ LeftBrace ∷ ms) e))

  untyped_again : (inner : Inner) (g : Guess) (ts : List Token) (ms : List Mark) → marks ts ≡ LeftBrace ∷ ms → guess (tail ts) ≡ g
      → body_at tests inner ts ≡ untyped_at tests inner g (tail ts)
  untyped_again inner g ts ms e is = rw (begins_is colon ts LeftBrace ms e, mark_again left ts ms e, is) refl

  inner_at : ℕ → Inner
  inner_at depth = record { room = nat_lt 0 depth; reads = body tests depth }

  body_is : (depth : ℕ) (ts : List Token) → body tests (suc depth) ts ≡ body_at tests (inner_at depth) ts
  unfolding body inner_at
  body_is depth ts = refl

  table_again : (depth : ℕ) (ts r : List Token) (es : Entries) → entries tests (body tests depth) (suc (length ts)) [] ts ≡ Ok (es, r)
      → table_at tests (inner_at depth) ts ≡ Ok (es, r)
  unfolding inner_at
  table_again depth ts r es e = e

  array_again : (depth : ℕ) (ts r : List Token) (xs : Elements) → elements (nat_lt 0 depth) (body tests depth) (suc (length ts)) ts ≡ Ok (xs, r)
      → array_at (inner_at depth) ts ≡ Ok (xs, r)
  unfolding inner_at
  array_again depth ts r xs e = e

  entries_guess : (es : Entries) (ts : List Token) (ms : List Mark) → AreSome es → marks ts ≡ entries_marks es ms → guess ts ≡ as_table
  entries_guess no_entries ts ms some e = absurd some
  entries_guess (entry k b c es) ts ms some e =
      let h = body_opens b (comma_marks c (entries_marks es ms)) in
      guess_table ts k h.first h.others h.opening (e ∙ ap (λ xs. Text k ∷ xs) h.is)

  entry_again : (reads : List Token → Read Body) (n : ℕ) (earlier : List (List ℕ)) (ts mid r : List Token) (k : List ℕ) (b : Body) (c : Bool) (es : Entries)
      → first_text ts ≡ Some k → tests.is_key k ≡ true → is_among earlier k ≡ false
      → reads (tail ts) ≡ Ok (b, mid) → has_comma mid ≡ c → entries tests reads n (k ∷ earlier) (after_comma mid) ≡ Ok (es, r)
      → entries tests reads (suc n) earlier ts ≡ Ok (entry k b c es, r)
  unfolding entries
  entry_again reads n earlier ts mid r k b c es comes key fresh one follows others = rw (comes, key, fresh, one, others, follows) refl

  no_more : (reads : List Token → Read Body) (n : ℕ) (earlier : List (List ℕ)) (ts : List Token) (rest : List Mark) → marks ts ≡ RightBrace ∷ rest
      → entries tests reads (suc n) earlier ts ≡ Ok (no_entries, tail ts)
  unfolding entries
  no_more reads n earlier ts rest e = rw (text_is ts RightBrace rest e, mark_again right ts rest e) refl

  text_again : (room : Bool) (reads : List Token → Read Body) (n : ℕ) (ts r : List Token) (s : List ℕ) (c : Bool) (xs : Elements) → first_text ts ≡ Some s
      → room ≡ true → has_comma (tail ts) ≡ c → elements room reads n (after_comma (tail ts)) ≡ Ok (xs, r)
      → elements room reads (suc n) ts ≡ Ok (one_text s c xs, r)
  unfolding elements
  text_again room reads n ts r s c xs comes fits follows others = rw (comes, fits, others, follows) refl

  value_again : (room : Bool) (reads : List Token → Read Body) (n : ℕ) (ts mid r : List Token) (b : Body) (c : Bool) (xs : Elements) → first_text ts ≡ None
      → (begins colon ts || begins left ts) ≡ true → reads ts ≡ Ok (b, mid) → has_comma mid ≡ c
      → elements room reads n (after_comma mid) ≡ Ok (xs, r) → elements room reads (suc n) ts ≡ Ok (one_body b c xs, r)
  unfolding elements
  value_again room reads n ts mid r b c xs comes opens one follows others = rw (comes, opens, one, others, follows) refl

  none_left : (room : Bool) (reads : List Token → Read Body) (n : ℕ) (ts : List Token) (rest : List Mark) → marks ts ≡ RightBrace ∷ rest
      → elements room reads (suc n) ts ≡ Ok (no_elements, tail ts)
  unfolding elements
  none_left room reads n ts rest e =
      rw (text_is ts RightBrace rest e, begins_is colon ts RightBrace rest e, begins_is left ts RightBrace rest e, mark_again right ts rest e) refl

  abbrev AllAgain : (List Token → Read Body) → ℕ → List (List ℕ) → List Token → Entries → List Mark → Type 0
  AllAgain reads n earlier ts es rest = (r : List Token) × (entries tests reads n earlier ts ≡ Ok (es, r)) × (marks r ≡ rest)

  abbrev EachAgain : Bool → (List Token → Read Body) → ℕ → List Token → Elements → List Mark → Type 0
  EachAgain room reads n ts xs rest = (r : List Token) × (elements room reads n ts ≡ Ok (xs, r)) × (marks r ≡ rest)

  plain_body : (depth : ℕ) (ts : List Token) (s : List ℕ) (rest : List Mark) → marks ts ≡ body_marks (plain s) rest
      → Again (body tests (suc depth)) ts (plain s) rest
  plain_body depth ts s rest e =
      let e1 = tail_is ts LeftBrace (Text s ∷ RightBrace ∷ rest) e in
      let e2 = tail_is (tail ts) (Text s) (RightBrace ∷ rest) e1 in
      let read : text_at (tail ts) ≡ Ok (s, tail (tail ts)) = rw (text_is (tail ts) (Text s) (RightBrace ∷ rest) e1) refl in (
        tail (tail (tail ts)),
        body_is depth ts ∙ untyped_again (inner_at depth) as_text ts (Text s ∷ RightBrace ∷ rest) e (guess_text (tail ts) s rest e1)
            ∙ closed_again plain (text_at (tail ts)) s (tail (tail ts)) rest read e2,
        tail_is (tail (tail ts)) RightBrace rest e2,
      )

  group_body : (depth : ℕ) (ts : List Token) (es : Entries) (rest : List Mark) → AreSome es → marks ts ≡ body_marks (group es) rest
      → ((after : List Token) → marks after ≡ entries_marks es (RightBrace ∷ rest) → AllAgain (body tests depth) (suc (length after)) [] after es rest)
      → Again (body tests (suc depth)) ts (group es) rest
  group_body depth ts es rest some e inside =
      let e1 = tail_is ts LeftBrace (entries_marks es (RightBrace ∷ rest)) e in
      let found = inside (tail ts) e1 in (
        found.0,
        body_is depth ts ∙ untyped_again (inner_at depth) as_table ts (entries_marks es (RightBrace ∷ rest)) e
            (entries_guess es (tail ts) (RightBrace ∷ rest) some e1) ∙ rw (table_again depth (tail ts) found.0 es found.1) refl,
        found.2,
      )

  listed_body : (depth : ℕ) (ts : List Token) (xs : Elements) (rest : List Mark) → BeginArray xs → marks ts ≡ body_marks (listed xs) rest
      → ((after : List Token) → marks after ≡ elements_marks xs (RightBrace ∷ rest)
      → EachAgain (nat_lt 0 depth) (body tests depth) (suc (length after)) after xs rest) → Again (body tests (suc depth)) ts (listed xs) rest
  listed_body depth ts xs rest begin e inside =
      let e1 = tail_is ts LeftBrace (elements_marks xs (RightBrace ∷ rest)) e in
      let found = inside (tail ts) e1 in (
        found.0,
        body_is depth ts ∙ untyped_again (inner_at depth) as_array ts (elements_marks xs (RightBrace ∷ rest)) e (guess_array xs (tail ts) rest begin e1)
            ∙ rw (array_again depth (tail ts) found.0 xs found.1) refl,
        found.2,
      )

  leaf_body : (depth : ℕ) (ts : List Token) (l : Leaf) (rest : List Mark) → LeafPassed tests l → marks ts ≡ body_marks (leaf l) rest
      → Again (body tests (suc depth)) ts (leaf l) rest
  leaf_body depth ts l rest passed e =
      let ms : List Mark = leaf_inner l (RightBrace ∷ rest) in
      let worded : marks ts ≡ Colon ∷ Text (word_units (leaf_type l)) ∷ LeftBrace ∷ ms = e ∙ ap (λ s. Colon ∷ Text s ∷ LeftBrace ∷ ms) (leaf_typed l) in
      let found = leaf_again (inner_at depth) l (tail (tail (tail ts))) rest passed (typed_rest (word_units (leaf_type l)) ts ms worded) in
      (found.0, body_is depth ts ∙ typed_again (inner_at depth) (leaf_type l) ts ms worded ∙ found.1, found.2)

  table_body : (depth : ℕ) (ts : List Token) (es : Entries) (rest : List Mark) → marks ts ≡ body_marks (table es) rest
      → ((after : List Token) → marks after ≡ entries_marks es (RightBrace ∷ rest) → AllAgain (body tests depth) (suc (length after)) [] after es rest)
      → Again (body tests (suc depth)) ts (table es) rest
  table_body depth ts es rest e inside =
      let after = tail (tail (tail ts)) in
      let found = inside after (typed_rest table_word ts (entries_marks es (RightBrace ∷ rest)) e) in (
        found.0,
        body_is depth ts ∙ typed_again (inner_at depth) table_type ts (entries_marks es (RightBrace ∷ rest)) e
            ∙ rw (table_again depth after found.0 es found.1) refl,
        found.2,
      )

  array_body : (depth : ℕ) (ts : List Token) (xs : Elements) (rest : List Mark) → marks ts ≡ body_marks (array xs) rest
      → ((after : List Token) → marks after ≡ elements_marks xs (RightBrace ∷ rest)
      → EachAgain (nat_lt 0 depth) (body tests depth) (suc (length after)) after xs rest) → Again (body tests (suc depth)) ts (array xs) rest
  array_body depth ts xs rest e inside =
      let after = tail (tail (tail ts)) in
      let found = inside after (typed_rest array_word ts (elements_marks xs (RightBrace ∷ rest)) e) in (
        found.0,
        body_is depth ts ∙ typed_again (inner_at depth) array_type ts (elements_marks xs (RightBrace ∷ rest)) e
            ∙ rw (array_again depth after found.0 xs found.1) refl,
        found.2,
      )

  mutual
    pub body_again : (b : Body) (depth : ℕ) (ts : List Token) (rest : List Mark) → IsForm b → Passed tests b → body_height b ≤ depth
        → marks ts ≡ body_marks b rest → Again (body tests depth) ts b rest
    body_again (plain s) zero ts rest form passed high e = absurd (omega arith)
    body_again (group es) zero ts rest form passed high e = absurd (omega arith)
    body_again (listed xs) zero ts rest form passed high e = absurd (omega arith)
    body_again (leaf l) zero ts rest form passed high e = absurd (omega arith)
    body_again (table es) zero ts rest form passed high e = absurd (omega arith)
    body_again (array xs) zero ts rest form passed high e = absurd (omega arith)
    body_again (plain s) (suc depth) ts rest form passed high e = plain_body depth ts s rest e
    body_again (group es) (suc depth) ts rest form passed high e =
        group_body depth ts es rest form.0 e (λ after there. entries_again es depth (suc (length after)) [] after rest form.1 passed (λ k h. refl) (omega arith)
        (omega arith) there)
    body_again (listed xs) (suc depth) ts rest form passed high e =
        listed_body depth ts xs rest form.0 e (λ after there. elements_again xs depth (suc (length after)) after rest form.1 passed (omega arith) (omega arith)
        there)
    body_again (leaf l) (suc depth) ts rest form passed high e = leaf_body depth ts l rest passed e
    body_again (table es) (suc depth) ts rest form passed high e =
        table_body depth ts es rest e (λ after there. entries_again es depth (suc (length after)) [] after rest form passed (λ k h. refl) (omega arith)
        (omega arith) there)
    body_again (array xs) (suc depth) ts rest form passed high e =
        array_body depth ts xs rest e (λ after there. elements_again xs depth (suc (length after)) after rest form passed (omega arith) (omega arith) there)

    pub entries_again : (es : Entries) (depth n : ℕ) (earlier : List (List ℕ)) (ts : List Token) (rest : List Mark) → AreForms es → AllPassed tests es
        → AreNew tests earlier es → entries_height es ≤ depth → length ts < n
        → marks ts ≡ entries_marks es (RightBrace ∷ rest) → AllAgain (body tests depth) n earlier ts es rest
    entries_again no_entries depth zero earlier ts rest form passed new high enough e = absurd (omega arith)
    entries_again (entry k b c es) depth zero earlier ts rest form passed new high enough e = absurd (omega arith)
    entries_again no_entries depth (suc n) earlier ts rest form passed new high enough e =
        (tail ts, no_more (body tests depth) n earlier ts rest e, tail_is ts RightBrace rest e)
    entries_again (entry k b c es) depth (suc n) earlier ts rest form passed new high enough e =
        let later : List Mark = entries_marks es (RightBrace ∷ rest) in
        let there : marks (tail ts) ≡ body_marks b (comma_marks c later) = tail_is ts (Text k) (body_marks b (comma_marks c later)) e in
        let one = body_again b depth (tail ts) (comma_marks c later) form.0 passed.2 (omega arith) there in
        let follows = comma_again c later one.0 (no_comma_entries es rest) one.2 in
        let count = count_of ts (Text k ∷ body_marks b (comma_marks c later)) e in
        let remain = count_of (after_comma one.0) later follows.1 in
        let others =
        entries_again es depth n (k ∷ earlier) (after_comma one.0) rest form.1 passed.3 (still_new earlier k b c es passed.1 new) (omega arith)
        (omega (arith, body_longer b (comma_marks c later), comma_longer c later)) follows.1 in (
          others.0,
          entry_again (body tests depth) n earlier ts one.0 others.0 k b c es (text_is ts (Text k) (body_marks b (comma_marks c later)) e) passed.0
              (new k (inl refl)) one.1 follows.0 others.1,
          others.2,
        )

    pub elements_again : (xs : Elements) (depth n : ℕ) (ts : List Token) (rest : List Mark) → EachIsForm xs → EachPassed tests xs → elements_height xs ≤ depth
        → length ts < n
        → marks ts ≡ elements_marks xs (RightBrace ∷ rest) → EachAgain (nat_lt 0 depth) (body tests depth) n ts xs rest
    elements_again no_elements depth zero ts rest form passed high enough e = absurd (omega arith)
    elements_again (one_text s c xs) depth zero ts rest form passed high enough e = absurd (omega arith)
    elements_again (one_body b c xs) depth zero ts rest form passed high enough e = absurd (omega arith)
    elements_again no_elements depth (suc n) ts rest form passed high enough e =
        (tail ts, none_left (nat_lt 0 depth) (body tests depth) n ts rest e, tail_is ts RightBrace rest e)
    elements_again (one_text s c xs) depth (suc n) ts rest form passed high enough e =
        let later : List Mark = elements_marks xs (RightBrace ∷ rest) in
        let follows = comma_again c later (tail ts) (no_comma_elements xs rest) (tail_is ts (Text s) (comma_marks c later) e) in
        let count = count_of ts (Text s ∷ comma_marks c later) e in
        let remain = count_of (after_comma (tail ts)) later follows.1 in
        let others = elements_again xs depth n (after_comma (tail ts)) rest form passed (omega arith) (omega (arith, comma_longer c later)) follows.1 in (
          others.0,
          text_again (nat_lt 0 depth) (body tests depth) n ts others.0 s c xs (text_is ts (Text s) (comma_marks c later) e)
              (lt-ltb 0 depth (omega arith)) follows.0 others.1,
          others.2,
        )
    elements_again (one_body b c xs) depth (suc n) ts rest form passed high enough e =
        let later : List Mark = elements_marks xs (RightBrace ∷ rest) in
        let opens = body_opens b (comma_marks c later) in
        let first : marks ts ≡ opens.first ∷ opens.others = e ∙ opens.is in
        let p = opening_left opens.first opens.opening in
        let one = body_again b depth ts (comma_marks c later) form.0 passed.0 (omega arith) e in
        let follows = comma_again c later one.0 (no_comma_elements xs rest) one.2 in
        let count = count_of ts (body_marks b (comma_marks c later)) e in
        let remain = count_of (after_comma one.0) later follows.1 in
        let others =
        elements_again xs depth n (after_comma one.0) rest form.1 passed.1 (omega arith)
        (omega (arith, body_longer b (comma_marks c later), comma_longer c later)) follows.1 in (
          others.0,
          value_again (nat_lt 0 depth) (body tests depth) n ts one.0 others.0 b c xs (text_is ts opens.first opens.others first ∙ p.0)
              (rw (begins_is colon ts opens.first opens.others first, begins_is left ts opens.first opens.others first) p.1) one.1 follows.0 others.1,
          others.2,
        )
