-- Proves that the tokens that reading leaves, or stops at, end the tokens that it was given.
use Rattle.std.proofs.Common.{◌≡◌, ℕ, zero, suc, Bool, true, false, cond, ◌||◌, nat_lt, length, List, [], ◌∷◌, ◌++◌, Option, Some, None, Result, Ok, Err, refl}
use Rattle.std.proofs.Common.{sym, ap, ◌∙◌, append_assoc}
use Rattle.rb_lexer.specs.declared.fault.SourceKind.{SourceKind}
use Rattle.rb_lexer.specs.declared.fault.SourceKind.TheVariants.{Unexpected, BadKey, DuplicateKey, BadInt, BadHex, TooDeep}
use Rattle.rb_lexer.specs.declared.token.Token.{Token}
use Rattle.rb_grammar.specs.Form.{Head, untyped, no_fallback_table, string, alias, binary, int, ints, Body, plain, group, listed, leaf, table, array, Entries}
use Rattle.rb_grammar.specs.Form.{no_entries, entry, Elements, no_elements, one_text, one_body}
use Rattle.rb_grammar.specs.Reading.{Stop, stop, Read, ◌>>=◌, Punctuation, left, right, colon, comma, begins, tail, punctuation_at, text_or, text_at}
use Rattle.rb_grammar.specs.Reading.{first_text, has_comma, after_comma, Tests, Word, string_type, alias_type, binary_type, int_type, ints_type, table_type}
use Rattle.rb_grammar.specs.Reading.{array_type, first_word, all_words, word_or, word_at, is_no_fallback_text, head_word_at, checked_at, maybe_or, maybe_at}
use Rattle.rb_grammar.specs.Reading.{numbers_step, numbers, anything, is_among, entry_at, entries_step, entries, elements_step, elements, Inner, table_at}
use Rattle.rb_grammar.specs.Reading.{array_at, closed, typed_at, Guess, as_text, as_table, as_array, none_at, guess_or, guess, untyped_at, body_at, body, ended}
use Rattle.rb_grammar.specs.Reading.{table_word_or, type_at, bundle}

abbrev pub Suffix : List Token → List Token → Type 0
Suffix rest all = (front : List Token) × (all ≡ front ++ rest)

abbrev pub Ends : {A : Type 0} → (A → List Token) → List Token → Result A Stop → Type 0
Ends rest all (Ok x) = Suffix (rest x) all
Ends rest all (Err s) = Suffix s.rest all

bind_ends : {A B : Type 0} (rest : A → List Token) (later : B → List Token) (all : List Token) (r : Result A Stop) (f : A → Result B Stop) → Ends rest all r
    → ((x : A) → Suffix (rest x) all → Ends later all (f x)) → Ends later all (r >>= f)
bind_ends rest later all (Ok x) f e g = g x e
bind_ends rest later all (Err s) f e g = e

tail_ends : (ts all : List Token) → Suffix ts all → Suffix (tail ts) all
tail_ends [] all e = e
tail_ends (t ∷ ts) all e = (e.0 ++ t ∷ [], e.1 ∙ sym (append_assoc e.0 (t ∷ []) ts))

cond_ends : {A : Type 0} (rest : A → List Token) (all : List Token) (b : Bool) (x y : Result A Stop) → Ends rest all x → Ends rest all y
    → Ends rest all (cond b x y)
cond_ends rest all true x y p q = p
cond_ends rest all false x y p q = q

comma_ends : (ts all : List Token) → Suffix ts all → Suffix (after_comma ts) all
comma_ends ts all e = at_comma (has_comma ts) where
  at_comma : (b : Bool) → Suffix (cond b (tail ts) ts) all
  at_comma true = tail_ends ts all e
  at_comma false = e

abbrev itself : List Token → List Token
itself ts = ts

mark_ends : (s : Punctuation) (ts all : List Token) → Suffix ts all → Ends itself all (punctuation_at s ts)
mark_ends s ts all e = cond_ends itself all (begins s ts) (Ok (tail ts)) (Err (stop Unexpected ts)) (tail_ends ts all e) e

abbrev unread : {A : Type 0} → A × List Token → List Token
unread x = x.1

text_ends : (ts all : List Token) → Suffix ts all → Ends (unread {A = List ℕ}) all (text_at ts)
text_ends ts all e = at_text (first_text ts) where
  at_text : (o : Option (List ℕ)) → Ends (unread {A = List ℕ}) all (text_or ts o)
  at_text None = e
  at_text (Some s) = tail_ends ts all e

word_or_ends : (ts : List Token) (s : List ℕ) (o : Option Word) (all : List Token) → Suffix ts all → Ends (unread {A = Word}) all (word_or ts s o)
word_or_ends ts s None all e = e
word_or_ends ts s (Some w) all e = tail_ends ts all e

word_ends : (ts all : List Token) → Suffix ts all → Ends (unread {A = Word}) all (word_at ts)
word_ends ts all e =
    bind_ends (unread {A = List ℕ}) (unread {A = Word}) all (text_at ts) (λ s. word_or ts s.0 (first_word s.0 all_words)) (text_ends ts all e)
    (λ s p. word_or_ends ts s.0 (first_word s.0 all_words) all e)

-- ---- leaves

checked_ends : (kind : SourceKind) (passes : List ℕ → Bool) (ts all : List Token) → Suffix ts all → Ends (unread {A = List ℕ}) all (checked_at kind passes ts)
checked_ends kind passes ts all e =
    bind_ends (unread {A = List ℕ}) (unread {A = List ℕ}) all (text_at ts) (λ s. cond (passes s.0) (Ok s) (Err (stop kind ts))) (text_ends ts all e)
    (λ s p. cond_ends (unread {A = List ℕ}) all (passes s.0) (Ok s) (Err (stop kind ts)) p e)

maybe_ends : (kind : SourceKind) (passes : List ℕ → Bool) (ts all : List Token) → Suffix ts all
    → Ends (unread {A = Option (List ℕ)}) all (maybe_at kind passes ts)
maybe_ends kind passes ts all e = at_text (first_text ts) where
  at_text : (o : Option (List ℕ)) → Ends (unread {A = Option (List ℕ)}) all (maybe_or kind passes ts o)
  at_text None = e
  at_text (Some s) = cond_ends (unread {A = Option (List ℕ)}) all (passes s) (Ok (Some s, tail ts)) (Err (stop kind ts)) (tail_ends ts all e) e

abbrev Texts : Type 0
Texts = List (List ℕ × Bool)

numbers_step_ends : (passes : List ℕ → Bool) (all : List Token) (more : List Token → Read Texts)
    → ((ts : List Token) → Suffix ts all → Ends (unread {A = Texts}) all (more ts)) → (ts : List Token) (o : Option (List ℕ)) → Suffix ts all
    → Ends (unread {A = Texts}) all (numbers_step passes more ts o)
numbers_step_ends passes all more later ts None e = e
numbers_step_ends passes all more later ts (Some s) e =
    cond_ends (unread {A = Texts}) all (passes s) (more (after_comma (tail ts)) >>= λ ns. Ok ((s, has_comma (tail ts)) ∷ ns.0, ns.1)) (Err (stop BadInt ts))
    (bind_ends (unread {A = Texts}) (unread {A = Texts}) all (more (after_comma (tail ts))) (λ ns. Ok ((s, has_comma (tail ts)) ∷ ns.0, ns.1))
    (later (after_comma (tail ts)) (comma_ends (tail ts) all (tail_ends ts all e))) (λ ns p. p)) e

numbers_end : (passes : List ℕ → Bool) (all : List Token) (n : ℕ) (ts : List Token) → Suffix ts all → Ends (unread {A = Texts}) all (numbers passes n ts)
unfolding numbers
numbers_end passes all zero ts e = e
numbers_end passes all (suc n) ts e = numbers_step_ends passes all (numbers passes n) (λ ts e. numbers_end passes all n ts e) ts (first_text ts) e

closed_ends : {A : Type 0} (make : A → Body) (read : Read A) (all : List Token) → Ends (unread {A = A}) all read
    → Ends (unread {A = Body}) all (closed make read)
closed_ends {A} make read all e =
    bind_ends (unread {A = A}) (unread {A = Body}) all read (λ x. punctuation_at right x.1 >>= λ after. Ok (make x.0, after)) e
    (λ x p. bind_ends itself (unread {A = Body}) all (punctuation_at right x.1) (λ after. Ok (make x.0, after)) (mark_ends right x.1 all p) (λ after q. q))

-- ---- entries and elements

abbrev pub AllEnd : List Token → (List Token → Read Body) → Type 0
AllEnd all reads = (ts : List Token) → Suffix ts all → Ends (unread {A = Body}) all (reads ts)

module _ (tests : Tests) (all : List Token) (reads : List Token → Read Body) (h : AllEnd all reads) where
  entry_ends : (earlier : List (List ℕ)) (k : List ℕ) (ts : List Token) → Suffix ts all → Ends (unread {A = Body}) all (entry_at tests reads earlier k ts)
  entry_ends earlier k ts e =
      cond_ends (unread {A = Body}) all (tests.is_key k) (cond (is_among earlier k) (Err (stop DuplicateKey ts)) (reads (tail ts))) (Err (stop BadKey ts))
      (cond_ends (unread {A = Body}) all (is_among earlier k) (Err (stop DuplicateKey ts)) (reads (tail ts)) e (h (tail ts) (tail_ends ts all e))) e

  entries_step_ends : (more : List (List ℕ) → List Token → Read Entries)
      → ((earlier : List (List ℕ)) (ts : List Token) → Suffix ts all → Ends (unread {A = Entries}) all (more earlier ts))
      → (earlier : List (List ℕ)) (ts : List Token) (o : Option (List ℕ)) → Suffix ts all
      → Ends (unread {A = Entries}) all (entries_step tests reads more earlier ts o)
  entries_step_ends more later earlier ts None e =
      bind_ends itself (unread {A = Entries}) all (punctuation_at right ts) (λ after. Ok (no_entries, after)) (mark_ends right ts all e) (λ x s. s)
  entries_step_ends more later earlier ts (Some k) e =
      bind_ends (unread {A = Body}) (unread {A = Entries}) all (entry_at tests reads earlier k ts)
      (λ b. more (k ∷ earlier) (after_comma b.1) >>= λ es. Ok (entry k b.0 (has_comma b.1) es.0, es.1)) (entry_ends earlier k ts e)
      (λ b s. bind_ends (unread {A = Entries}) (unread {A = Entries}) all (more (k ∷ earlier) (after_comma b.1))
      (λ es. Ok (entry k b.0 (has_comma b.1) es.0, es.1)) (later (k ∷ earlier) (after_comma b.1) (comma_ends b.1 all s)) (λ es q. q))

  entries_end : (n : ℕ) (earlier : List (List ℕ)) (ts : List Token) → Suffix ts all → Ends (unread {A = Entries}) all (entries tests reads n earlier ts)
  unfolding entries
  entries_end zero earlier ts e = e
  entries_end (suc n) earlier ts e = entries_step_ends (entries tests reads n) (λ earlier ts e. entries_end n earlier ts e) earlier ts (first_text ts) e

  elements_step_ends : (room : Bool) (more : List Token → Read Elements) → ((ts : List Token) → Suffix ts all → Ends (unread {A = Elements}) all (more ts))
      → (ts : List Token) (o : Option (List ℕ)) → Suffix ts all → Ends (unread {A = Elements}) all (elements_step room reads more ts o)
  elements_step_ends room more later ts None e =
      cond_ends (unread {A = Elements}) all (begins colon ts || begins left ts)
      (reads ts >>= λ b. more (after_comma b.1) >>= λ xs. Ok (one_body b.0 (has_comma b.1) xs.0, xs.1))
      (punctuation_at right ts >>= λ after. Ok (no_elements, after))
      (bind_ends (unread {A = Body}) (unread {A = Elements}) all (reads ts) (λ b. more (after_comma b.1) >>= λ xs. Ok (one_body b.0 (has_comma b.1) xs.0, xs.1))
      (h ts e)
      (λ b s. bind_ends (unread {A = Elements}) (unread {A = Elements}) all (more (after_comma b.1)) (λ xs. Ok (one_body b.0 (has_comma b.1) xs.0, xs.1))
      (later (after_comma b.1) (comma_ends b.1 all s)) (λ xs q. q)))
      (bind_ends itself (unread {A = Elements}) all (punctuation_at right ts) (λ after. Ok (no_elements, after)) (mark_ends right ts all e) (λ x s. s))
  elements_step_ends room more later ts (Some r) e =
      cond_ends (unread {A = Elements}) all room (more (after_comma (tail ts)) >>= λ xs. Ok (one_text r (has_comma (tail ts)) xs.0, xs.1))
      (Err (stop TooDeep ts))
      (bind_ends (unread {A = Elements}) (unread {A = Elements}) all (more (after_comma (tail ts))) (λ xs. Ok (one_text r (has_comma (tail ts)) xs.0, xs.1))
      (later (after_comma (tail ts)) (comma_ends (tail ts) all (tail_ends ts all e))) (λ xs q. q)) e

  elements_end : (room : Bool) (n : ℕ) (ts : List Token) → Suffix ts all → Ends (unread {A = Elements}) all (elements room reads n ts)
  unfolding elements
  elements_end room zero ts e = e
  elements_end room (suc n) ts e = elements_step_ends room (elements room reads n) (λ ts e. elements_end room n ts e) ts (first_text ts) e

-- ---- bodies

guess_ends : (ts rest all : List Token) → guess ts ≡ none_at rest → Suffix ts all → Suffix rest all
guess_ends ts rest all e s = by (guess ts) e (at_text (first_text ts)) where
  GuessEnds : Guess → Type 0
  GuessEnds g = (rest : List Token) → g ≡ none_at rest → Suffix rest all

  by : (g : Guess) → g ≡ none_at rest → GuessEnds g → Suffix rest all
  by g e f = f rest e

  here : (xs : List Token) → Suffix xs all → GuessEnds (none_at xs)
  here xs p = λ rest e. let same : xs ≡ rest = cc in (p.0, p.1 ∙ ap (λ r. p.0 ++ r) same)

  first : (b : Bool) → GuessEnds (cond b as_array (none_at ts))
  first true = λ rest e. absurd cc
  first false = here ts s

  second : (a b c : Bool) → GuessEnds (cond a as_array (cond b as_text (cond c as_table (none_at (tail ts)))))
  second true b c = λ rest e. absurd cc
  second false true c = λ rest e. absurd cc
  second false false true = λ rest e. absurd cc
  second false false false = here (tail ts) (tail_ends ts all s)

  at_text : (o : Option (List ℕ)) → GuessEnds (guess_or ts o)
  at_text None = first (begins left ts || begins colon ts || begins right ts)
  at_text (Some r) = second (begins comma (tail ts)) (begins right (tail ts)) (begins left (tail ts) || begins colon (tail ts))

module _ (tests : Tests) (all : List Token) (inner : Inner) (h : AllEnd all inner.reads) where
  typed_ends : (w : Word) (ts : List Token) → Suffix ts all → Ends (unread {A = Body}) all (typed_at tests inner w ts)
  typed_ends string_type ts e = closed_ends (λ t. leaf (string t)) (maybe_at BadHex anything ts) all (maybe_ends BadHex anything ts all e)
  typed_ends alias_type ts e = closed_ends (λ t. leaf (alias t)) (maybe_at BadHex anything ts) all (maybe_ends BadHex anything ts all e)
  typed_ends (binary_type long) ts e = closed_ends (λ t. leaf (binary long t)) (maybe_at BadHex tests.is_hex ts) all (maybe_ends BadHex tests.is_hex ts all e)
  typed_ends (int_type long) ts e = closed_ends (λ s. leaf (int long s)) (checked_at BadInt tests.is_int ts) all (checked_ends BadInt tests.is_int ts all e)
  typed_ends ints_type ts e =
      closed_ends (λ ns. leaf (ints ns)) (numbers tests.is_element (suc (length ts)) ts) all (numbers_end tests.is_element all (suc (length ts)) ts e)
  typed_ends table_type ts e =
      bind_ends (unread {A = Entries}) (unread {A = Body}) all (table_at tests inner ts) (λ es. Ok (table es.0, es.1))
      (entries_end tests all inner.reads h (suc (length ts)) [] ts e) (λ es p. p)
  typed_ends array_type ts e =
      bind_ends (unread {A = Elements}) (unread {A = Body}) all (array_at inner ts) (λ xs. Ok (array xs.0, xs.1))
      (elements_end tests all inner.reads h inner.room (suc (length ts)) ts e) (λ xs p. p)

  untyped_ends : (g : Guess) (ts : List Token) → guess ts ≡ g → Suffix ts all → Ends (unread {A = Body}) all (untyped_at tests inner g ts)
  untyped_ends as_text ts is e = closed_ends plain (text_at ts) all (text_ends ts all e)
  untyped_ends as_table ts is e =
      bind_ends (unread {A = Entries}) (unread {A = Body}) all (table_at tests inner ts) (λ es. Ok (group es.0, es.1))
      (entries_end tests all inner.reads h (suc (length ts)) [] ts e) (λ es p. p)
  untyped_ends as_array ts is e =
      bind_ends (unread {A = Elements}) (unread {A = Body}) all (array_at inner ts) (λ xs. Ok (listed xs.0, xs.1))
      (elements_end tests all inner.reads h inner.room (suc (length ts)) ts e) (λ xs p. p)
  untyped_ends (none_at rest) ts is e = guess_ends ts rest all is e

  body_at_ends : AllEnd all (body_at tests inner)
  body_at_ends ts e =
      cond_ends (unread {A = Body}) all (begins colon ts) (word_at (tail ts) >>= λ w. punctuation_at left w.1 >>= λ after. typed_at tests inner w.0 after)
      (punctuation_at left ts >>= λ after. untyped_at tests inner (guess after) after)
      (bind_ends (unread {A = Word}) (unread {A = Body}) all (word_at (tail ts)) (λ w. punctuation_at left w.1 >>= λ after. typed_at tests inner w.0 after)
      (word_ends (tail ts) all (tail_ends ts all e))
      (λ w p. bind_ends itself (unread {A = Body}) all (punctuation_at left w.1) (λ after. typed_at tests inner w.0 after) (mark_ends left w.1 all p)
      (λ after q. typed_ends w.0 after q)))
      (bind_ends itself (unread {A = Body}) all (punctuation_at left ts) (λ after. untyped_at tests inner (guess after) after) (mark_ends left ts all e)
      (λ after q. untyped_ends (guess after) after refl q))

body_ends : (tests : Tests) (depth : ℕ) (all : List Token) → AllEnd all (body tests depth)
unfolding body
body_ends tests zero all ts e = cond_ends (unread {A = Body}) all (begins colon ts || begins left ts) (Err (stop TooDeep ts)) (Err (stop Unexpected ts)) e e
body_ends tests (suc depth) all ts e =
    body_at_ends tests all (record { room = nat_lt 0 depth; reads = body tests depth }) (λ ts e. body_ends tests depth all ts e) ts e

-- ---- the bundle

abbrev Whole : Type 0
Whole = List ℕ × Head × Entries

none_left : Whole → List Token
none_left x = []

head_ends : (ts all : List Token) → Suffix ts all → Ends (unread {A = Head}) all (head_word_at ts)
head_ends ts all e =
    cond_ends (unread {A = Head}) all (is_no_fallback_text (first_text ts)) (Ok (no_fallback_table, tail ts)) (word_at ts >>= λ w. table_word_or ts w.0 w.1)
    (tail_ends ts all e)
    (bind_ends (unread {A = Word}) (unread {A = Head}) all (word_at ts) (λ w. table_word_or ts w.0 w.1) (word_ends ts all e) (λ w p. at_word w.0 w.1 p)) where
      at_word : (w : Word) (rest : List Token) → Suffix rest all → Ends (unread {A = Head}) all (table_word_or ts w rest)
      at_word table_type rest p = p
      at_word w rest p = e

type_ends : (ts all : List Token) → Suffix ts all → Ends (unread {A = Head}) all (type_at ts)
type_ends ts all e =
    cond_ends (unread {A = Head}) all (begins colon ts) (head_word_at (tail ts)) (Ok (untyped, ts)) (head_ends (tail ts) all (tail_ends ts all e)) e

ended_ends : (name : List ℕ) (head : Head) (es : Entries) (ts all : List Token) → Suffix ts all → Ends (λ x. none_left x) all (ended name head es ts)
unfolding none_left
ended_ends name head es [] all e = e
ended_ends name head es (t ∷ ts) all e = e

pub bundle_ends : (tests : Tests) (ts : List Token) (s : Stop) → bundle tests ts ≡ Err s → Suffix s.rest ts
unfolding bundle
bundle_ends tests ts s e = at_stop (bundle tests ts) e
    (bind_ends (unread {A = List ℕ}) (λ x. none_left x) ts (text_at ts)
    (λ name. type_at name.1 >>= λ head. punctuation_at left head.1 >>= λ after. entries tests (body tests 63) (suc (length after)) [] after >>= λ es. ended
    name.0 head.0 es.0 es.1) (text_ends ts ts ([], refl)) (λ name p.
    bind_ends (unread {A = Head}) (λ x. none_left x) ts (type_at name.1)
    (λ head. punctuation_at left head.1 >>= λ after. entries tests (body tests 63) (suc (length after)) [] after >>= λ es. ended name.0 head.0 es.0 es.1)
    (type_ends name.1 ts p) (λ head t.
    bind_ends itself (λ x. none_left x) ts (punctuation_at left head.1)
    (λ after. entries tests (body tests 63) (suc (length after)) [] after >>= λ es. ended name.0 head.0 es.0 es.1) (mark_ends left head.1 ts t) (λ after q.
    bind_ends (unread {A = Entries}) (λ x. none_left x) ts (entries tests (body tests 63) (suc (length after)) [] after) (λ es. ended name.0 head.0 es.0 es.1)
    (entries_end tests ts (body tests 63) (body_ends tests 63 ts) (suc (length after)) [] after q) (λ es r.
    ended_ends name.0 head.0 es.0 es.1 ts r))))) where
      at_stop : (r : Result Whole Stop) → r ≡ Err s → Ends (λ x. none_left x) ts r → Suffix s.rest ts
      at_stop (Ok x) is h = absurd cc
      at_stop (Err d) is h = let same : d ≡ s = cc in (h.0, h.1 ∙ ap (λ (x : Stop). h.0 ++ x.rest) same)
