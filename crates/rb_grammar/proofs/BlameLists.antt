-- Stops among entries, elements and numbers.
use Rattle.std.proofs.Common.{◌≡◌, ℕ, zero, suc, ◌<◌, ◌≤◌, Bool, true, false, cond, ◌||◌, List, [], ◌∷◌, ◌++◌, length, Option, Some, None, Ok, Err, refl, sym}
use Rattle.std.proofs.Common.{ap, subst, ◌∙◌, arith, append_assoc, ◌⊎◌, inl, inr}
use Rattle.std.specs.Prelude.{nat_eq}
use Rattle.std.specs.Cmp.Lexicographic.{pointwise}
use Rattle.std.proofs.lemmas.Slice.Eq.{bytes_eq-Decides}
use Rattle.std.proofs.lemmas.List.{append-nil}
use Rattle.std.proofs.lemmas.Bool.{false≢true}
use Rattle.rb_lexer.specs.declared.fault.SourceKind.{SourceKind}
use Rattle.rb_lexer.specs.declared.fault.SourceKind.TheVariants.{Unexpected, BadKey, DuplicateKey}
use Rattle.rb_lexer.specs.declared.token.Token.{Token}
use Rattle.rb_lexer.specs.declared.token.Mark.{Mark}
use Rattle.rb_lexer.specs.declared.token.Mark.TheVariants.{Text, LeftBrace, RightBrace, Colon, Comma}
use Rattle.rb_grammar.specs.Form.{marks, string, Body, plain, group, listed, leaf, table, array, table_word, array_word, leaf_word, leaf_inner, Entries}
use Rattle.rb_grammar.specs.Form.{no_entries, entry, string_word, comma_marks, body_marks, entries_marks, elements_marks, IsForm, AreForms}
use Rattle.rb_grammar.specs.Reading.{Stop, stop, Read, ◌>>=◌, left, right, colon, comma, Punctuation, begins, tail, punctuation_at, text_or, text_at}
use Rattle.rb_grammar.specs.Reading.{first_text, has_comma, after_comma, Tests, is_among, entry_at, entries_step, entries, as_text, as_table, as_array, none_at}
use Rattle.rb_grammar.specs.Reading.{guess_second, guess_or, guess}
use Rattle.rb_grammar.specs.Tests.{AreTests}
use Rattle.rb_grammar.specs.Faults.{key, IsAmong, EntriesHas, IsBad}
use Rattle.rb_grammar.proofs.Blame.{first_lacks, begins_bad}
use Rattle.rb_grammar.proofs.Blame.{Tail, alike_front, starts_alike, same_comma, comma_left, IsSeen, Blame, bodies, tables, Opened, Blames, Says}
use Rattle.rb_grammar.proofs.Blame.{outside, bind_err}
use Rattle.rb_grammar.proofs.Complete.{count_of, comma_longer, body_longer}
use Rattle.rb_grammar.proofs.Front.{leaf_front, body_front, entries_front, elements_front}
use Rattle.rb_grammar.proofs.Guess.{Alike, not_text, not_mark}
use Rattle.rb_grammar.proofs.Marks.{text_first, mark_there, comma_takes}
use Rattle.rb_grammar.proofs.Sound.{Law, entry_takes}
use Rattle.rb_grammar.proofs.Unique.{starts_comma, IsOpening, body_opens, no_comma_entries, body_one}

-- ---- why the small readers stop

pub no_mark : (sign : Punctuation) (ts : List Token) (s : Stop) → punctuation_at sign ts ≡ Err s → (begins sign ts ≡ false) × (stop Unexpected ts ≡ s)
no_mark sign ts s e = seen (begins sign ts) refl e where
  seen : (b : Bool) → begins sign ts ≡ b → cond b (Ok (tail ts)) (Err (stop Unexpected ts)) ≡ Err s → (begins sign ts ≡ false) × (stop Unexpected ts ≡ s)
  seen true is e = absurd cc
  seen false is e = (is, cc)

pub no_text : (ts : List Token) (s : Stop) → text_at ts ≡ Err s → (first_text ts ≡ None) × (stop Unexpected ts ≡ s)
no_text ts s e = seen (first_text ts) refl e where
  seen : (o : Option (List ℕ)) → first_text ts ≡ o → text_or ts o ≡ Err s → (first_text ts ≡ None) × (stop Unexpected ts ≡ s)
  seen None is e = (is, cc)
  seen (Some t) is e = absurd cc

pub either_mark : (a b : Bool) → (a || b) ≡ true → (a ≡ true) ⊎ (b ≡ true)
either_mark true b e = inl refl
either_mark false b e = inr e

pub neither_mark : (a b : Bool) → (a || b) ≡ false → (a ≡ false) × (b ≡ false)
neither_mark true b e = absurd cc
neither_mark false b e = (refl, e)

-- it still does if the tokens continue differently after a stop
pub opened_still : (ts : List Token) (front rest ms : List Mark) → (begins colon ts || begins left ts) ≡ true → marks ts ≡ front ++ rest → Alike rest ms
    → Opened (front ++ ms)
opened_still ts front rest ms opens parts a = elim (either_mark (begins colon ts) (begins left ts) opens) [
  | inl h ↦ let k = first Colon (marks (tail ts)) (mark_there colon ts h) in (Colon, k.0, tt, k.1)
  | inr h ↦ let k = first LeftBrace (marks (tail ts)) (mark_there left ts h) in (LeftBrace, k.0, tt, k.1)
] where
  first : (m : Mark) (others : List Mark) → marks ts ≡ m ∷ others → (r : List Mark) × (front ++ ms ≡ m ∷ r)
  first m others e = alike_front (m ∷ others) front rest ms (sym e ∙ parts) a

pub not_opened : (m : Mark) (xs ms : List Mark) → (IsOpening m → ⊥) → Opened ms → m ∷ xs ≡ ms → ⊥
not_opened m xs ms other (f, r, o, e) h = other (subst IsOpening (heads f m r xs (sym (h ∙ e))) o) where
  heads : (x y : Mark) (xs ys : List Mark) → x ∷ xs ≡ y ∷ ys → x ≡ y
  heads x y xs ys e = cc

-- ---- what the guess says

guess_some : (ts : List Token) (s : List ℕ) → first_text ts ≡ Some s → guess ts ≡ guess_second (tail ts)
guess_some ts s e = ap (guess_or ts) e

guess_none : (ts : List Token) → first_text ts ≡ None → guess ts ≡ guess_or ts None
guess_none ts e = ap (guess_or ts) e

pub table_opens : (ts : List Token) (s : List ℕ) → first_text ts ≡ Some s → guess ts ≡ as_table → (begins colon (tail ts) || begins left (tail ts)) ≡ true
table_opens ts s comes is =
    by (begins comma (tail ts)) (begins right (tail ts)) (begins left (tail ts)) (begins colon (tail ts)) (sym (guess_some ts s comes) ∙ is) where
      by : (a b c d : Bool) → cond a as_array (cond b as_text (cond (c || d) as_table (none_at (tail ts)))) ≡ as_table → (d || c) ≡ true
      by true b c d e = absurd cc
      by false true c d e = absurd cc
      by false false true true e = refl
      by false false true false e = refl
      by false false false true e = refl
      by false false false false e = absurd cc

pub table_text : (ts : List Token) → first_text ts ≡ None → guess ts ≡ as_table → ⊥
table_text ts none is = by (begins left ts || begins colon ts || begins right ts) (sym (guess_none ts none) ∙ is) where
  by : (b : Bool) → cond b as_array (none_at ts) ≡ as_table → ⊥
  by true e = cc
  by false e = cc

pub array_comma : (ts : List Token) (s : List ℕ) → first_text ts ≡ Some s → guess ts ≡ as_array → has_comma (tail ts) ≡ true
array_comma ts s comes is =
    by (begins comma (tail ts)) (begins right (tail ts)) (begins left (tail ts) || begins colon (tail ts)) (sym (guess_some ts s comes) ∙ is) where
      by : (a b c : Bool) → cond a as_array (cond b as_text (cond c as_table (none_at (tail ts)))) ≡ as_array → a ≡ true
      by true b c e = refl
      by false true c e = absurd cc
      by false false true e = absurd cc
      by false false false e = absurd cc

pub array_mark : (ts : List Token) → first_text ts ≡ None → begins colon ts ≡ false → begins left ts ≡ false → begins right ts ≡ false → guess ts ≡ as_array → ⊥
array_mark ts none no_colon no_left no_right is =
    let bad : none_at ts ≡ as_array =
    sym (ap (λ b. cond (b || begins colon ts || begins right ts) as_array (none_at ts)) no_left
    ∙ ap (λ b. cond (false || b || begins right ts) as_array (none_at ts)) no_colon
    ∙ ap (λ b. cond (false || false || b) as_array (none_at ts)) no_right) ∙ sym (guess_none ts none) ∙ is in
    cc

-- ---- entries

-- neither a key nor the closing brace
unclosed : (level : ℕ) (earlier : List (List ℕ)) (ts : List Token) → first_text ts ≡ None → begins right ts ≡ false
    → Blame (tables level earlier) ts (stop Unexpected ts)
unclosed level earlier ts none no_right =
    first_lacks (tables level earlier) ts
    (entry [] (plain []) false no_entries) (Text []) (LeftBrace ∷ Text [] ∷ RightBrace ∷ RightBrace ∷ []) (tt, tt) tt refl
    (λ es after ms good t e. no_such es after ms t.alike e) (λ ms t is. absurd (table_text ts none is)) where
      no_such : (es : Entries) (after ms : List Mark) → Alike (marks ts) ms → entries_marks es (RightBrace ∷ after) ≡ ms → ⊥
      no_such no_entries after ms a e = not_mark right ts after ms no_right a e
      no_such (entry k b c es) after ms a e = not_text ts k (body_marks b (comma_marks c (entries_marks es (RightBrace ∷ after)))) ms none a e

at_key : (kind : SourceKind) (level : ℕ) (earlier : List (List ℕ)) (k : List ℕ) → IsBad kind (key earlier k) → (es : Entries) (after ms more : List Mark)
    → ms ≡ Text k ∷ more → entries_marks es (RightBrace ∷ after) ≡ ms → EntriesHas (IsBad kind) es level earlier (RightBrace ∷ after) ms
at_key kind level earlier k bad no_entries after ms more shown e = let both : RightBrace ∷ after ≡ Text k ∷ more = e ∙ shown in absurd cc
at_key kind level earlier k bad (entry q b c es) after ms more shown e =
    let whole : Text q ∷ body_marks b (comma_marks c (entries_marks es (RightBrace ∷ after))) ≡ Text k ∷ more = e ∙ shown in
    let same : k ≡ q = cc in
    inl (sym e, subst (λ (x : List ℕ). IsBad kind (key earlier x)) same bad)

module _ (kind : SourceKind) (shows : (m : Mark) (ms : List Mark) → IsSeen kind (m ∷ ms)) (says : (front rest : List Mark) → Says kind front rest) (level : ℕ)
    (earlier : List (List ℕ)) (ts : List Token) (k : List ℕ) (comes : first_text ts ≡ Some k) (bad : IsBad kind (key earlier k)) where
  key_alone : (begins colon (tail ts) || begins left (tail ts)) ≡ false → Blame (tables level earlier) ts (stop kind ts)
  key_alone none =
      begins_bad (tables level earlier) kind (Text k) [] (shows (Text k) []) ts (says [] (marks ts)) (marks (tail ts)) (text_first ts k comes)
      (entry k (plain []) false no_entries) LeftBrace (Text [] ∷ RightBrace ∷ RightBrace ∷ []) (tt, tt) tt refl
      (λ es after ms good t e. at_key kind level earlier k bad es after ms t.shown.0 t.shown.1 e)
      (λ ms t is. absurd (false≢true (sym none ∙ table_opens ts k comes is)))

  key_left : begins left (tail ts) ≡ true → Blame (tables level earlier) ts (stop kind ts)
  key_left opens =
      begins_bad (tables level earlier) kind (Text k) (LeftBrace ∷ []) (shows (Text k) (LeftBrace ∷ [])) ts (says [] (marks ts)) (marks (tail (tail ts)))
      (text_first ts k comes ∙ ap (λ ms. Text k ∷ ms) (mark_there left (tail ts) opens))
      (entry k (plain []) false no_entries) (Text []) (RightBrace ∷ RightBrace ∷ []) (tt, tt) tt refl
      (λ es after ms good t e. at_key kind level earlier k bad es after ms (LeftBrace ∷ t.shown.0) t.shown.1 e)
      (λ ms t is. (k, LeftBrace ∷ t.shown.0, (LeftBrace, t.shown.0, tt, refl), t.shown.1))

  key_colon : begins colon (tail ts) ≡ true → Blame (tables level earlier) ts (stop kind ts)
  key_colon opens =
      begins_bad (tables level earlier) kind (Text k) (Colon ∷ []) (shows (Text k) (Colon ∷ [])) ts (says [] (marks ts)) (marks (tail (tail ts)))
      (text_first ts k comes ∙ ap (λ ms. Text k ∷ ms) (mark_there colon (tail ts) opens))
      (entry k (leaf (string None)) false no_entries) (Text string_word) (LeftBrace ∷ RightBrace ∷ RightBrace ∷ []) (tt, tt) tt refl
      (λ es after ms good t e. at_key kind level earlier k bad es after ms (Colon ∷ t.shown.0) t.shown.1 e)
      (λ ms t is. (k, Colon ∷ t.shown.0, (Colon, t.shown.0, tt, refl), t.shown.1))

  key_stop : Blame (tables level earlier) ts (stop kind ts)
  key_stop = by (begins colon (tail ts)) (begins left (tail ts)) refl refl where
    by : (a b : Bool) → begins colon (tail ts) ≡ a → begins left (tail ts) ≡ b → Blame (tables level earlier) ts (stop kind ts)
    by true b p q = key_colon p
    by false true p q = key_left q
    by false false p q = key_alone (rw (p, q) refl)

pub text_colon : (k : List ℕ) → Text k ≡ Colon → ⊥
text_colon k e = cc

-- a key was read, and part of its body
in_body : (level : ℕ) (earlier : List (List ℕ)) (ts : List Token) (k : List ℕ) (s : Stop) → first_text ts ≡ Some k → Blame (bodies level) (tail ts) s
    → Blame (tables level earlier) ts s
in_body level earlier ts k s comes b =
    outside (bodies level) (tables level earlier) ts (tail ts) s b [] (Text k) (text_colon k) (text_first ts k comes) (entry k b.form false no_entries)
    (RightBrace ∷ []) (b.good, tt) refl (body_front b.form [] (RightBrace ∷ [])) inside tt
    (λ ms t is. (k, b.front ++ ms, opened_still (tail ts) b.front (marks s.rest) ms (table_opens ts k comes is) b.parts t.alike, refl)) where
      inside : (es : Entries) (after ms : List Mark) → AreForms es → Tail s.rest b.seen ms → entries_marks es (RightBrace ∷ after) ≡ Text k ∷ (b.front ++ ms)
          → EntriesHas (IsBad s.kind) es level earlier (RightBrace ∷ after) ms
      inside no_entries after ms good t e = absurd cc
      inside (entry q x c es) after ms good t e = inr (inl (b.blame x (comma_marks c (entries_marks es (RightBrace ∷ after))) ms good.0 t cc))

-- a whole body ends with a brace, and a comma or none
pub record Ended (x : Body) (c : Bool) : Type 0 where
  pub pre : List Mark
  pub last : Mark
  pub other : last ≡ Colon → ⊥
  pub is : (ms : List Mark) → body_marks x (comma_marks c ms) ≡ pre ++ last ∷ ms

closes : (x : Body) → (pre : List Mark) × (body_marks x [] ≡ pre ++ RightBrace ∷ [])
closes (plain s) = (LeftBrace ∷ Text s ∷ [], refl)
closes (group es) = (LeftBrace ∷ entries_marks es [], ap (λ ms. LeftBrace ∷ ms) (entries_front es [] (RightBrace ∷ [])))
closes (listed xs) = (LeftBrace ∷ elements_marks xs [], ap (λ ms. LeftBrace ∷ ms) (elements_front xs [] (RightBrace ∷ [])))
closes (leaf l) =
    (Colon ∷ Text (leaf_word l) ∷ LeftBrace ∷ leaf_inner l [], ap (λ ms. Colon ∷ Text (leaf_word l) ∷ LeftBrace ∷ ms) (leaf_front l [] (RightBrace ∷ [])))
closes (table es) =
    (Colon ∷ Text table_word ∷ LeftBrace ∷ entries_marks es [], ap (λ ms. Colon ∷ Text table_word ∷ LeftBrace ∷ ms) (entries_front es [] (RightBrace ∷ [])))
closes (array xs) =
    (Colon ∷ Text array_word ∷ LeftBrace ∷ elements_marks xs [], ap (λ ms. Colon ∷ Text array_word ∷ LeftBrace ∷ ms) (elements_front xs [] (RightBrace ∷ [])))

pub body_ended : (x : Body) (c : Bool) → Ended x c
body_ended x true = record {
  pre = body_marks x [];
  last = Comma;
  other = λ e. cc;
  is = λ ms. body_front x [] (Comma ∷ ms);
}
body_ended x false = let h = closes x in record {
  pre = h.0;
  last = RightBrace;
  other = λ e. cc;
  is = λ ms. body_front x [] ms ∙ ap (λ xs. xs ++ ms) h.1 ∙ append_assoc h.0 (RightBrace ∷ []) ms;
}

-- it begins with a sign that opens a body
pub ended_opens : (x : Body) (c : Bool) (h : Ended x c) (ms : List Mark) → Opened (h.pre ++ h.last ∷ ms)
ended_opens x c h ms = let o = body_opens x (comma_marks c ms) in (o.first, o.others, o.opening, sym (h.is ms) ∙ o.is)

-- the tokens after a whole body and its comma begin with none if there was none
pub no_other_comma : (mid : List Token) (front ms : List Mark) (rest : List Token) → marks (after_comma mid) ≡ front ++ marks rest → Alike (marks rest) ms
    → has_comma mid ≡ false → starts_comma (front ++ ms) ≡ false
no_other_comma mid front ms rest parts a none =
    sym (starts_alike (marks (after_comma mid)) (front ++ ms) (alike_front (marks (after_comma mid)) front (marks rest) ms parts a)) ∙ comma_left mid none

-- a whole entry was read, and part of the others
in_others : (level : ℕ) (earlier : List (List ℕ)) (ts mid : List Token) (k : List ℕ) (x : Body) (s : Stop) → first_text ts ≡ Some k → IsForm x
    → marks (tail ts) ≡ body_marks x (marks mid)
    → Blame (tables level (k ∷ earlier)) (after_comma mid) s → Blame (tables level earlier) ts s
in_others level earlier ts mid k x s comes form spelled b =
    outside (tables level (k ∷ earlier)) (tables level earlier) ts (after_comma mid) s b (Text k ∷ h.pre) h.last h.other
    (text_first ts k comes ∙ ap (λ ms. Text k ∷ ms) (spelled ∙ ap (body_marks x) (comma_takes mid) ∙ h.is (marks (after_comma mid))))
    (entry k x c b.form) [] (form, b.good) (ap (λ ms. Text k ∷ ms) (h.is (entries_marks b.form (RightBrace ∷ []))))
    (sym (append-nil (entries_marks b.form (RightBrace ∷ [])))) later tt
    (λ ms t is. (k, h.pre ++ h.last ∷ (b.front ++ ms), ended_opens x c h (b.front ++ ms), refl))
  where
    c : Bool
    c = has_comma mid

    h : Ended x c
    h = body_ended x c

    later : (es : Entries) (after ms : List Mark) → AreForms es → Tail s.rest b.seen ms
        → entries_marks es (RightBrace ∷ after) ≡ Text k ∷ (h.pre ++ h.last ∷ (b.front ++ ms))
        → EntriesHas (IsBad s.kind) es level earlier (RightBrace ∷ after) ms
    later no_entries after ms good t e = absurd cc
    later (entry q y d es) after ms good t e =
        let same : k ≡ q = cc in
        let there : body_marks y (comma_marks d (entries_marks es (RightBrace ∷ after))) ≡ h.pre ++ h.last ∷ (b.front ++ ms) = cc in
        let rest =
        body_one y x (comma_marks d (entries_marks es (RightBrace ∷ after))) (comma_marks (has_comma mid) (b.front ++ ms)) good.0 form
        (there ∙ sym (h.is (b.front ++ ms))) in
        let others =
        same_comma (has_comma mid) d (b.front ++ ms) (entries_marks es (RightBrace ∷ after)) (no_other_comma mid b.front ms s.rest b.parts t.alike)
        (no_comma_entries es after) rest.1 in
        inr (inr (subst (λ (l : List ℕ). EntriesHas (IsBad s.kind) es level (l ∷ earlier) (RightBrace ∷ after) ms) same
        (b.blame es after ms good.1 t others)))

among_is : (earlier : List (List ℕ)) (k : List ℕ) → is_among earlier k ≡ true → IsAmong earlier k
among_is [] k e = false≢true e
among_is (l ∷ ls) k e = elim (either_mark (pointwise nat_eq k l) (is_among ls k) e) [
  | inl h ↦ inl ((bytes_eq-Decides k l).0 h)
  | inr h ↦ inr (among_is ls k h)
]

pub one_less : (ts mid : List Token) (m : Mark) (x : List Mark) (n : ℕ) → marks ts ≡ m ∷ x → length (marks mid) ≤ length x → length ts < suc n
    → length (after_comma mid) < n
one_less ts mid m x n there shorter enough =
    let a = count_of ts (m ∷ x) there in
    let d : length (marks mid) ≡ length (comma_marks (has_comma mid) (marks (after_comma mid))) = ap length (comma_takes mid) in
    let f = comma_longer (has_comma mid) (marks (after_comma mid)) in
    let g = count_of (after_comma mid) (marks (after_comma mid)) refl in
    omega arith

module _ (tests : Tests) (are : AreTests tests) where
  -- a stop at the key, or in its body
  entry_stop : (reads : List Token → Read Body) (earlier : List (List ℕ)) (k : List ℕ) (ts : List Token) (s : Stop) → entry_at tests reads earlier k ts ≡ Err s
      → ((tests.is_key k ≡ false) × (stop BadKey ts ≡ s)) ⊎ (((is_among earlier k ≡ true) × (stop DuplicateKey ts ≡ s)) ⊎ (reads (tail ts) ≡ Err s))
  entry_stop reads earlier k ts s e = at_test (tests.is_key k) refl e where
    twice : (b : Bool) → is_among earlier k ≡ b → cond b (Err (stop DuplicateKey ts)) (reads (tail ts)) ≡ Err s
        → ((is_among earlier k ≡ true) × (stop DuplicateKey ts ≡ s)) ⊎ (reads (tail ts) ≡ Err s)
    twice true is e = inl (is, cc)
    twice false is e = inr e

    at_test : (b : Bool) → tests.is_key k ≡ b → cond b (cond (is_among earlier k) (Err (stop DuplicateKey ts)) (reads (tail ts))) (Err (stop BadKey ts)) ≡ Err s
        → ((tests.is_key k ≡ false) × (stop BadKey ts ≡ s)) ⊎ (((is_among earlier k ≡ true) × (stop DuplicateKey ts ≡ s)) ⊎ (reads (tail ts) ≡ Err s))
    at_test true is e = inr (twice (is_among earlier k) refl e)
    at_test false is e = inl (is, cc)

  step_blames : (level depth : ℕ) (reads : List Token → Read Body) (law : Law tests depth reads) (blames : Blames level reads) (n : ℕ)
      (later : (earlier : List (List ℕ)) (ts : List Token) (s : Stop) → length ts < n → entries tests reads n earlier ts ≡ Err s
      → Blame (tables level earlier) ts s)
      (earlier : List (List ℕ)) (ts : List Token) (o : Option (List ℕ)) (s : Stop) → length ts < suc n → first_text ts ≡ o
      → entries_step tests reads (entries tests reads n) earlier ts o ≡ Err s → Blame (tables level earlier) ts s
  step_blames level depth reads law blames n later earlier ts None s enough comes e =
      elim (bind_err (punctuation_at right ts) (λ after. Ok (no_entries, after)) s e) [
        | inl h ↦ let g = no_mark right ts s h in subst (Blame (tables level earlier) ts) g.1 (unclosed level earlier ts comes g.0)
        | inr h ↦ absurd (cc)
      ]
  step_blames level depth reads law blames n later earlier ts (Some k) s enough comes e =
      elim (bind_err (entry_at tests reads earlier k ts) (λ b. entries tests reads n (k ∷ earlier) (after_comma b.1) >>= λ es. Ok
      (entry k b.0 (has_comma b.1) es.0, es.1)) s e) [
        | inl h ↦ elim (entry_stop reads earlier k ts s h) [
          | inl g ↦ subst (Blame (tables level earlier) ts) g.1
              (key_stop BadKey (λ m ms. (m, ms, refl)) (λ front rest. tt) level earlier ts k comes (are.keys.1 k g.0))
          | inr g ↦ elim g [
            | inl q ↦ subst (Blame (tables level earlier) ts) q.1
                (key_stop DuplicateKey (λ m ms. (m, ms, refl)) (λ front rest. tt) level earlier ts k comes (among_is earlier k q.0))
            | inr q ↦ in_body level earlier ts k s comes (blames (tail ts) s q)
          ]
        ]
        | inr h ↦
            let g = entry_takes tests reads earlier k ts h.0 h.1 in
            let took = law (tail ts) h.0 g.2 in
            let shorter : length (marks h.0.1) ≤ length (marks (tail ts)) = rw took.spelled (omega (arith, body_longer h.0.0 (marks h.0.1))) in
            elim (bind_err (entries tests reads n (k ∷ earlier) (after_comma h.0.1)) (λ es. Ok (entry k h.0.0 (has_comma h.0.1) es.0, es.1)) s h.2) [
              | inl q ↦ in_others level earlier ts h.0.1 k h.0.0 s comes took.form took.spelled
                  (later (k ∷ earlier) (after_comma h.0.1) s (one_less ts h.0.1 (Text k) (marks (tail ts)) n (text_first ts k comes) shorter enough) q)
              | inr q ↦ absurd (cc)
            ]
      ]

  pub entries_blame : (level depth : ℕ) (reads : List Token → Read Body) (law : Law tests depth reads) (blames : Blames level reads) (n : ℕ)
      (earlier : List (List ℕ)) (ts : List Token) (s : Stop)
      → length ts < n → entries tests reads n earlier ts ≡ Err s → Blame (tables level earlier) ts s
  unfolding entries
  entries_blame level depth reads law blames zero earlier ts s enough e = absurd (omega arith)
  entries_blame level depth reads law blames (suc n) earlier ts s enough e =
      step_blames level depth reads law blames n (λ earlier ts s enough e. entries_blame level depth reads law blames n earlier ts s enough e) earlier ts
      (first_text ts) s enough refl e
