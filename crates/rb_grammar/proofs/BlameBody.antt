-- Stops in a body: at its type, at its brace, or after it.
use Rattle.std.proofs.Common.{◌≡◌, ℕ, zero, suc, ◌+◌, Bool, true, false, cond, ◌||◌, nat_lt, List, [], ◌∷◌, ◌++◌, length, Option, Some, None, Result, Ok, Err}
use Rattle.std.proofs.Common.{refl, sym, ap, subst, ◌∙◌, arith, ◌⊎◌, inl, inr}
use Rattle.std.proofs.lemmas.List.{append-nil}
use Rattle.std.proofs.lemmas.Slice.Eq.{bytes_eq-Decides}
use Rattle.std.proofs.lemmas.Bool.{false≢true, lt-ltb}
use Rattle.rb_lexer.specs.declared.fault.SourceKind.{SourceKind}
use Rattle.rb_lexer.specs.declared.fault.SourceKind.TheVariants.{Unexpected, UnknownType, TooDeep}
use Rattle.rb_lexer.specs.declared.token.Token.{Token}
use Rattle.rb_lexer.specs.declared.token.Mark.{Mark}
use Rattle.rb_lexer.specs.declared.token.Mark.TheVariants.{Text, LeftBrace, RightBrace, Colon, Comma}
use Rattle.rb_grammar.specs.Form.{marks, string, alias, binary, int, ints, Body, plain, group, listed, leaf, table, array, no_entries, entry, no_elements}
use Rattle.rb_grammar.specs.Form.{one_text, one_body, string_word, no_fallback_table_word, leaf_inner, comma_marks, body_marks, entries_marks, elements_marks}
use Rattle.rb_grammar.specs.Form.{IsForm}
use Rattle.rb_grammar.specs.Reading.{Stop, stop, ◌>>=◌, left, right, colon, comma, begins, tail, punctuation_at, text_at, first_text, Tests, Word, string_type}
use Rattle.rb_grammar.specs.Reading.{alias_type, binary_type, int_type, ints_type, table_type, array_type, word_units, first_word, all_words}
use Rattle.rb_grammar.specs.Reading.{is_no_fallback_word, word_or, word_at, Inner, table_at, array_at, closed, typed_at, Guess, as_text, as_table, as_array}
use Rattle.rb_grammar.specs.Reading.{none_at, guess_or, guess, untyped_at, body_at, body}
use Rattle.rb_grammar.specs.Tests.{AreTests}
use Rattle.rb_grammar.specs.Faults.{IsWord, is_string, is_alias, is_binary, is_int, is_ints, is_table, is_no_fallback_table, is_array, NoWord, BodyHas, IsBad}
use Rattle.rb_grammar.proofs.Blame.{lacks, first_lacks, next_lacks, begins_bad}
use Rattle.rb_grammar.proofs.Blame.{Tail, IsSeen, Says, Blame, bodies, tables, arrays, IsArrayStart, Blames, outside, bind_err}
use Rattle.rb_grammar.proofs.BlameLists.{no_mark, no_text, either_mark, neither_mark, not_opened, text_colon, entries_blame}
use Rattle.rb_grammar.proofs.BlameElements.{elements_blame}
use Rattle.rb_grammar.proofs.BlameTyped.{body_word, inner_marks, typed_spelled, typed_of, typed, Inside, typed_blame}
use Rattle.rb_grammar.proofs.Complete.{text_is}
use Rattle.rb_grammar.proofs.Guess.{Alike, not_text, not_mark, not_body, unguessed_first, unguessed_second}
use Rattle.rb_grammar.proofs.Marks.{text_read, text_first, mark_there, mark_takes}
use Rattle.rb_grammar.proofs.Sound.{chosen}
use Rattle.rb_grammar.proofs.SoundBody.{word_takes, body_takes}
use Rattle.rb_grammar.proofs.Unique.{IsOpening, word_found, leaf_type, leaf_typed, body_opens}

-- ---- at the first mark

-- neither a colon nor a brace
unopened : (level : ℕ) (ts : List Token) → begins colon ts ≡ false → begins left ts ≡ false → Blame (bodies level) ts (stop Unexpected ts)
unopened level ts no_colon no_left =
    first_lacks (bodies level) ts
    (plain []) LeftBrace (Text [] ∷ RightBrace ∷ []) tt tt refl
    (λ f after ms good t e. not_body f ts after ms no_left no_colon t.alike e) (λ ms t. tt)

at_value : (f : Body) (level : ℕ) (after ms : List Mark) → level ≡ 65 → body_marks f after ≡ ms → BodyHas (IsBad TooDeep) f level after ms
at_value (plain s) level after ms deep e = (sym e, deep)
at_value t level after ms deep e = inl (sym e, deep)

deep_left : (level : ℕ) (ts : List Token) → level ≡ 65 → begins left ts ≡ true → Blame (bodies level) ts (stop TooDeep ts)
deep_left level ts deep opens =
    begins_bad (bodies level) TooDeep LeftBrace [] (LeftBrace, [], refl) ts tt (marks (tail ts)) (mark_there left ts opens)
    (plain []) (Text []) (RightBrace ∷ []) tt tt refl
    (λ f after ms good t e. at_value f level after ms deep e) (λ ms t. tt)

deep_colon : (level : ℕ) (ts : List Token) → level ≡ 65 → begins colon ts ≡ true → Blame (bodies level) ts (stop TooDeep ts)
deep_colon level ts deep opens =
    begins_bad (bodies level) TooDeep Colon [] (Colon, [], refl) ts tt (marks (tail ts)) (mark_there colon ts opens)
    (leaf (string None)) (Text string_word) (LeftBrace ∷ RightBrace ∷ []) tt tt refl
    (λ f after ms good t e. at_value f level after ms deep e) (λ ms t. tt)

-- ---- at the type

abbrev Worded : List Mark → Type 0
Worded ms = (w : Word) × (r : List Mark) × (ms ≡ Text (word_units w) ∷ r)

-- after the colon of a body a type word comes
colon_word : (f : Body) (after ms : List Mark) → body_marks f after ≡ Colon ∷ ms → Worded ms
colon_word (plain s) after ms e = absurd cc
colon_word (group es) after ms e = absurd cc
colon_word (listed xs) after ms e = absurd cc
colon_word (leaf l) after ms e = (leaf_type l, LeftBrace ∷ leaf_inner l (RightBrace ∷ after), cc (leaf_typed l))
colon_word (table es) after ms e = (table_type, LeftBrace ∷ entries_marks es (RightBrace ∷ after), cc)
colon_word (array xs) after ms e = (array_type, LeftBrace ∷ elements_marks xs (RightBrace ∷ after), cc)

-- a text whose units are no type word
pub unknown_word : (ts : List Token) (s : List ℕ) (ms : List Mark) → first_text ts ≡ Some s → first_word s all_words ≡ None → Alike (marks ts) ms → Worded ms
    → ⊥
unknown_word ts s ms comes none a (w, r, e) =
    let alike : (more : List Mark) × (ms ≡ Text s ∷ more) = subst (λ xs. Alike xs ms) (text_first ts s comes) a in
    let both : Text s ∷ alike.0 ≡ Text (word_units w) ∷ r = sym alike.1 ∙ e in
    let same : s ≡ word_units w = cc in
    let bad : None ≡ Some w = sym none ∙ ap (λ x. first_word x all_words) same ∙ word_found w in
    cc

word_units_of : (s : List ℕ) → IsWord s → ((w : Word) × (s ≡ word_units w)) ⊎ (s ≡ no_fallback_table_word)
word_units_of s is_string = inl (string_type, refl)
word_units_of s is_alias = inl (alias_type, refl)
word_units_of s (is_binary long) = inl (binary_type long, refl)
word_units_of s (is_int long) = inl (int_type long, refl)
word_units_of s is_ints = inl (ints_type, refl)
word_units_of s is_table = inl (table_type, refl)
word_units_of s is_no_fallback_table = inr refl
word_units_of s is_array = inl (array_type, refl)

pub is_word : (w : Word) → IsWord (word_units w)
is_word string_type = is_string
is_word alias_type = is_alias
is_word (binary_type long) = is_binary long
is_word (int_type long) = is_int long
is_word ints_type = is_ints
is_word table_type = is_table
is_word array_type = is_array

-- the test recognizes the word of a bundle without fallback
pub no_fallback_is : (s : List ℕ) → s ≡ no_fallback_table_word → is_no_fallback_word s ≡ true
no_fallback_is s same = ap is_no_fallback_word same

pub not_word : (s : List ℕ) → is_no_fallback_word s ≡ false → first_word s all_words ≡ None → IsWord s → ⊥
not_word s other none is = elim (word_units_of s is) [
  | inl w ↦ let bad : None ≡ Some w.0 = sym none ∙ ap (λ x. first_word x all_words) w.1 ∙ word_found w.0 in cc
  | inr same ↦ false≢true (sym other ∙ no_fallback_is s same)
]

-- why no type word of a value is read
pub data WordStop (ts : List Token) (s : Stop) : Type 0 where
  no_text_there : first_text ts ≡ None → stop Unexpected ts ≡ s → WordStop ts s
  no_word_there : (r : List ℕ) → first_text ts ≡ Some r → is_no_fallback_word r ≡ false → first_word r all_words ≡ None → stop UnknownType ts ≡ s
      → WordStop ts s
  out_of_place : (r : List ℕ) → first_text ts ≡ Some r → is_no_fallback_word r ≡ true → first_word r all_words ≡ None → stop Unexpected ts ≡ s → WordStop ts s

pub word_stop : (ts : List Token) (s : Stop) → word_at ts ≡ Err s → WordStop ts s
word_stop ts s e = elim (bind_err (text_at ts) (λ t. word_or ts t.0 (first_word t.0 all_words)) s e) [
  | inl h ↦ let g = no_text ts s h in no_text_there g.0 g.1
  | inr h ↦ let t = text_read ts h.0 h.1 in by h.0.0 t.0 (first_word h.0.0 all_words) refl h.2
] where
  by_test : (r : List ℕ) → first_text ts ≡ Some r → first_word r all_words ≡ None → (b : Bool) → is_no_fallback_word r ≡ b
      → ◌≡◌ {A = Result (Word × List Token) Stop} (Err (stop (cond b Unexpected UnknownType) ts)) (Err s) → WordStop ts s
  by_test r comes none true is e = out_of_place r comes is none cc
  by_test r comes none false is e = no_word_there r comes is none cc

  by : (r : List ℕ) → first_text ts ≡ Some r → (o : Option Word) → first_word r all_words ≡ o → word_or ts r o ≡ Err s → WordStop ts s
  by r comes None is e = by_test r comes is (is_no_fallback_word r) refl e
  by r comes (Some w) is e = absurd cc

pub no_text_word : (before : List Mark) (ts : List Token) → first_text ts ≡ None → NoWord before (marks ts) → ⊥
no_text_word before ts none w = let bad : None ≡ Some w.word = sym none ∙ text_is ts (Text w.word) w.after w.text in cc

no_type : (level : ℕ) (ts after : List Token) → marks ts ≡ Colon ∷ marks after → first_text after ≡ None → Blame (bodies level) ts (stop Unexpected after)
no_type level ts after there none =
    lacks (bodies level) Unexpected refl ts after (Colon ∷ []) (λ w. no_text_word (Colon ∷ []) after none w) there
    (leaf (string None)) (Text string_word) (LeftBrace ∷ RightBrace ∷ []) tt tt refl
    (λ f rest ms good t e. let w = colon_word f rest ms e in not_text after (word_units w.0) w.1 ms none t.alike (sym w.2)) (λ ms t. tt)

-- after the colon of a value, a text that names no type of a value
module _ (level : ℕ) (ts after : List Token) (r : List ℕ) (there : marks ts ≡ Colon ∷ marks after) (comes : first_text after ≡ Some r)
    (none : first_word r all_words ≡ None) where
  no_value_type : (kind : SourceKind) → IsSeen kind [] → Says kind (Colon ∷ []) (marks after) → Blame (bodies level) ts (stop kind after)
  no_value_type kind shows says =
      lacks (bodies level) kind shows ts after (Colon ∷ []) says there
      (leaf (string None)) (Text string_word) (LeftBrace ∷ RightBrace ∷ []) tt tt refl
      (λ f rest ms good t e. unknown_word after r ms comes none t.alike (colon_word f rest ms e)) (λ ms t. tt)

  unknown_type : is_no_fallback_word r ≡ false → Blame (bodies level) ts (stop UnknownType after)
  unknown_type other =
      no_value_type UnknownType refl (record {
        before = [];
        word = r;
        after = marks (tail after);
        colon = refl;
        text = text_first after r comes;
        unknown = not_word r other none;
      })

  misplaced_type : is_no_fallback_word r ≡ true → Blame (bodies level) ts (stop Unexpected after)
  misplaced_type same = no_value_type Unexpected refl (λ n. known n) where
    known : NoWord (Colon ∷ []) (marks after) → ⊥
    known n =
        let both : Text r ∷ marks (tail after) ≡ Text n.word ∷ n.after = sym (text_first after r comes) ∙ n.text in
        let units : r ≡ n.word = cc in
        let word : no_fallback_table_word ≡ n.word = sym ((bytes_eq-Decides r no_fallback_table_word).0 same) ∙ units in
        n.unknown (subst IsWord word is_no_fallback_table)

-- a body with each type
word_body : Word → Body
word_body string_type = leaf (string None)
word_body alias_type = leaf (alias None)
word_body (binary_type long) = leaf (binary long None)
word_body (int_type long) = leaf (int long [])
word_body ints_type = leaf (ints [])
word_body table_type = table no_entries
word_body array_type = array no_elements

word_body_is : (w : Word) → (body_word (word_body w) ≡ Some w) × IsForm (word_body w)
unfolding word_body
word_body_is string_type = (refl, tt)
word_body_is alias_type = (refl, tt)
word_body_is (binary_type long) = (refl, tt)
word_body_is (int_type long) = (refl, tt)
word_body_is ints_type = (refl, tt)
word_body_is table_type = (refl, tt)
word_body_is array_type = (refl, tt)

no_brace : (level : ℕ) (ts after : List Token) (w : Word) → marks ts ≡ Colon ∷ Text (word_units w) ∷ marks after → begins left after ≡ false
    → Blame (bodies level) ts (stop Unexpected after)
no_brace level ts after w there none = let g = word_body_is w in
    next_lacks (bodies level) ts after (Colon ∷ []) (Text (word_units w)) (text_colon (word_units w)) there
    (word_body w) LeftBrace (inner_marks (word_body w) []) g.1 tt (sym (typed_spelled (word_body w) w [] g.0))
    (λ f rest ms good t e. not_mark left after (inner_marks f rest) ms none t.alike (typed_of f w rest ms e).1) (λ ms t. tt)

brace_colon : LeftBrace ≡ Colon → ⊥
brace_colon e = cc

-- after the brace of a body with a type
after_type : (level : ℕ) (ts after : List Token) (w : Word) (s : Stop) → marks ts ≡ Colon ∷ Text (word_units w) ∷ LeftBrace ∷ marks after
    → Blame (typed w level) after s → Blame (bodies level) ts s
after_type level ts after w s there b =
    outside (typed w level) (bodies level) ts after s b (Colon ∷ Text (word_units w) ∷ []) LeftBrace brace_colon there b.form [] b.good.1
    (typed_spelled b.form w [] b.good.0) (sym (append-nil (inner_marks b.form []))) inside tt (λ ms t. tt) where
      inside : (f : Body) (rest ms : List Mark) → IsForm f → Tail s.rest b.seen ms
          → body_marks f rest ≡ Colon ∷ Text (word_units w) ∷ LeftBrace ∷ (b.front ++ ms) → BodyHas (IsBad s.kind) f level rest ms
      inside f rest ms good t e = let h = typed_of f w rest (LeftBrace ∷ (b.front ++ ms)) e in let same : inner_marks f rest ≡ b.front ++ ms = cc in
          b.blame f rest ms (h.0, good) t same

typed_stop : (tests : Tests) (are : AreTests tests) (level : ℕ) (inner : Inner) (inside : Inside tests level inner) (ts : List Token) (s : Stop)
    → begins colon ts ≡ true → (word_at (tail ts) >>= λ w. punctuation_at left w.1 >>= λ after. typed_at tests inner w.0 after) ≡ Err s
    → Blame (bodies level) ts s
typed_stop tests are level inner inside ts s opens e =
    elim (bind_err (word_at (tail ts)) (λ w. punctuation_at left w.1 >>= λ after. typed_at tests inner w.0 after) s e) [
      | inl h ↦ at_word (word_stop (tail ts) s h)
      | inr h ↦
          let there : marks ts ≡ Colon ∷ Text (word_units h.0.0) ∷ marks h.0.1 =
          mark_there colon ts opens ∙ ap (λ ms. Colon ∷ ms) (word_takes (tail ts) h.0 h.1) in
          elim (bind_err (punctuation_at left h.0.1) (λ after. typed_at tests inner h.0.0 after) s h.2) [
            | inl g ↦ let q = no_mark left h.0.1 s g in subst (Blame (bodies level) ts) q.1 (no_brace level ts h.0.1 h.0.0 there q.0)
            | inr g ↦ after_type level ts g.0 h.0.0 s (there ∙ ap (λ ms. Colon ∷ Text (word_units h.0.0) ∷ ms) (mark_takes left h.0.1 g.0 g.1))
                (typed_blame tests are level inner inside h.0.0 g.0 s g.2)
          ]
    ] where
      at_word : WordStop (tail ts) s → Blame (bodies level) ts s
      at_word (no_text_there none is) = subst (Blame (bodies level) ts) is (no_type level ts (tail ts) (mark_there colon ts opens) none)
      at_word (no_word_there r comes other none is) =
          subst (Blame (bodies level) ts) is (unknown_type level ts (tail ts) r (mark_there colon ts opens) comes none other)
      at_word (out_of_place r comes same none is) =
          subst (Blame (bodies level) ts) is (misplaced_type level ts (tail ts) r (mark_there colon ts opens) comes none same)

-- ---- after the brace of a body without a type

none_first : (level : ℕ) (ts after : List Token) → marks ts ≡ LeftBrace ∷ marks after → first_text after ≡ None → begins left after ≡ false
    → begins colon after ≡ false → begins right after ≡ false → Blame (bodies level) ts (stop Unexpected after)
none_first level ts after there none no_left no_colon no_right =
    next_lacks (bodies level) ts after [] LeftBrace brace_colon there
    (plain []) (Text []) (RightBrace ∷ []) tt tt refl
    (λ f rest ms good t e. unguessed_first after none no_left no_colon no_right f rest ms good t.alike e) (λ ms t. tt)

none_second : (level : ℕ) (ts after : List Token) (r : List ℕ) → marks ts ≡ LeftBrace ∷ Text r ∷ marks after → begins left after ≡ false
    → begins colon after ≡ false → begins right after ≡ false → begins comma after ≡ false → Blame (bodies level) ts (stop Unexpected after)
none_second level ts after r there no_left no_colon no_right no_comma =
    next_lacks (bodies level) ts after (LeftBrace ∷ []) (Text r) (text_colon r) there
    (plain r) RightBrace [] tt tt refl
    (λ f rest ms good t e. unguessed_second after r no_left no_colon no_right no_comma f rest ms good t.alike e) (λ ms t. tt)

-- if the guess finds none
pub data NoGuess (ts rest : List Token) : Type 0 where
  first_mark : first_text ts ≡ None → begins left ts ≡ false → begins colon ts ≡ false → begins right ts ≡ false → ts ≡ rest → NoGuess ts rest
  second_mark : (r : List ℕ) → first_text ts ≡ Some r → begins left rest ≡ false → begins colon rest ≡ false → begins right rest ≡ false
      → begins comma rest ≡ false → tail ts ≡ rest → NoGuess ts rest

no_guess : (ts rest : List Token) → guess ts ≡ none_at rest → NoGuess ts rest
no_guess ts rest e = by (first_text ts) refl e where
  same_rest : (xs : List Token) → none_at xs ≡ none_at rest → xs ≡ rest
  same_rest xs e = cc

  none : (a b c : Bool) → first_text ts ≡ None → begins left ts ≡ a → begins colon ts ≡ b → begins right ts ≡ c
      → cond (a || b || c) as_array (none_at ts) ≡ none_at rest → NoGuess ts rest
  none false false false n p q r e = first_mark n p q r (same_rest ts e)
  none true b c n p q r e = absurd (cc)
  none false true c n p q r e = absurd (cc)
  none false false true n p q r e = absurd (cc)

  some : (u : List ℕ) (a b c d : Bool) → first_text ts ≡ Some u → begins comma (tail ts) ≡ a → begins right (tail ts) ≡ b → begins left (tail ts) ≡ c
      → begins colon (tail ts) ≡ d → cond a as_array (cond b as_text (cond (c || d) as_table (none_at (tail ts)))) ≡ none_at rest → NoGuess ts rest
  some u true b c d n p q r t e = absurd cc
  some u false true c d n p q r t e = absurd cc
  some u false false true d n p q r t e = absurd cc
  some u false false false true n p q r t e = absurd cc
  some u false false false false n p q r t e =
      let same = same_rest (tail ts) e in
      second_mark u n (ap (begins left) (sym same) ∙ r) (ap (begins colon) (sym same) ∙ t) (ap (begins right) (sym same) ∙ q) (ap (begins comma) (sym same) ∙ p)
      same

  by : (o : Option (List ℕ)) → first_text ts ≡ o → guess_or ts o ≡ none_at rest → NoGuess ts rest
  by None n e = none (begins left ts) (begins colon ts) (begins right ts) n refl refl refl e
  by (Some u) n e = some u (begins comma (tail ts)) (begins right (tail ts)) (begins left (tail ts)) (begins colon (tail ts)) n refl refl refl refl e

tail_same : (xs ys : List Mark) → LeftBrace ∷ xs ≡ LeftBrace ∷ ys → xs ≡ ys
tail_same xs ys e = cc

opening_comma : (m : Mark) → IsOpening m → m ≡ Comma → ⊥
opening_comma m o e = subst IsOpening e o

text_there : (ts : List Token) → guess ts ≡ as_text → (r : List ℕ) × (first_text ts ≡ Some r) × (begins right (tail ts) ≡ true)
text_there ts e = by (first_text ts) refl e where
  none : (b : Bool) → cond b as_array (none_at ts) ≡ as_text → ⊥
  none true e = cc
  none false e = cc

  some : (a b c : Bool) → cond a as_array (cond b as_text (cond c as_table (none_at (tail ts)))) ≡ as_text → b ≡ true
  some true b c e = absurd cc
  some false true c e = refl
  some false false true e = absurd cc
  some false false false e = absurd cc

  by : (o : Option (List ℕ)) → first_text ts ≡ o → guess_or ts o ≡ as_text → (r : List ℕ) × (first_text ts ≡ Some r) × (begins right (tail ts) ≡ true)
  by None n e = absurd (none (begins left ts || begins colon ts || begins right ts) e)
  by (Some r) n e = (r, n, some (begins comma (tail ts)) (begins right (tail ts)) (begins left (tail ts) || begins colon (tail ts)) e)

-- no room is left one level above the deepest
room_none : (depth level : ℕ) → nat_lt 0 depth ≡ false → level + suc depth ≡ 65 → suc level ≡ 65
room_none zero level none high = omega arith
room_none (suc depth) level none high = absurd (false≢true (sym none ∙ lt-ltb 0 (suc depth) (omega arith)))

in_group : (level : ℕ) (ts after : List Token) (s : Stop) → marks ts ≡ LeftBrace ∷ marks after → guess after ≡ as_table → Blame (tables (suc level) []) after s
    → Blame (bodies level) ts s
in_group level ts after s there is b =
    outside (tables (suc level) []) (bodies level) ts after s b [] LeftBrace brace_colon there (group b.form) [] (b.fit, b.good) refl
    (sym (append-nil (entries_marks b.form (RightBrace ∷ [])))) inside tt (λ ms t. tt) where
      inside : (f : Body) (rest ms : List Mark) → IsForm f → Tail s.rest b.seen ms → body_marks f rest ≡ LeftBrace ∷ (b.front ++ ms)
          → BodyHas (IsBad s.kind) f level rest ms
      inside (group es) rest ms good t e = inr (b.blame es rest ms good.1 t cc)
      inside (plain r) rest ms good t e =
          let d = b.start ms t is in
          let both : Text r ∷ RightBrace ∷ rest ≡ Text d.0 ∷ d.1 = tail_same (Text r ∷ RightBrace ∷ rest) (b.front ++ ms) e ∙ d.3 in
          absurd (not_opened RightBrace rest d.1 (λ o. o) d.2 cc)
      inside (listed no_elements) rest ms good t e =
          let d = b.start ms t is in
          let both : RightBrace ∷ rest ≡ Text d.0 ∷ d.1 = tail_same (RightBrace ∷ rest) (b.front ++ ms) e ∙ d.3 in
          absurd cc
      inside (listed (one_text r true xs)) rest ms good t e =
          let d = b.start ms t is in
          let both : Text r ∷ Comma ∷ elements_marks xs (RightBrace ∷ rest) ≡ Text d.0 ∷ d.1 =
          tail_same (Text r ∷ Comma ∷ elements_marks xs (RightBrace ∷ rest)) (b.front ++ ms) e ∙ d.3 in
          absurd (not_opened Comma (elements_marks xs (RightBrace ∷ rest)) d.1 (λ o. o) d.2 cc)
      inside (listed (one_text r false xs)) rest ms good t e = absurd (false≢true good.0)
      inside (listed (one_body x c xs)) rest ms good t e =
          let d = b.start ms t is in
          let inner = body_marks x (comma_marks c (elements_marks xs (RightBrace ∷ rest))) in
          let o = body_opens x (comma_marks c (elements_marks xs (RightBrace ∷ rest))) in
          absurd (not_opened (Text d.0) d.1 inner (λ o. o) (o.first, o.others, o.opening, o.is) (sym (tail_same inner (b.front ++ ms) e ∙ d.3)))
      inside (leaf l) rest ms good t e = absurd cc
      inside (table es) rest ms good t e = absurd cc
      inside (array xs) rest ms good t e = absurd cc

in_list : (level : ℕ) (ts after : List Token) (s : Stop) → marks ts ≡ LeftBrace ∷ marks after → guess after ≡ as_array → Blame (arrays (suc level)) after s
    → Blame (bodies level) ts s
in_list level ts after s there is b =
    outside (arrays (suc level)) (bodies level) ts after s b [] LeftBrace brace_colon there (listed b.form) [] (b.fit is, b.good) refl
    (sym (append-nil (elements_marks b.form (RightBrace ∷ [])))) inside tt (λ ms t. tt) where
      text_then : (r : List ℕ) (m : Mark) (rest ms : List Mark) → (m ≡ Comma → ⊥) → IsArrayStart ms → Text r ∷ m ∷ rest ≡ ms → ⊥
      text_then r m rest ms other (inl o) e = not_opened (Text r) (m ∷ rest) ms (λ o. o) o e
      text_then r m rest ms other (inr (s, q, is)) e = let both : Text r ∷ m ∷ rest ≡ Text s ∷ Comma ∷ q = e ∙ is in other cc

      inside : (f : Body) (rest ms : List Mark) → IsForm f → Tail s.rest b.seen ms → body_marks f rest ≡ LeftBrace ∷ (b.front ++ ms)
          → BodyHas (IsBad s.kind) f level rest ms
      inside (listed xs) rest ms good t e = inr (b.blame xs rest ms good.1 t cc)
      inside (plain r) rest ms good t e =
          absurd (text_then r RightBrace rest (b.front ++ ms) (λ e. cc) (b.start ms t is) (tail_same (Text r ∷ RightBrace ∷ rest) (b.front ++ ms) e))
      inside (group no_entries) rest ms good t e = absurd good.0
      inside (group (entry k x c es)) rest ms good t e =
          let inner = body_marks x (comma_marks c (entries_marks es (RightBrace ∷ rest))) in
          let o = body_opens x (comma_marks c (entries_marks es (RightBrace ∷ rest))) in
          absurd (text_then k o.first o.others (b.front ++ ms) (opening_comma o.first o.opening) (b.start ms t is)
          (ap (λ xs. Text k ∷ xs) (sym o.is) ∙ tail_same (Text k ∷ inner) (b.front ++ ms) e))
      inside (leaf l) rest ms good t e = absurd cc
      inside (table es) rest ms good t e = absurd cc
      inside (array xs) rest ms good t e = absurd cc

module _ (tests : Tests) (are : AreTests tests) (level : ℕ) (inner : Inner) (inside : Inside tests level inner) where
  untyped_stop : (ts after : List Token) (g : Guess) (s : Stop) → marks ts ≡ LeftBrace ∷ marks after → guess after ≡ g → untyped_at tests inner g after ≡ Err s
      → Blame (bodies level) ts s
  untyped_stop ts after as_text s there is e =
      let t = text_there after is in
      absurd (text_closed after t.0 t.1 t.2 e) where
        text_closed : (after : List Token) (r : List ℕ) → first_text after ≡ Some r → begins right (tail after) ≡ true → closed plain (text_at after) ≡ Err s
            → ⊥
        text_closed after r comes closes e = let read : closed plain (text_at after) ≡ Ok (plain r, tail (tail after)) = rw (comes, closes) refl in
            let bad : ◌≡◌ {A = Result (Body × List Token) Stop} (Err s) (Ok (plain r, tail (tail after))) = sym e ∙ read in cc
  untyped_stop ts after as_table s there is e = elim (bind_err (table_at tests inner after) (λ es. Ok (group es.0, es.1)) s e) [
    | inl h ↦ in_group level ts after s there is (entries_blame tests are (suc level) inside.depth inner.reads inside.law inside.blames (suc (length after)) []
        after s (omega arith) h)
    | inr h ↦ absurd (cc)
  ]
  untyped_stop ts after as_array s there is e = elim (bind_err (array_at inner after) (λ xs. Ok (listed xs.0, xs.1)) s e) [
    | inl h ↦ in_list level ts after s there is (elements_blame tests (suc level) inside.depth inner.room inner.reads inside.law inside.blames inside.deep
        (suc (length after)) after s (omega arith) h)
    | inr h ↦ absurd (cc)
  ]
  untyped_stop ts after (none_at rest) s there is e = let same : stop Unexpected rest ≡ s = cc in
      subst (Blame (bodies level) ts) same (by (no_guess after rest is)) where
        by : NoGuess after rest → Blame (bodies level) ts (stop Unexpected rest)
        by (first_mark none no_left no_colon no_right is) =
            subst (λ (xs : List Token). Blame (bodies level) ts (stop Unexpected xs)) is (none_first level ts after there none no_left no_colon no_right)
        by (second_mark r comes no_left no_colon no_right no_comma is) =
            none_second level ts rest r (there ∙ ap (λ ms. LeftBrace ∷ ms) (text_first after r comes ∙ ap (λ xs. Text r ∷ marks xs) is)) no_left no_colon
            no_right
            no_comma

  body_stop : (ts : List Token) (s : Stop) → body_at tests inner ts ≡ Err s → Blame (bodies level) ts s
  body_stop ts s e =
      elim (chosen (begins colon ts) (word_at (tail ts) >>= λ w. punctuation_at left w.1 >>= λ after. typed_at tests inner w.0 after)
      (punctuation_at left ts >>= λ after. untyped_at tests inner (guess after) after) (Err s) e) [
        | inl h ↦ typed_stop tests are level inner inside ts s h.0 h.1
        | inr h ↦ elim (bind_err (punctuation_at left ts) (λ after. untyped_at tests inner (guess after) after) s h.1) [
          | inl g ↦ let q = no_mark left ts s g in subst (Blame (bodies level) ts) q.1 (unopened level ts h.0 q.0)
          | inr g ↦ untyped_stop ts g.0 (guess g.0) s (mark_takes left ts g.0 g.1) refl g.2
        ]
      ]

-- If reading a body stops, each form with the marks up to the stop has the error at the stop.
pub body_blames : (tests : Tests) (are : AreTests tests) (depth level : ℕ) → level + depth ≡ 65 → Blames level (body tests depth)
unfolding body
body_blames tests are zero level high ts s e = elim (chosen (begins colon ts || begins left ts) (Err (stop TooDeep ts)) (Err (stop Unexpected ts)) (Err s) e) [
  | inl h ↦
      let same : stop TooDeep ts ≡ s = cc in
      let deep : level ≡ 65 = omega arith in
      subst (Blame (bodies level) ts) same (elim (either_mark (begins colon ts) (begins left ts) h.0)
      [ inl c ↦ deep_colon level ts deep c | inr b ↦ deep_left level ts deep b ])
  | inr h ↦
      let same : stop Unexpected ts ≡ s = cc in
      let n = neither_mark (begins colon ts) (begins left ts) h.0 in
      subst (Blame (bodies level) ts) same (unopened level ts n.0 n.1)
]
body_blames tests are (suc depth) level high ts s e =
    body_stop tests are level (record { room = nat_lt 0 depth; reads = body tests depth })
    (record {
      depth = depth;
      law = λ ts x e. body_takes tests depth ts x e;
      blames = λ ts s e. body_blames tests are depth (suc level) (omega arith) ts s e;
      deep = λ none. room_none depth level none high;
    }) ts s e
