-- Proves that tokens at which reading stops have its error.
use Rattle.std.proofs.Common.{◌≡◌, ℕ, suc, Bool, false, List, [], ◌∷◌, ◌++◌, length, Option, Some, None, Ok, Err, refl, sym, ap, subst, ◌∙◌, arith}
use Rattle.std.proofs.Common.{append_assoc, ◌⊎◌, inl, inr}
use Rattle.std.proofs.lemmas.Bool.{false≢true}
use Rattle.std.proofs.lemmas.List.{append-nil, append_cancel_right, map-append}
use Rattle.rb_lexer.specs.declared.fault.SourceKind.{SourceKind}
use Rattle.rb_lexer.specs.declared.fault.SourceKind.TheVariants.{Unexpected, UnknownType, BadKey, DuplicateKey, BadInt, BadHex, TooDeep, TrailingText}
use Rattle.rb_lexer.specs.declared.token.Token.{Token}
use Rattle.rb_lexer.specs.declared.token.Mark.{Mark}
use Rattle.rb_lexer.specs.declared.token.Mark.TheVariants.{Text, LeftBrace, RightBrace, Colon}
use Rattle.rb_grammar.specs.Form.{marks, Head, untyped, plain_table, no_fallback_table, Leaf, string, alias, binary, int, ints, Body, plain, group, listed}
use Rattle.rb_grammar.specs.Form.{leaf, table, array, Entries, no_entries, entry, Elements, no_elements, one_text, one_body, table_word, no_fallback_table_word}
use Rattle.rb_grammar.specs.Form.{comma_marks, entries_marks, elements_marks, head_marks, bundle_marks, AreForms}
use Rattle.rb_grammar.specs.Reading.{Stop, stop, ◌>>=◌, left, colon, begins, tail, punctuation_at, text_at, first_text, Tests, Word, string_type, alias_type}
use Rattle.rb_grammar.specs.Reading.{binary_type, int_type, ints_type, table_type, array_type, word_units, first_word, all_words, word_at, is_no_fallback_word}
use Rattle.rb_grammar.specs.Reading.{is_no_fallback_text, head_word_at, entries, body, ended, table_word_or, type_at, bundle}
use Rattle.rb_grammar.specs.Tests.{AreTests}
use Rattle.rb_grammar.specs.Faults.{IsWord, Role, NumbersHave, BytesHave, LeafHas, BodyHas, EntriesHas, ElementsHave, IsBad, Begun, IsBundle, IsFront, NoWord}
use Rattle.rb_grammar.specs.Faults.{Breaks, HasFault, line_at, IsFault}
use Rattle.rb_grammar.proofs.Blame.{lacks, first_lacks, next_lacks}
use Rattle.rb_grammar.proofs.Blame.{Tail, IsSeen, Says, Sort, Blame, tables, outside, bind_err}
use Rattle.rb_grammar.proofs.BlameLists.{no_mark, no_text, text_colon, entries_blame}
use Rattle.rb_grammar.proofs.BlameBody.{WordStop, no_text_there, no_word_there, out_of_place, word_stop, no_text_word, not_word, no_fallback_is, is_word}
use Rattle.rb_grammar.proofs.BlameBody.{body_blames}
use Rattle.rb_grammar.proofs.Bundles.{HeadRead, no_fallback_read, word_read, head_read, type_takes}
use Rattle.rb_grammar.proofs.Front.{entries_front}
use Rattle.rb_grammar.proofs.Guess.{Alike, not_text, not_mark}
use Rattle.rb_grammar.proofs.Marks.{text_first, text_takes, mark_there, mark_takes}
use Rattle.rb_grammar.proofs.Sound.{chosen, ok_is, entries_take}
use Rattle.rb_grammar.proofs.SoundBody.{word_takes, body_takes}
use Rattle.rb_grammar.proofs.Suffix.{bundle_ends}
use Rattle.rb_grammar.proofs.Unique.{entries_one, word_found, word_one}

-- ---- bundles

abbrev Whole : Type 0
Whole = List ℕ × Head × Entries

-- the spelling in front of something
abbrev pub bundle_in : Whole → List Mark → List Mark
bundle_in x rest = Text x.0 ∷ head_marks x.1 (LeftBrace ∷ entries_marks x.2 (RightBrace ∷ rest))

abbrev pub bundles : Sort
bundles = record {
  Form = Whole;
  Good = λ x. AreForms x.2;
  spell = bundle_in;
  has = λ P x after from. EntriesHas P x.2 2 [] (RightBrace ∷ after) from;
  Fit = λ ts x. Unit {0};
  Start = λ ts ms. Unit {0};
}

unnamed : (ts : List Token) → first_text ts ≡ None → Blame bundles ts (stop Unexpected ts)
unnamed ts none =
    first_lacks bundles ts
    ([], untyped, no_entries) (Text []) (LeftBrace ∷ RightBrace ∷ []) tt tt refl
    (λ x after ms good t e. not_text ts x.0 (head_marks x.1 (LeftBrace ∷ entries_marks x.2 (RightBrace ∷ after))) ms none t.alike e) (λ ms t. tt)

-- after the colon of a bundle one of two words comes
abbrev IsHeadWord : List ℕ → Type 0
IsHeadWord s = (s ≡ table_word) ⊎ (s ≡ no_fallback_table_word)

word_there : (x : Whole) (name : List ℕ) (after ms : List Mark) → bundle_in x after ≡ Text name ∷ Colon ∷ ms
    → (s : List ℕ) × IsHeadWord s × (r : List Mark) × (ms ≡ Text s ∷ r)
word_there (n, untyped, es) name after ms e = absurd cc
word_there (n, plain_table, es) name after ms e = (table_word, inl refl, LeftBrace ∷ entries_marks es (RightBrace ∷ after), cc)
word_there (n, no_fallback_table, es) name after ms e = (no_fallback_table_word, inr refl, LeftBrace ∷ entries_marks es (RightBrace ∷ after), cc)

at_type : (kind : SourceKind) (ts rest : List Token) (name : List ℕ) → IsSeen kind [] → Says kind (Text name ∷ Colon ∷ []) (marks rest)
    → marks ts ≡ Text name ∷ Colon ∷ marks rest
    → ((s : List ℕ) (ms r : List Mark) → IsHeadWord s → Alike (marks rest) ms → ms ≡ Text s ∷ r → ⊥) → Blame bundles ts (stop kind rest)
at_type kind ts rest name shows says there other =
    lacks bundles kind shows ts rest (Text name ∷ Colon ∷ []) says there
    (name, plain_table, no_entries) (Text table_word) (LeftBrace ∷ RightBrace ∷ []) tt tt refl
    (λ x after ms good t e. let h = word_there x name after ms e in other h.0 ms h.2 h.1 t.alike h.3) (λ ms t. tt)

-- a text that comes is the one in its place
text_alike : (ts : List Token) (u s : List ℕ) (rest ms r : List Mark) → marks ts ≡ Text u ∷ rest → Alike (marks ts) ms → ms ≡ Text s ∷ r → u ≡ s
text_alike ts u s rest ms r there a e =
    let alike : (more : List Mark) × (ms ≡ Text u ∷ more) = subst (λ xs. Alike xs ms) there a in
    let both : Text u ∷ alike.0 ≡ Text s ∷ r = sym alike.1 ∙ e in
    cc

-- no type of a value has the word of a bundle without fallback
no_value_word : (w : Word) → word_units w ≡ no_fallback_table_word → ⊥
no_value_word w e = let bad : Some w ≡ None = sym (word_found w) ∙ ap (λ s. first_word s all_words) e in cc

other_word : (ts : List Token) (w : Word) (rest : List Mark) (s : List ℕ) (ms r : List Mark) → (w ≡ table_type → ⊥) → marks ts ≡ Text (word_units w) ∷ rest
    → IsHeadWord s → Alike (marks ts) ms → ms ≡ Text s ∷ r → ⊥
other_word ts w rest s ms r other there (inl is) a e = other (word_one w table_type (text_alike ts (word_units w) s rest ms r there a e ∙ is))
other_word ts w rest s ms r other there (inr is) a e = no_value_word w (text_alike ts (word_units w) s rest ms r there a e ∙ is)

unknown_head : (ts : List Token) (u s : List ℕ) (ms r : List Mark) → first_text ts ≡ Some u → is_no_fallback_word u ≡ false → first_word u all_words ≡ None
    → IsHeadWord s → Alike (marks ts) ms → ms ≡ Text s ∷ r → ⊥
unknown_head ts u s ms r comes other none (inl is) a e =
    let same : u ≡ table_word = text_alike ts u s (marks (tail ts)) ms r (text_first ts u comes) a e ∙ is in
    let bad : None ≡ Some table_type = sym none ∙ ap (λ x. first_word x all_words) same in
    cc
unknown_head ts u s ms r comes other none (inr is) a e =
    false≢true (sym other ∙ no_fallback_is u (text_alike ts u s (marks (tail ts)) ms r (text_first ts u comes) a e ∙ is))

-- after the type of a bundle its brace comes
no_brace_typed : (ts rest : List Token) (name : List ℕ) (head : Head) (word : List ℕ) → ((ms : List Mark) → head_marks head ms ≡ Colon ∷ Text word ∷ ms)
    → marks ts ≡ Text name ∷ head_marks head (marks rest) → begins left rest ≡ false
    → Blame bundles ts (stop Unexpected rest)
no_brace_typed ts rest name head word is there none =
    next_lacks bundles ts rest (Text name ∷ Colon ∷ []) (Text word) (text_colon word) (there ∙ ap (λ ms. Text name ∷ ms) (is (marks rest)))
    (name, head, no_entries) LeftBrace (RightBrace ∷ []) tt tt (ap (λ ms. Text name ∷ ms) (sym (is (LeftBrace ∷ RightBrace ∷ []))))
    (λ x after ms good t e. no_such x after ms t.alike e) (λ ms t. tt) where
      past_words : (a b c d : Mark) (xs ys : List Mark) → a ∷ Colon ∷ c ∷ xs ≡ b ∷ Colon ∷ d ∷ ys → xs ≡ ys
      past_words a b c d xs ys e = cc

      no_such : (x : Whole) (after ms : List Mark) → Alike (marks rest) ms → bundle_in x after ≡ Text name ∷ Colon ∷ Text word ∷ ms → ⊥
      no_such (n, untyped, es) after ms a e = cc
      no_such (n, plain_table, es) after ms a e =
          not_mark left rest (entries_marks es (RightBrace ∷ after)) ms none a
          (past_words (Text n) (Text name) (Text table_word) (Text word) (LeftBrace ∷ entries_marks es (RightBrace ∷ after)) ms e)
      no_such (n, no_fallback_table, es) after ms a e =
          not_mark left rest (entries_marks es (RightBrace ∷ after)) ms none a
          (past_words (Text n) (Text name) (Text no_fallback_table_word) (Text word) (LeftBrace ∷ entries_marks es (RightBrace ∷ after)) ms e)

no_brace : (ts rest : List Token) (name : List ℕ) (head : Head) → marks ts ≡ Text name ∷ head_marks head (marks rest)
    → (head ≡ untyped → begins colon rest ≡ false) → begins left rest ≡ false → Blame bundles ts (stop Unexpected rest)
no_brace ts rest name plain_table there no_colon none = no_brace_typed ts rest name plain_table table_word (λ ms. refl) there none
no_brace ts rest name no_fallback_table there no_colon none = no_brace_typed ts rest name no_fallback_table no_fallback_table_word (λ ms. refl) there none
no_brace ts rest name untyped there no_colon none =
    next_lacks bundles ts rest [] (Text name) (text_colon name) there
    (name, untyped, no_entries) LeftBrace (RightBrace ∷ []) tt tt refl
    (λ x after ms good t e. no_such x after ms t.alike e) (λ ms t. tt) where
      no_such : (x : Whole) (after ms : List Mark) → Alike (marks rest) ms → bundle_in x after ≡ Text name ∷ ms → ⊥
      no_such (n, untyped, es) after ms a e = not_mark left rest (entries_marks es (RightBrace ∷ after)) ms none a cc
      no_such (n, plain_table, es) after ms a e =
          not_mark colon rest (Text table_word ∷ LeftBrace ∷ entries_marks es (RightBrace ∷ after)) ms (no_colon refl) a cc
      no_such (n, no_fallback_table, es) after ms a e =
          not_mark colon rest (Text no_fallback_table_word ∷ LeftBrace ∷ entries_marks es (RightBrace ∷ after)) ms (no_colon refl) a cc

type_pre : Head → List Mark
type_pre untyped = []
type_pre plain_table = Colon ∷ Text table_word ∷ []
type_pre no_fallback_table = Colon ∷ Text no_fallback_table_word ∷ []

type_is : (head : Head) (rest : List Mark) → head_marks head rest ≡ type_pre head ++ rest
unfolding type_pre
type_is untyped rest = refl
type_is plain_table rest = refl
type_is no_fallback_table rest = refl

-- what follows two heads that are spelled alike
same_head : (n m : List ℕ) (c d : Head) (xs ys : List Mark) → Text n ∷ head_marks c (LeftBrace ∷ xs) ≡ Text m ∷ head_marks d (LeftBrace ∷ ys) → xs ≡ ys
same_head n m untyped untyped xs ys e = cc
same_head n m untyped plain_table xs ys e = absurd cc
same_head n m untyped no_fallback_table xs ys e = absurd cc
same_head n m plain_table untyped xs ys e = absurd cc
same_head n m plain_table plain_table xs ys e = cc
same_head n m plain_table no_fallback_table xs ys e = cc
same_head n m no_fallback_table untyped xs ys e = absurd cc
same_head n m no_fallback_table plain_table xs ys e = cc
same_head n m no_fallback_table no_fallback_table xs ys e = cc

brace_colon : LeftBrace ≡ Colon → ⊥
brace_colon e = cc

within : (ts after : List Token) (name : List ℕ) (head : Head) (s : Stop) → marks ts ≡ Text name ∷ head_marks head (LeftBrace ∷ marks after)
    → Blame (tables 2 []) after s → Blame bundles ts s
within ts after name head s there b =
    outside (tables 2 []) bundles ts after s b (Text name ∷ type_pre head) LeftBrace brace_colon
    (there ∙ ap (λ ms. Text name ∷ ms) (type_is head (LeftBrace ∷ marks after))) (name, head, b.form) [] b.good
    (ap (λ ms. Text name ∷ ms) (type_is head (LeftBrace ∷ entries_marks b.form (RightBrace ∷ [])))) (sym (append-nil (entries_marks b.form (RightBrace ∷ []))))
    inside tt (λ ms t. tt) where
      inside : (x : Whole) (rest ms : List Mark) → AreForms x.2 → Tail s.rest b.seen ms
          → bundle_in x rest ≡ Text name ∷ (type_pre head ++ LeftBrace ∷ (b.front ++ ms)) → EntriesHas (IsBad s.kind) x.2 2 [] (RightBrace ∷ rest) ms
      inside x rest ms good t e =
          b.blame x.2 rest ms good t (same_head x.0 name x.1 head (entries_marks x.2 (RightBrace ∷ rest)) (b.front ++ ms)
          (e ∙ ap (λ xs. Text name ∷ xs) (sym (type_is head (LeftBrace ∷ (b.front ++ ms))))))

-- ---- the error

module _ (P : Role → Type 0) (never : (r : Role) → P r → ⊥) where
  no_number : (ns : List (List ℕ × Bool)) (after from : List Mark) → NumbersHave P ns after from → ⊥
  no_number [] after from h = h
  no_number (n ∷ ns) after from (inl h) = never _ h.1
  no_number (n ∷ ns) after from (inr h) = no_number ns after from h

  no_bytes : (t : Option (List ℕ)) (after from : List Mark) → BytesHave P t after from → ⊥
  no_bytes None after from h = h
  no_bytes (Some s) after from h = never _ h.1

  no_leaf : (l : Leaf) (after from : List Mark) → LeafHas P l after from → ⊥
  no_leaf (string t) after from h = h
  no_leaf (alias t) after from h = h
  no_leaf (binary long t) after from h = no_bytes t after from h
  no_leaf (int long s) after from h = never _ h.1
  no_leaf (ints ns) after from h = no_number ns after from h

  mutual
    no_body : (b : Body) (level : ℕ) (after from : List Mark) → BodyHas P b level after from → ⊥
    no_body (plain r) level after from h = never _ h.1
    no_body (group es) level after from (inl h) = never _ h.1
    no_body (group es) level after from (inr h) = no_entry es (suc level) [] (RightBrace ∷ after) from h
    no_body (listed xs) level after from (inl h) = never _ h.1
    no_body (listed xs) level after from (inr h) = no_element xs (suc level) (RightBrace ∷ after) from h
    no_body (leaf l) level after from (inl h) = never _ h.1
    no_body (leaf l) level after from (inr h) = no_leaf l (RightBrace ∷ after) from h
    no_body (table es) level after from (inl h) = never _ h.1
    no_body (table es) level after from (inr h) = no_entry es (suc level) [] (RightBrace ∷ after) from h
    no_body (array xs) level after from (inl h) = never _ h.1
    no_body (array xs) level after from (inr h) = no_element xs (suc level) (RightBrace ∷ after) from h

    pub no_entry : (es : Entries) (level : ℕ) (earlier : List (List ℕ)) (after from : List Mark) → EntriesHas P es level earlier after from → ⊥
    no_entry no_entries level earlier after from h = h
    no_entry (entry k b c es) level earlier after from (inl h) = never _ h.1
    no_entry (entry k b c es) level earlier after from (inr (inl h)) = no_body b level (comma_marks c (entries_marks es after)) from h
    no_entry (entry k b c es) level earlier after from (inr (inr h)) = no_entry es level (k ∷ earlier) after from h

    no_element : (xs : Elements) (level : ℕ) (after from : List Mark) → ElementsHave P xs level after from → ⊥
    no_element no_elements level after from h = h
    no_element (one_text s c xs) level after from (inl h) = never _ h.1
    no_element (one_text s c xs) level after from (inr h) = no_element xs level after from h
    no_element (one_body b c xs) level after from (inl h) = no_body b level (comma_marks c (elements_marks xs after)) from h
    no_element (one_body b c xs) level after from (inr h) = no_element xs level after from h

type_front : (head : Head) (xs ys : List Mark) → head_marks head xs ++ ys ≡ head_marks head (xs ++ ys)
type_front untyped xs ys = refl
type_front plain_table xs ys = refl
type_front no_fallback_table xs ys = refl

pub bundle_front : (name : List ℕ) (head : Head) (es : Entries) (ms : List Mark) → bundle_marks name head es ++ ms ≡ bundle_in (name, head, es) ms
bundle_front name head es ms =
    ap (λ xs. Text name ∷ xs) (type_front head (LeftBrace ∷ entries_marks es (RightBrace ∷ [])) ms
    ∙ ap (λ xs. head_marks head (LeftBrace ∷ xs)) (sym (entries_front es (RightBrace ∷ []) ms)))

-- nothing follows a bundle
pub alone : (m n : List ℕ) (c d : Head) (es fs : Entries) (ms : List Mark) → AreForms es → AreForms fs → bundle_marks m c es ++ ms ≡ bundle_marks n d fs
    → ms ≡ []
alone m n c d es fs ms p q e =
    (entries_one es fs ms [] p q (same_head m n c d (entries_marks es (RightBrace ∷ ms)) (entries_marks fs (RightBrace ∷ []))
    (sym (bundle_front m c es ms) ∙ e))).1

-- Some marks after front decide that the first of them breaks a condition, in each bundle that begins so.
record Decided (kind : SourceKind) (front rest : List Mark) : Type 0 where
  pub at : Mark
  pub seen : List Mark
  pub left : List Mark
  pub parts : rest ≡ at ∷ (seen ++ left)
  pub begun : Begun (front ++ at ∷ seen)
  pub each : (r : Begun (front ++ at ∷ seen)) → EntriesHas (IsBad kind) r.form 2 [] (RightBrace ∷ []) (at ∷ (seen ++ r.more))

-- of two fronts of a list one begins with the other
abbrev Cut : List Mark → List Mark → List Mark → List Mark → Type 0
Cut ps qs us vs = ((x : List Mark) × (us ≡ ps ++ x)) ⊎ ((m : Mark) × (x : List Mark) × (ps ≡ us ++ m ∷ x) × (vs ≡ m ∷ (x ++ qs)))

two_cuts : (ps qs us vs : List Mark) → ps ++ qs ≡ us ++ vs → Cut ps qs us vs
two_cuts [] qs us vs e = inl (us, refl)
two_cuts (p ∷ ps) qs [] vs e = inr (p, ps, refl, sym e)
two_cuts (p ∷ ps) qs (u ∷ us) vs e =
    let same : p ≡ u = cc in
    elim (two_cuts ps qs us vs cc) [
      | inl h ↦ inl (h.0, ap (λ x. x ∷ us) (sym same) ∙ ap (λ xs. p ∷ xs) h.1)
      | inr h ↦ inr (h.0, h.1, ap (λ xs. p ∷ xs) h.2 ∙ ap (λ x. x ∷ (us ++ h.0 ∷ h.1)) same, h.3)
    ]

shorter : (front more : List Mark) (r : Begun (front ++ more)) → Begun front
shorter front more r =
    record { name = r.name; head = r.head; form = r.form; more = more ++ r.more; good = r.good; whole = sym (append_assoc front more r.more) ∙ r.whole }

decided_breaks : (kind : SourceKind) (front rest : List Mark) → Decided kind front rest → Breaks kind front rest
decided_breaks kind front rest d = record {
  at = d.at;
  others = d.seen ++ d.left;
  parts = d.parts;
  begun = shorter (front ++ d.at ∷ []) d.seen (subst Begun (sym (append_assoc front (d.at ∷ []) d.seen)) d.begun);
  each = λ seen remain e f r. by seen remain f r (two_cuts d.seen d.left seen remain e);
} where
  by : (seen remain : List Mark) → IsFront (front ++ d.at ∷ seen) remain → (r : Begun (front ++ d.at ∷ seen)) → Cut d.seen d.left seen remain
      → EntriesHas (IsBad kind) r.form 2 [] (RightBrace ∷ []) (d.at ∷ (seen ++ r.more))
  by seen remain f r (inl (x, e)) =
      let same : d.seen ++ (x ++ r.more) ≡ seen ++ r.more = sym (append_assoc d.seen x r.more) ∙ ap (λ ms. ms ++ r.more) (sym e) in
      let whole : (front ++ d.at ∷ d.seen) ++ (x ++ r.more) ≡ bundle_marks r.name r.head r.form =
      append_assoc front (d.at ∷ d.seen) (x ++ r.more) ∙ ap (λ ms. front ++ d.at ∷ ms) same ∙ sym (append_assoc front (d.at ∷ seen) r.more) ∙ r.whole in
      subst (λ ms. EntriesHas (IsBad kind) r.form 2 [] (RightBrace ∷ []) (d.at ∷ ms)) same
      (d.each (record { name = r.name; head = r.head; form = r.form; more = x ++ r.more; good = r.good; whole = whole }))
  by seen remain f r (inr (m, x, e, g)) =
      let begun : Begun ((front ++ d.at ∷ seen) ++ (m ∷ x)) =
      subst Begun (ap (λ ms. front ++ d.at ∷ ms) e ∙ sym (append_assoc front (d.at ∷ seen) (m ∷ x))) d.begun in
      absurd (f.longest m (x ++ d.left) g (shorter ((front ++ d.at ∷ seen) ++ m ∷ []) x
      (subst Begun (sym (append_assoc (front ++ d.at ∷ seen) (m ∷ []) x)) begun)))

begun_of : (front more : List Mark) (x : Whole) → AreForms x.2 → front ++ more ≡ bundle_in x [] → Begun front
begun_of front more x good e = record { name = x.0; head = x.1; form = x.2; more = more; good = good; whole = e }

module _ (rest : List Token) (ts : List Token) where
  at_mark : (seen : List Mark) (m : Mark) (ms more : List Mark) → seen ≡ [] → marks rest ≡ m ∷ ms → Tail rest seen (m ∷ more)
  at_mark seen m ms more none e = record {
    alike = subst (λ xs. Alike xs (m ∷ more)) (sym e) (more, refl);
    shown = (m ∷ more, ap (λ xs. xs ++ m ∷ more) (sym none));
  }

  stuck : (kind : SourceKind) (b : Blame bundles ts (stop kind rest)) → b.seen ≡ [] → ((r : Role) → IsBad kind r → ⊥) → IsFront b.front (marks rest)
  stuck kind b none never = record {
    begun = begun_of b.front (b.seen ++ b.next ∷ b.others) b.form b.good b.whole;
    longest =
        λ m ms e r. no_entry (IsBad kind) never r.form 2 [] (RightBrace ∷ []) (m ∷ r.more)
        (b.blame (r.name, r.head, r.form) [] (m ∷ r.more) r.good (at_mark b.seen m ms r.more none e) (sym r.whole ∙ append_assoc b.front (m ∷ []) r.more));
  }

  no_bundle : (kind : SourceKind) (b : Blame bundles ts (stop kind rest)) → b.seen ≡ [] → IsBundle b.front → ⊥
  no_bundle kind b none h =
      let left_over : b.seen ++ b.next ∷ b.others ≡ [] =
      alone h.0 b.form.0 h.1 b.form.1 h.2 b.form.2 (b.seen ++ b.next ∷ b.others) h.3 b.good
      (ap (λ xs. xs ++ (b.seen ++ b.next ∷ b.others)) (sym h.4) ∙ b.whole) in
      let some : b.seen ++ b.next ∷ b.others ≡ b.next ∷ b.others = ap (λ xs. xs ++ b.next ∷ b.others) none in
      let bad : b.next ∷ b.others ≡ [] = sym some ∙ left_over in
      cc

  broken : (kind : SourceKind) (b : Blame bundles ts (stop kind rest)) (m : Mark) (ms : List Mark) → b.seen ≡ m ∷ ms → Decided kind b.front (marks rest)
  broken kind b m ms seen = record {
    at = m;
    seen = ms;
    left = b.left;
    parts = b.sees ∙ ap (λ xs. xs ++ b.left) seen;
    begun =
        begun_of (b.front ++ m ∷ ms) (b.next ∷ b.others) b.form b.good
        (append_assoc b.front (m ∷ ms) (b.next ∷ b.others) ∙ ap (λ xs. b.front ++ (xs ++ b.next ∷ b.others)) (sym seen) ∙ b.whole);
    each = λ r. b.blame (r.name, r.head, r.form) [] (m ∷ (ms ++ r.more)) r.good (shown r.more) (sym r.whole ∙ append_assoc b.front (m ∷ ms) r.more);
  } where
    shown : (more : List Mark) → Tail rest b.seen (m ∷ (ms ++ more))
    shown more = record {
      alike = subst (λ xs. Alike xs (m ∷ (ms ++ more))) (sym (b.sees ∙ ap (λ xs. xs ++ b.left) seen)) (ms ++ more, refl);
      shown = (more, ap (λ xs. xs ++ more) (sym seen));
    }

  never_unexpected : (r : Role) → IsBad Unexpected r → ⊥
  never_unexpected r h = h

  never_unknown : (r : Role) → IsBad UnknownType r → ⊥
  never_unknown r h = h

  fault_of : (kind : SourceKind) (b : Blame bundles ts (stop kind rest)) → HasFault kind b.front (marks rest)
  fault_of Unexpected b = (stuck Unexpected b b.shows never_unexpected, λ h. no_bundle Unexpected b b.shows h, b.says)
  fault_of UnknownType b = (stuck UnknownType b b.shows never_unknown, b.says)
  fault_of BadKey b = decided_breaks BadKey b.front (marks rest) (broken BadKey b b.shows.0 b.shows.1 b.shows.2)
  fault_of DuplicateKey b = decided_breaks DuplicateKey b.front (marks rest) (broken DuplicateKey b b.shows.0 b.shows.1 b.shows.2)
  fault_of BadInt b = decided_breaks BadInt b.front (marks rest) (broken BadInt b b.shows.0 b.shows.1 b.shows.2)
  fault_of BadHex b = decided_breaks BadHex b.front (marks rest) (broken BadHex b b.shows.0 b.shows.1 b.shows.2)
  fault_of TooDeep b = decided_breaks TooDeep b.front (marks rest) (broken TooDeep b b.shows.0 b.shows.1 b.shows.2)
  fault_of kind b = absurd b.shows

-- the error at a stop
abbrev pub Found : List Token → Stop → Type 0
Found ts s = (front : List Mark) × (marks ts ≡ front ++ marks s.rest) × HasFault s.kind front (marks s.rest)

blamed_found : (ts : List Token) (s : Stop) → Blame bundles ts s → Found ts s
blamed_found ts s b = (b.front, b.parts, fault_of s.rest ts s.kind b)

trailing : (ts : List Token) (t : Token) (rest : List Token) (name : List ℕ) (head : Head) (es : Entries) → AreForms es
    → marks ts ≡ bundle_in (name, head, es) (marks (t ∷ rest)) → Found ts (stop TrailingText (t ∷ rest))
trailing ts t rest name head es good spelled = (
  bundle_marks name head es,
  spelled ∙ sym (bundle_front name head es (marks (t ∷ rest))),
  (
    record {
      begun = record { name = name; head = head; form = es; more = []; good = good; whole = append-nil (bundle_marks name head es) };
      longest =
          λ m ms e r. no_more m r.more (alone name r.name head r.head es r.form (m ∷ r.more) good r.good
          (sym (append_assoc (bundle_marks name head es) (m ∷ []) r.more) ∙ r.whole));
    },
    (name, head, es, good, refl),
    λ none. cc,
  ),
) where
  no_more : (m : Mark) (ms : List Mark) → m ∷ ms ≡ [] → ⊥
  no_more m ms e = cc

ended_found : (ts rest : List Token) (name : List ℕ) (head : Head) (es : Entries) (s : Stop) → AreForms es → marks ts ≡ bundle_in (name, head, es) (marks rest)
    → ended name head es rest ≡ Err s → Found ts s
ended_found ts [] name head es s good spelled e = absurd cc
ended_found ts (t ∷ rest) name head es s good spelled e = let same : stop TrailingText (t ∷ rest) ≡ s = cc in
    subst (Found ts) same (trailing ts t rest name head es good spelled)

-- ---- the stops of a bundle

-- why no type of a bundle is read after its colon
data HeadStop (ts : List Token) (s : Stop) : Type 0 where
  no_text_comes : first_text ts ≡ None → stop Unexpected ts ≡ s → HeadStop ts s
  no_word_comes : (r : List ℕ) → first_text ts ≡ Some r → is_no_fallback_word r ≡ false → first_word r all_words ≡ None → stop UnknownType ts ≡ s
      → HeadStop ts s
  other_comes : (w : Word) (after : List Token) → marks ts ≡ Text (word_units w) ∷ marks after → table_word_or ts w after ≡ Err s → HeadStop ts s

head_stop : (ts : List Token) (s : Stop) → head_word_at ts ≡ Err s → HeadStop ts s
head_stop ts s e =
    elim (chosen (is_no_fallback_text (first_text ts)) (Ok (no_fallback_table, tail ts)) (word_at ts >>= λ w. table_word_or ts w.0 w.1) (Err s) e) [
      | inl h ↦ absurd (cc)
      | inr h ↦ elim (bind_err (word_at ts) (λ w. table_word_or ts w.0 w.1) s h.1) [
        | inl g ↦ by_word h.0 (word_stop ts s g)
        | inr g ↦ other_comes g.0.0 g.0.1 (word_takes ts g.0 g.1) g.2
      ]
    ] where
      by_word : is_no_fallback_text (first_text ts) ≡ false → WordStop ts s → HeadStop ts s
      by_word other (no_text_there none is) = no_text_comes none is
      by_word other (no_word_there r comes differs none is) = no_word_comes r comes differs none is
      by_word other (out_of_place r comes same none is) = absurd (false≢true (sym other ∙ ap is_no_fallback_text comes ∙ same))

type_blame : (ts rest : List Token) (name : List ℕ) (s : Stop) → marks ts ≡ Text name ∷ marks rest → type_at rest ≡ Err s → Blame bundles ts s
type_blame ts rest name s named e = elim (chosen (begins colon rest) (head_word_at (tail rest)) (Ok (untyped, rest)) (Err s) e) [
  | inl h ↦ at_head (named ∙ ap (λ ms. Text name ∷ ms) (mark_there colon rest h.0)) (head_stop (tail rest) s h.1)
  | inr h ↦ absurd (cc)
] where
  no_table : (w : Word) (after : List Token) → (w ≡ table_type → ⊥) → marks ts ≡ Text name ∷ Colon ∷ marks (tail rest)
      → marks (tail rest) ≡ Text (word_units w) ∷ marks after → stop Unexpected (tail rest) ≡ s → Blame bundles ts s
  no_table w after different there word is =
      subst (Blame bundles ts) is (at_type Unexpected ts (tail rest) name refl (λ n. known w (marks after) word n) there
      (λ q ms r head a e. other_word (tail rest) w (marks after) q ms r different word head a e)) where
        known : (w : Word) (after : List Mark) → marks (tail rest) ≡ Text (word_units w) ∷ after → NoWord (Text name ∷ Colon ∷ []) (marks (tail rest)) → ⊥
        known w after word n = let both : Text (word_units w) ∷ after ≡ Text n.word ∷ n.after = sym word ∙ n.text in let same : word_units w ≡ n.word = cc in
            n.unknown (subst IsWord same (is_word w))

  other : marks ts ≡ Text name ∷ Colon ∷ marks (tail rest) → (w : Word) (after : List Token) → marks (tail rest) ≡ Text (word_units w) ∷ marks after
      → table_word_or (tail rest) w after ≡ Err s → Blame bundles ts s
  other there table_type after word e = absurd cc
  other there string_type after word e = no_table string_type after (λ x. cc) there word cc
  other there alias_type after word e = no_table alias_type after (λ x. cc) there word cc
  other there (binary_type long) after word e = no_table (binary_type long) after (λ x. cc) there word cc
  other there (int_type long) after word e = no_table (int_type long) after (λ x. cc) there word cc
  other there ints_type after word e = no_table ints_type after (λ x. cc) there word cc
  other there array_type after word e = no_table array_type after (λ x. cc) there word cc

  at_head : marks ts ≡ Text name ∷ Colon ∷ marks (tail rest) → HeadStop (tail rest) s → Blame bundles ts s
  at_head there (no_text_comes none is) =
      subst (Blame bundles ts) is (at_type Unexpected ts (tail rest) name refl (λ w. no_text_word (Text name ∷ Colon ∷ []) (tail rest) none w) there
      (λ q ms r head a e. not_text (tail rest) q r ms none a (sym e)))
  at_head there (no_word_comes u comes differs none is) =
      subst (Blame bundles ts) is (at_type UnknownType ts (tail rest) name refl
      (record {
        before = Text name ∷ [];
        word = u;
        after = marks (tail (tail rest));
        colon = refl;
        text = text_first (tail rest) u comes;
        unknown = not_word u differs none;
      }) there
      (λ q ms r head a e. unknown_head (tail rest) u q ms r comes differs none head a e))
  at_head there (other_comes w after word e) = other there w after word e

-- if no type is written, no colon comes
no_colon_after : (ts : List Token) (x : Head × List Token) → type_at ts ≡ Ok x → x.0 ≡ untyped → begins colon x.1 ≡ false
no_colon_after ts x e none = elim (chosen (begins colon ts) (head_word_at (tail ts)) (Ok (untyped, ts)) (Ok x) e) [
  | inl h ↦ absurd (by_head (head_read (tail ts) x h.1))
  | inr h ↦ let made : Head × List Token = (untyped, ts) in ap (λ (y : Head × List Token). begins colon y.1) (sym (ok_is made x h.1)) ∙ h.0
] where
  by_word : (w : Word) (rest : List Token) → table_word_or (tail ts) w rest ≡ Ok x → ⊥
  by_word table_type rest e =
      let made : Head × List Token = (plain_table, rest) in
      let bad : plain_table ≡ untyped = ap (λ (y : Head × List Token). y.0) (ok_is made x e) ∙ none in
      cc
  by_word string_type rest e = cc
  by_word alias_type rest e = cc
  by_word (binary_type long) rest e = cc
  by_word (int_type long) rest e = cc
  by_word ints_type rest e = cc
  by_word array_type rest e = cc

  by_head : HeadRead (tail ts) x → ⊥
  by_head (no_fallback_read comes same) = let bad : no_fallback_table ≡ untyped = ap (λ (y : Head × List Token). y.0) same ∙ none in cc
  by_head (word_read w is e) = by_word w.0 w.1 e

module _ (tests : Tests) (are : AreTests tests) where
  bundle_found : (ts : List Token) (s : Stop) → bundle tests ts ≡ Err s → Found ts s
  unfolding bundle
  bundle_found ts s e =
      elim (bind_err (text_at ts) (λ name. type_at name.1 >>= λ head. punctuation_at left head.1 >>= λ after. entries tests (body tests 63) (suc (length after))
      [] after >>= λ es. ended name.0 head.0 es.0 es.1) s e) [
        | inl h ↦ let g = no_text ts s h in subst (Found ts) g.1 (blamed_found ts (stop Unexpected ts) (unnamed ts g.0))
        | inr a ↦ elim (bind_err (type_at a.0.1) (λ head. punctuation_at left head.1 >>= λ after. entries tests (body tests 63) (suc (length after)) [] after
            >>=
            λ es. ended a.0.0 head.0 es.0 es.1) s a.2) [
              | inl h ↦ blamed_found ts s (type_blame ts a.0.1 a.0.0 s (text_takes ts a.0 a.1) h)
              | inr b ↦
                  let head : marks ts ≡ Text a.0.0 ∷ head_marks b.0.0 (marks b.0.1) =
                  text_takes ts a.0 a.1 ∙ ap (λ ms. Text a.0.0 ∷ ms) (type_takes a.0.1 b.0 b.1) in
                  elim (bind_err (punctuation_at left b.0.1)
                  (λ after. entries tests (body tests 63) (suc (length after)) [] after >>= λ es. ended a.0.0 b.0.0 es.0
                  es.1) s b.2) [
                    | inl h ↦ let g = no_mark left b.0.1 s h in
                        subst (Found ts) g.1 (blamed_found ts (stop Unexpected b.0.1)
                        (no_brace ts b.0.1 a.0.0 b.0.0 head (λ none. no_colon_after a.0.1 b.0 b.1 none) g.0))
                    | inr c ↦
                        let opened : marks ts ≡ Text a.0.0 ∷ head_marks b.0.0 (LeftBrace ∷ marks c.0) =
                        head ∙ ap (λ ms. Text a.0.0 ∷ head_marks b.0.0 ms) (mark_takes left b.0.1 c.0 c.1) in
                        elim (bind_err (entries tests (body tests 63) (suc (length c.0)) [] c.0) (λ es. ended a.0.0 b.0.0 es.0 es.1) s c.2) [
                          | inl h ↦
                              blamed_found ts s (within ts c.0 a.0.0 b.0.0 s opened
                              (entries_blame tests are 2 63 (body tests 63) (body_takes tests 63) (body_blames tests are 63 2 (omega arith)) (suc (length c.0))
                              []
                              c.0 s (omega arith) h))
                          | inr d ↦
                              let t = entries_take tests 63 (body tests 63) (body_takes tests 63) (suc (length c.0)) [] c.0 d.0 d.1 in
                              ended_found ts d.0.1 a.0.0 b.0.0 d.0.0 s t.form (opened ∙ ap (λ ms. Text a.0.0 ∷ head_marks b.0.0 (LeftBrace ∷ ms)) t.spelled) d.2
                        ]
                  ]
            ]
      ]

  -- If reading stops, the tokens have its error, in its line.
  pub stop_is_fault : (ts : List Token) (end : ℕ) (s : Stop) → bundle tests ts ≡ Err s → IsFault ts end s.kind (line_at end s.rest)
  stop_is_fault ts end s e =
      let f = bundle_found ts s e in
      let tokens = bundle_ends tests ts s e in
      let same : marks tokens.0 ≡ f.0 =
      append_cancel_right (marks tokens.0) f.0 (marks s.rest) (sym (map-append (λ (t : Token). t.what) tokens.0 s.rest) ∙ ap marks (sym tokens.1) ∙ f.1) in
      inl (tokens.0, s.rest, tokens.1, subst (λ (front : List Mark). HasFault s.kind front (marks s.rest)) (sym same) f.2, refl)
