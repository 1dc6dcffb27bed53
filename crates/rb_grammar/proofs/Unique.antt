-- Proves that a spelling has one form, whatever follows it.
use Rattle.std.proofs.Common.{◌≡◌, ℕ, Bool, true, false, List, [], ◌∷◌, Option, Some, None, refl, sym, ap, subst, ◌∙◌}
use Rattle.rb_lexer.specs.declared.token.Mark.{Mark}
use Rattle.rb_lexer.specs.declared.token.Mark.TheVariants.{Text, LeftBrace, RightBrace, Colon, Comma}
use Rattle.rb_grammar.specs.Form.{Head, untyped, plain_table, no_fallback_table, Leaf, string, alias, binary, int, ints, Body, plain, group, listed, leaf}
use Rattle.rb_grammar.specs.Form.{table, array, Entries, no_entries, entry, Elements, no_elements, one_text, one_body, table_word, array_word, comma_marks}
use Rattle.rb_grammar.specs.Form.{text_marks, numbers_marks, leaf_word, leaf_inner, body_marks, entries_marks, elements_marks, bundle_marks, AreSome}
use Rattle.rb_grammar.specs.Form.{BeginArray, IsForm, AreForms, EachIsForm}
use Rattle.rb_grammar.specs.Reading.{Word, string_type, alias_type, binary_type, int_type, ints_type, table_type, array_type, word_units, first_word, all_words}

-- ---- first marks

abbrev pub starts_comma : List Mark → Bool
starts_comma [] = false
starts_comma (Comma ∷ ms) = true
starts_comma (m ∷ ms) = false

-- a mark that begins a body
abbrev pub IsOpening : Mark → Type 0
IsOpening LeftBrace = Unit {0}
IsOpening Colon = Unit {0}
IsOpening m = ⊥

pub record Opens (ms : List Mark) : Type 0 where
  pub first : Mark
  pub others : List Mark
  pub is : ms ≡ first ∷ others
  pub opening : IsOpening first

pub body_opens : (b : Body) (ms : List Mark) → Opens (body_marks b ms)
body_opens (plain s) ms = record { first = LeftBrace; others = Text s ∷ RightBrace ∷ ms; is = refl; opening = tt }
body_opens (group es) ms = record { first = LeftBrace; others = entries_marks es (RightBrace ∷ ms); is = refl; opening = tt }
body_opens (listed xs) ms = record { first = LeftBrace; others = elements_marks xs (RightBrace ∷ ms); is = refl; opening = tt }
body_opens (leaf l) ms = record { first = Colon; others = Text (leaf_word l) ∷ LeftBrace ∷ leaf_inner l (RightBrace ∷ ms); is = refl; opening = tt }
body_opens (table es) ms = record { first = Colon; others = Text table_word ∷ LeftBrace ∷ entries_marks es (RightBrace ∷ ms); is = refl; opening = tt }
body_opens (array xs) ms = record { first = Colon; others = Text array_word ∷ LeftBrace ∷ elements_marks xs (RightBrace ∷ ms); is = refl; opening = tt }

-- another mark begins no body
pub not_opening : (b : Body) (ms rest : List Mark) (m : Mark) → (IsOpening m → ⊥) → m ∷ rest ≡ body_marks b ms → ⊥
not_opening b ms rest m other e = let h = body_opens b ms in let same : h.first ∷ h.others ≡ m ∷ rest = sym (e ∙ h.is) in
    other (subst IsOpening (heads h.first m h.others rest same) h.opening) where
      heads : (x y : Mark) (xs ys : List Mark) → x ∷ xs ≡ y ∷ ys → x ≡ y
      heads x y xs ys e = cc

no_comma_body : (b : Body) (ms : List Mark) → starts_comma (body_marks b ms) ≡ false
no_comma_body (plain s) ms = refl
no_comma_body (group es) ms = refl
no_comma_body (listed xs) ms = refl
no_comma_body (leaf l) ms = refl
no_comma_body (table es) ms = refl
no_comma_body (array xs) ms = refl

pub no_comma_entries : (es : Entries) (ms : List Mark) → starts_comma (entries_marks es (RightBrace ∷ ms)) ≡ false
no_comma_entries no_entries ms = refl
no_comma_entries (entry k b c es) ms = refl

pub no_comma_elements : (xs : Elements) (ms : List Mark) → starts_comma (elements_marks xs (RightBrace ∷ ms)) ≡ false
no_comma_elements no_elements ms = refl
no_comma_elements (one_text s c xs) ms = refl
no_comma_elements (one_body b c xs) ms = no_comma_body b (comma_marks c (elements_marks xs (RightBrace ∷ ms)))

pub no_comma_numbers : (ns : List (List ℕ × Bool)) (ms : List Mark) → starts_comma (numbers_marks ns (RightBrace ∷ ms)) ≡ false
no_comma_numbers [] ms = refl
no_comma_numbers (n ∷ ns) ms = refl

pub comma_one : (c d : Bool) (xs ys : List Mark) → starts_comma xs ≡ false → starts_comma ys ≡ false → comma_marks c xs ≡ comma_marks d ys → (c ≡ d) × (xs ≡ ys)
comma_one true true xs ys p q e = (refl, cc)
comma_one false false xs ys p q e = (refl, e)
comma_one true false xs ys p q e = let bad : true ≡ false = ap starts_comma e ∙ q in absurd cc
comma_one false true xs ys p q e = let bad : true ≡ false = ap starts_comma (sym e) ∙ p in absurd cc

-- ---- type words

pub word_found : (w : Word) → first_word (word_units w) all_words ≡ Some w
word_found string_type = refl
word_found alias_type = refl
word_found (binary_type true) = refl
word_found (binary_type false) = refl
word_found (int_type true) = refl
word_found (int_type false) = refl
word_found ints_type = refl
word_found table_type = refl
word_found array_type = refl

some_word : (v w : Word) → ◌≡◌ {A = Option Word} (Some v) (Some w) → v ≡ w
some_word v w e = cc

-- no two types have one word
pub word_one : (v w : Word) → word_units v ≡ word_units w → v ≡ w
word_one v w e = some_word v w (sym (word_found v) ∙ ap (λ s. first_word s all_words) e ∙ word_found w)

abbrev pub leaf_type : Leaf → Word
leaf_type (string t) = string_type
leaf_type (alias t) = alias_type
leaf_type (binary long t) = binary_type long
leaf_type (int long t) = int_type long
leaf_type (ints ns) = ints_type

pub leaf_typed : (l : Leaf) → leaf_word l ≡ word_units (leaf_type l)
leaf_typed (string t) = refl
leaf_typed (alias t) = refl
leaf_typed (binary long t) = refl
leaf_typed (int long t) = refl
leaf_typed (ints ns) = refl

typed_parts : (s r : List ℕ) (xs ys : List Mark) → Colon ∷ Text s ∷ LeftBrace ∷ xs ≡ Colon ∷ Text r ∷ LeftBrace ∷ ys → (s ≡ r) × (xs ≡ ys)
typed_parts s r xs ys e = (cc, cc)

types : (v w : Word) (s r : List ℕ) → s ≡ word_units v → r ≡ word_units w → s ≡ r → v ≡ w
types v w s r p q e = word_one v w (sym p ∙ e ∙ q)

-- ---- leaves

text_one : (t u : Option (List ℕ)) (xs ys : List Mark) → text_marks t (RightBrace ∷ xs) ≡ text_marks u (RightBrace ∷ ys) → (t ≡ u) × (xs ≡ ys)
text_one None None xs ys e = (refl, cc)
text_one None (Some u) xs ys e = absurd cc
text_one (Some t) None xs ys e = absurd cc
text_one (Some t) (Some u) xs ys e = let same : t ≡ u = cc in (ap (λ s. Some s) same, cc)

numbers_one : (ms ns : List (List ℕ × Bool)) (xs ys : List Mark) → numbers_marks ms (RightBrace ∷ xs) ≡ numbers_marks ns (RightBrace ∷ ys)
    → (ms ≡ ns) × (xs ≡ ys)
numbers_one [] [] xs ys e = (refl, cc)
numbers_one [] (n ∷ ns) xs ys e = absurd cc
numbers_one (m ∷ ms) [] xs ys e = absurd cc
numbers_one (m ∷ ms) (n ∷ ns) xs ys e =
    let text : m.0 ≡ n.0 = cc in
    let h = comma_one m.1 n.1 (numbers_marks ms (RightBrace ∷ xs)) (numbers_marks ns (RightBrace ∷ ys)) (no_comma_numbers ms xs) (no_comma_numbers ns ys) cc in
    let o = numbers_one ms ns xs ys h.1 in
    (ap (λ (s : List ℕ). (s, m.1) ∷ ms) text ∙ ap (λ (c : Bool). (n.0, c) ∷ ms) h.0 ∙ ap (λ rest. (n.0, n.1) ∷ rest) o.0, o.1)

leaf_one : (l m : Leaf) (xs ys : List Mark) → leaf_type l ≡ leaf_type m → leaf_inner l (RightBrace ∷ xs) ≡ leaf_inner m (RightBrace ∷ ys) → (l ≡ m) × (xs ≡ ys)
leaf_one (string t) (string u) xs ys w e = let h = text_one t u xs ys e in (ap string h.0, h.1)
leaf_one (string t) (alias u) xs ys w e = absurd cc
leaf_one (string t) (binary true u) xs ys w e = absurd cc
leaf_one (string t) (binary false u) xs ys w e = absurd cc
leaf_one (string t) (int true u) xs ys w e = absurd cc
leaf_one (string t) (int false u) xs ys w e = absurd cc
leaf_one (string t) (ints u) xs ys w e = absurd cc
leaf_one (alias t) (string u) xs ys w e = absurd cc
leaf_one (alias t) (alias u) xs ys w e = let h = text_one t u xs ys e in (ap alias h.0, h.1)
leaf_one (alias t) (binary true u) xs ys w e = absurd cc
leaf_one (alias t) (binary false u) xs ys w e = absurd cc
leaf_one (alias t) (int true u) xs ys w e = absurd cc
leaf_one (alias t) (int false u) xs ys w e = absurd cc
leaf_one (alias t) (ints u) xs ys w e = absurd cc
leaf_one (binary true t) (string u) xs ys w e = absurd cc
leaf_one (binary true t) (alias u) xs ys w e = absurd cc
leaf_one (binary true t) (binary true u) xs ys w e = let h = text_one t u xs ys e in (ap (binary true) h.0, h.1)
leaf_one (binary true t) (binary false u) xs ys w e = absurd cc
leaf_one (binary true t) (int true u) xs ys w e = absurd cc
leaf_one (binary true t) (int false u) xs ys w e = absurd cc
leaf_one (binary true t) (ints u) xs ys w e = absurd cc
leaf_one (binary false t) (string u) xs ys w e = absurd cc
leaf_one (binary false t) (alias u) xs ys w e = absurd cc
leaf_one (binary false t) (binary true u) xs ys w e = absurd cc
leaf_one (binary false t) (binary false u) xs ys w e = let h = text_one t u xs ys e in (ap (binary false) h.0, h.1)
leaf_one (binary false t) (int true u) xs ys w e = absurd cc
leaf_one (binary false t) (int false u) xs ys w e = absurd cc
leaf_one (binary false t) (ints u) xs ys w e = absurd cc
leaf_one (int true t) (string u) xs ys w e = absurd cc
leaf_one (int true t) (alias u) xs ys w e = absurd cc
leaf_one (int true t) (binary true u) xs ys w e = absurd cc
leaf_one (int true t) (binary false u) xs ys w e = absurd cc
leaf_one (int true t) (int true u) xs ys w e = let same : t ≡ u = cc in (ap (int true) same, cc)
leaf_one (int true t) (int false u) xs ys w e = absurd cc
leaf_one (int true t) (ints u) xs ys w e = absurd cc
leaf_one (int false t) (string u) xs ys w e = absurd cc
leaf_one (int false t) (alias u) xs ys w e = absurd cc
leaf_one (int false t) (binary true u) xs ys w e = absurd cc
leaf_one (int false t) (binary false u) xs ys w e = absurd cc
leaf_one (int false t) (int true u) xs ys w e = absurd cc
leaf_one (int false t) (int false u) xs ys w e = let same : t ≡ u = cc in (ap (int false) same, cc)
leaf_one (int false t) (ints u) xs ys w e = absurd cc
leaf_one (ints t) (string u) xs ys w e = absurd cc
leaf_one (ints t) (alias u) xs ys w e = absurd cc
leaf_one (ints t) (binary true u) xs ys w e = absurd cc
leaf_one (ints t) (binary false u) xs ys w e = absurd cc
leaf_one (ints t) (int true u) xs ys w e = absurd cc
leaf_one (ints t) (int false u) xs ys w e = absurd cc
leaf_one (ints t) (ints u) xs ys w e = let h = numbers_one t u xs ys e in (ap ints h.0, h.1)

pub not_table : (l : Leaf) → leaf_type l ≡ table_type → ⊥
not_table (string t) w = cc
not_table (alias t) w = cc
not_table (binary true t) w = cc
not_table (binary false t) w = cc
not_table (int true t) w = cc
not_table (int false t) w = cc
not_table (ints t) w = cc

pub table_array : table_type ≡ array_type → ⊥
table_array e = cc

pub not_array : (l : Leaf) → leaf_type l ≡ array_type → ⊥
not_array (string t) w = cc
not_array (alias t) w = cc
not_array (binary true t) w = cc
not_array (binary false t) w = cc
not_array (int true t) w = cc
not_array (int false t) w = cc
not_array (ints t) w = cc

-- ---- the guess: entries, elements and one text begin apart

text_not_entries : (s : List ℕ) (es : Entries) (xs ys : List Mark) → AreSome es → Text s ∷ RightBrace ∷ xs ≡ entries_marks es ys → ⊥
text_not_entries s no_entries xs ys some e = some
text_not_entries s (entry k b c es) xs ys some e = not_opening b (comma_marks c (entries_marks es ys)) xs RightBrace (λ h. h) cc

text_not_elements : (s : List ℕ) (es : Elements) (xs ys : List Mark) → BeginArray es → Text s ∷ RightBrace ∷ xs ≡ elements_marks es (RightBrace ∷ ys) → ⊥
text_not_elements s no_elements xs ys begin e = cc
text_not_elements s (one_text r true es) xs ys begin e = cc
text_not_elements s (one_text r false es) xs ys begin e = cc
text_not_elements s (one_body b c es) xs ys begin e = not_opening b (comma_marks c (elements_marks es (RightBrace ∷ ys))) (RightBrace ∷ xs) (Text s) (λ h. h) e

entries_not_elements : (es : Entries) (fs : Elements) (xs ys : List Mark) → AreSome es → BeginArray fs
    → entries_marks es xs ≡ elements_marks fs (RightBrace ∷ ys) → ⊥
entries_not_elements no_entries fs xs ys some begin e = some
entries_not_elements (entry k b c es) no_elements xs ys some begin e = cc
entries_not_elements (entry k b c es) (one_text r true fs) xs ys some begin e =
    not_opening b (comma_marks c (entries_marks es xs)) (elements_marks fs (RightBrace ∷ ys)) Comma (λ h. h) cc
entries_not_elements (entry k b c es) (one_text r false fs) xs ys some begin e = cc
entries_not_elements (entry k b c es) (one_body d f fs) xs ys some begin e =
    not_opening d (comma_marks f (elements_marks fs (RightBrace ∷ ys))) (body_marks b (comma_marks c (entries_marks es xs))) (Text k) (λ h. h) e

mutual
  pub body_one : (b c : Body) (xs ys : List Mark) → IsForm b → IsForm c → body_marks b xs ≡ body_marks c ys → (b ≡ c) × (xs ≡ ys)
  body_one (plain s) (plain r) xs ys p q e = let same : s ≡ r = cc in (ap plain same, cc)
  body_one (plain s) (group fs) xs ys p q e = absurd (text_not_entries s fs xs (RightBrace ∷ ys) q.0 cc)
  body_one (plain s) (listed fs) xs ys p q e = absurd (text_not_elements s fs xs ys q.0 cc)
  body_one (plain s) (leaf m) xs ys p q e = absurd cc
  body_one (plain s) (table fs) xs ys p q e = absurd cc
  body_one (plain s) (array fs) xs ys p q e = absurd cc
  body_one (group es) (plain r) xs ys p q e = absurd (text_not_entries r es ys (RightBrace ∷ xs) p.0 (sym cc))
  body_one (group es) (group fs) xs ys p q e = let h = entries_one es fs xs ys p.1 q.1 cc in (ap group h.0, h.1)
  body_one (group es) (listed fs) xs ys p q e = absurd (entries_not_elements es fs (RightBrace ∷ xs) ys p.0 q.0 cc)
  body_one (group es) (leaf m) xs ys p q e = absurd cc
  body_one (group es) (table fs) xs ys p q e = absurd cc
  body_one (group es) (array fs) xs ys p q e = absurd cc
  body_one (listed es) (plain r) xs ys p q e = absurd (text_not_elements r es ys xs p.0 (sym cc))
  body_one (listed es) (group fs) xs ys p q e = absurd (entries_not_elements fs es (RightBrace ∷ ys) xs q.0 p.0 (sym cc))
  body_one (listed es) (listed fs) xs ys p q e = let h = elements_one es fs xs ys p.1 q.1 cc in (ap listed h.0, h.1)
  body_one (listed es) (leaf m) xs ys p q e = absurd cc
  body_one (listed es) (table fs) xs ys p q e = absurd cc
  body_one (listed es) (array fs) xs ys p q e = absurd cc
  body_one (leaf l) (plain r) xs ys p q e = absurd cc
  body_one (leaf l) (group fs) xs ys p q e = absurd cc
  body_one (leaf l) (listed fs) xs ys p q e = absurd cc
  body_one (leaf l) (leaf m) xs ys p q e = let w =
      typed_parts (leaf_word l) (leaf_word m) (leaf_inner l (RightBrace ∷ xs)) (leaf_inner m (RightBrace ∷ ys)) e in let h =
      leaf_one l m xs ys (types (leaf_type l) (leaf_type m) (leaf_word l) (leaf_word m) (leaf_typed l) (leaf_typed m) w.0) w.1 in (ap leaf h.0, h.1)
  body_one (leaf l) (table fs) xs ys p q e = let w =
      typed_parts (leaf_word l) table_word (leaf_inner l (RightBrace ∷ xs)) (entries_marks fs (RightBrace ∷ ys)) e in
      absurd (not_table l (types (leaf_type l) table_type (leaf_word l) table_word (leaf_typed l) refl w.0))
  body_one (leaf l) (array fs) xs ys p q e = let w =
      typed_parts (leaf_word l) array_word (leaf_inner l (RightBrace ∷ xs)) (elements_marks fs (RightBrace ∷ ys)) e in
      absurd (not_array l (types (leaf_type l) array_type (leaf_word l) array_word (leaf_typed l) refl w.0))
  body_one (table es) (plain r) xs ys p q e = absurd cc
  body_one (table es) (group fs) xs ys p q e = absurd cc
  body_one (table es) (listed fs) xs ys p q e = absurd cc
  body_one (table es) (leaf m) xs ys p q e = let w =
      typed_parts table_word (leaf_word m) (entries_marks es (RightBrace ∷ xs)) (leaf_inner m (RightBrace ∷ ys)) e in
      absurd (not_table m (sym (types table_type (leaf_type m) table_word (leaf_word m) refl (leaf_typed m) w.0)))
  body_one (table es) (table fs) xs ys p q e = let w =
      typed_parts table_word table_word (entries_marks es (RightBrace ∷ xs)) (entries_marks fs (RightBrace ∷ ys)) e in let h =
      entries_one es fs xs ys p q w.1 in (ap table h.0, h.1)
  body_one (table es) (array fs) xs ys p q e = let w =
      typed_parts table_word array_word (entries_marks es (RightBrace ∷ xs)) (elements_marks fs (RightBrace ∷ ys)) e in
      absurd (table_array (types table_type array_type table_word array_word refl refl w.0))
  body_one (array es) (plain r) xs ys p q e = absurd cc
  body_one (array es) (group fs) xs ys p q e = absurd cc
  body_one (array es) (listed fs) xs ys p q e = absurd cc
  body_one (array es) (leaf m) xs ys p q e = let w =
      typed_parts array_word (leaf_word m) (elements_marks es (RightBrace ∷ xs)) (leaf_inner m (RightBrace ∷ ys)) e in
      absurd (not_array m (sym (types array_type (leaf_type m) array_word (leaf_word m) refl (leaf_typed m) w.0)))
  body_one (array es) (table fs) xs ys p q e = let w =
      typed_parts array_word table_word (elements_marks es (RightBrace ∷ xs)) (entries_marks fs (RightBrace ∷ ys)) e in
      absurd (table_array (sym (types array_type table_type array_word table_word refl refl w.0)))
  body_one (array es) (array fs) xs ys p q e = let w =
      typed_parts array_word array_word (elements_marks es (RightBrace ∷ xs)) (elements_marks fs (RightBrace ∷ ys)) e in let h =
      elements_one es fs xs ys p q w.1 in (ap array h.0, h.1)

  pub entries_one : (es fs : Entries) (xs ys : List Mark) → AreForms es → AreForms fs → entries_marks es (RightBrace ∷ xs) ≡ entries_marks fs (RightBrace ∷ ys)
      → (es ≡ fs) × (xs ≡ ys)
  entries_one no_entries no_entries xs ys p q e = (refl, cc)
  entries_one no_entries (entry k b c es) xs ys p q e = absurd cc
  entries_one (entry k b c es) no_entries xs ys p q e = absurd cc
  entries_one (entry k b c es) (entry l d f gs) xs ys p q e =
      let key : k ≡ l = cc in
      let h = body_one b d (comma_marks c (entries_marks es (RightBrace ∷ xs))) (comma_marks f (entries_marks gs (RightBrace ∷ ys))) p.0 q.0 cc in
      let g = comma_one c f (entries_marks es (RightBrace ∷ xs)) (entries_marks gs (RightBrace ∷ ys)) (no_comma_entries es xs) (no_comma_entries gs ys) h.1 in
      let o = entries_one es gs xs ys p.1 q.1 g.1 in
      (ap (λ q. entry q b c es) key ∙ ap (λ q. entry l q c es) h.0 ∙ ap (λ q. entry l d q es) g.0 ∙ ap (λ q. entry l d f q) o.0, o.1)

  pub elements_one : (es fs : Elements) (xs ys : List Mark) → EachIsForm es → EachIsForm fs
      → elements_marks es (RightBrace ∷ xs) ≡ elements_marks fs (RightBrace ∷ ys) → (es ≡ fs) × (xs ≡ ys)
  elements_one no_elements no_elements xs ys p q e = (refl, cc)
  elements_one no_elements (one_text s c fs) xs ys p q e = absurd cc
  elements_one no_elements (one_body b c fs) xs ys p q e = absurd (not_opening b (comma_marks c (elements_marks fs (RightBrace ∷ ys))) xs RightBrace (λ h. h) e)
  elements_one (one_text s c es) no_elements xs ys p q e = absurd cc
  elements_one (one_body b c es) no_elements xs ys p q e =
      absurd (not_opening b (comma_marks c (elements_marks es (RightBrace ∷ xs))) ys RightBrace (λ h. h) (sym e))
  elements_one (one_text s c es) (one_body b d fs) xs ys p q e =
      absurd (not_opening b (comma_marks d (elements_marks fs (RightBrace ∷ ys))) (comma_marks c (elements_marks es (RightBrace ∷ xs))) (Text s) (λ h. h) e)
  elements_one (one_body b d es) (one_text s c fs) xs ys p q e =
      absurd (not_opening b (comma_marks d (elements_marks es (RightBrace ∷ xs))) (comma_marks c (elements_marks fs (RightBrace ∷ ys))) (Text s) (λ h. h)
      (sym e))
  elements_one (one_text s c es) (one_text r d fs) xs ys p q e =
      let text : s ≡ r = cc in
      let g =
      comma_one c d (elements_marks es (RightBrace ∷ xs)) (elements_marks fs (RightBrace ∷ ys)) (no_comma_elements es xs) (no_comma_elements fs ys) cc in
      let o = elements_one es fs xs ys p q g.1 in
      (ap (λ q. one_text q c es) text ∙ ap (λ q. one_text r q es) g.0 ∙ ap (λ q. one_text r d q) o.0, o.1)
  elements_one (one_body b c es) (one_body a d fs) xs ys p q e =
      let h = body_one b a (comma_marks c (elements_marks es (RightBrace ∷ xs))) (comma_marks d (elements_marks fs (RightBrace ∷ ys))) p.0 q.0 e in
      let g =
      comma_one c d (elements_marks es (RightBrace ∷ xs)) (elements_marks fs (RightBrace ∷ ys)) (no_comma_elements es xs) (no_comma_elements fs ys) h.1 in
      let o = elements_one es fs xs ys p.1 q.1 g.1 in
      (ap (λ q. one_body q c es) h.0 ∙ ap (λ q. one_body a q es) g.0 ∙ ap (λ q. one_body a d q) o.0, o.1)

-- One list of marks is at most one bundle.
pub bundle_one : (m n : List ℕ) (c d : Head) (es fs : Entries) → AreForms es → AreForms fs → bundle_marks m c es ≡ bundle_marks n d fs
    → (m ≡ n) × (c ≡ d) × (es ≡ fs)
bundle_one m n untyped untyped es fs p q e = let name : m ≡ n = cc in let h = entries_one es fs [] [] p q cc in (name, refl, h.0)
bundle_one m n plain_table plain_table es fs p q e = let name : m ≡ n = cc in let h = entries_one es fs [] [] p q cc in (name, refl, h.0)
bundle_one m n no_fallback_table no_fallback_table es fs p q e = let name : m ≡ n = cc in let h = entries_one es fs [] [] p q cc in (name, refl, h.0)
bundle_one m n untyped plain_table es fs p q e = absurd cc
bundle_one m n untyped no_fallback_table es fs p q e = absurd cc
bundle_one m n plain_table untyped es fs p q e = absurd cc
bundle_one m n plain_table no_fallback_table es fs p q e = absurd cc
bundle_one m n no_fallback_table untyped es fs p q e = absurd cc
bundle_one m n no_fallback_table plain_table es fs p q e = absurd cc
