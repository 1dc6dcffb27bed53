-- Proves that a list of marks is either good or has an error.
use Rattle.std.proofs.Common.{◌≡◌, ℕ, ℤ, suc, ◌+◌, ◌≤◌, Bool, List, [], ◌∷◌, ◌++◌, Option, Some, None, Result, Ok, Err, refl, sym, ap, subst, ◌∙◌, arith}
use Rattle.std.proofs.Common.{append_assoc, ◌⊎◌, inl, inr}
use Rattle.std.proofs.lemmas.Bool.Decides.{leb_tells}
use Rattle.std.proofs.lemmas.List.{append-nil, map-append}
use Rattle.rb_lexer.specs.declared.fault.SourceKind.{SourceKind}
use Rattle.rb_lexer.specs.declared.fault.SourceKind.TheVariants.{Unexpected, UnknownType, BadKey, DuplicateKey, BadInt, BadHex, TooDeep, TrailingText, TooLarge}
use Rattle.rb_lexer.specs.declared.token.Token.{Token}
use Rattle.rb_lexer.specs.declared.token.Mark.{Mark}
use Rattle.rb_lexer.specs.declared.token.Mark.TheVariants.{Text, RightBrace}
use Rattle.rb_tree.specs.Resource.{Resource, height, weight, Resources, Members}
use Rattle.rb_tree.specs.Keys.{IsKey}
use Rattle.rb_tree.specs.SourceTree.{SourceTree}
use Rattle.rb_grammar.specs.Numeral.{IsIntText, IsElementText, IsHexText}
use Rattle.rb_grammar.specs.Form.{marks, Head, Leaf, string, alias, binary, int, ints, Body, plain, group, listed, leaf, table, array, Entries, no_entries}
use Rattle.rb_grammar.specs.Form.{entry, Elements, no_elements, one_text, one_body, comma_marks, entries_marks, elements_marks, IsKeyOf}
use Rattle.rb_grammar.specs.Good.{HasKeys, HaveKeys, EachHasKeys, text_or_none, AreElementTexts, LeafSpells, Spells, EachAtItsKey, EachSpells, IsSpelled}
use Rattle.rb_grammar.specs.Good.{IsGood}
use Rattle.rb_grammar.specs.Faults.{key, value, int_text, element_text, hex_text, IsAmong, NumbersHave, BytesHave, LeafHas, BodyHas, EntriesHas, ElementsHave}
use Rattle.rb_grammar.specs.Faults.{IsBad, IsBundle, Begun, IsFront, Breaks, HasFault, line_at, IsFault}
use Rattle.rb_grammar.specs.Reading.{Stop, Tests, bundle}
use Rattle.rb_grammar.specs.Tests.{AreTests}
use Rattle.rb_grammar.proofs.Fault.{stop_is_fault}
use Rattle.rb_grammar.proofs.Meaning.{spelled_one, read_spelled}
use Rattle.rb_grammar.proofs.Trees.{tree_height}
use Rattle.rb_grammar.proofs.Height.{body_height, entries_height, elements_height}

-- ---- what breaks a condition

bad_key : (kind : SourceKind) (earlier : List (List ℕ)) (k : List ℕ) → IsBad kind (key earlier k) → (IsKey k → ⊥) ⊎ IsAmong earlier k
bad_key BadKey earlier k h = inl h
bad_key DuplicateKey earlier k h = inr h
bad_key kind earlier k h = absurd h

bad_value : (kind : SourceKind) (level : ℕ) → IsBad kind (value level) → level ≡ 65
bad_value TooDeep level h = h
bad_value kind level h = absurd h

bad_int : (kind : SourceKind) (s : List ℕ) → IsBad kind (int_text s) → (n : ℕ) → IsIntText s n → ⊥
bad_int BadInt s h = h
bad_int kind s h = absurd h

bad_element : (kind : SourceKind) (s : List ℕ) → IsBad kind (element_text s) → (z : ℤ) → IsElementText s z → ⊥
bad_element BadInt s h = h
bad_element kind s h = absurd h

bad_bytes : (kind : SourceKind) (s : List ℕ) → IsBad kind (hex_text s) → (bytes : List ℕ) → IsHexText s bytes → ⊥
bad_bytes BadHex s h = h
bad_bytes kind s h = absurd h

-- ---- nothing in a good form does

module _ (kind : SourceKind) where
  good_numbers : (ns : List (List ℕ × Bool)) (zs : List ℤ) (after from : List Mark) → AreElementTexts ns zs → NumbersHave (IsBad kind) ns after from → ⊥
  good_numbers [] zs after from are h = h
  good_numbers (n ∷ ns) [] after from are h = are
  good_numbers (n ∷ ns) (z ∷ zs) after from are (inl h) = bad_element kind n.0 h.1 z are.0
  good_numbers (n ∷ ns) (z ∷ zs) after from are (inr h) = good_numbers ns zs after from are.1 h

  good_bytes : (t : Option (List ℕ)) (bytes : List ℕ) (after from : List Mark) → IsHexText (text_or_none t) bytes → BytesHave (IsBad kind) t after from → ⊥
  good_bytes None bytes after from is h = h
  good_bytes (Some s) bytes after from is h = bad_bytes kind s h.1 bytes is

  good_leaf : (l : Leaf) (d : Resource) (after from : List Mark) → LeafSpells l d → LeafHas (IsBad kind) l after from → ⊥
  good_leaf (string t) d after from is h = h
  good_leaf (alias t) d after from is h = h
  good_leaf (binary long t) d after from is h = good_bytes t is.0 after from is.1 h
  good_leaf (int long s) d after from is h = bad_int kind s h.1 is.0 is.1
  good_leaf (ints ns) d after from is h = good_numbers ns is.0 after from is.1 h

  not_deep : (level n : ℕ) → level + suc n ≤ 65 → IsBad kind (value level) → ⊥
  not_deep level n low h = let deep = bad_value kind level h in absurd (omega arith)

  abbrev AreNew : Entries → List (List ℕ) → Type 0
  AreNew es earlier = (q : List ℕ) → IsKeyOf es q → IsAmong earlier q → ⊥

  still_new : (k : List ℕ) (b : Body) (c : Bool) (es : Entries) (earlier : List (List ℕ)) → (IsKeyOf es k → ⊥) → AreNew (entry k b c es) earlier
      → AreNew es (k ∷ earlier)
  still_new k b c es earlier once new q h (inl same) = once (subst (IsKeyOf es) same h)
  still_new k b c es earlier once new q h (inr among) = new q (inr h) among

  mutual
    good_body : (b : Body) (d : Resource) (level : ℕ) (after from : List Mark) → HasKeys b → Spells b d → level + body_height b ≤ 65
        → BodyHas (IsBad kind) b level after from → ⊥
    good_body (plain s) d level after from keys is low h = not_deep level 0 low h.1
    good_body (group es) d level after from keys is low (inl h) = not_deep level (entries_height es) low h.1
    good_body (group es) d level after from keys is low (inr h) =
        good_entries es is.0 (suc level) [] (RightBrace ∷ after) from keys is.4 (omega arith) (λ q h among. among) h
    good_body (listed xs) d level after from keys is low (inl h) = not_deep level (elements_height xs) low h.1
    good_body (listed xs) d level after from keys is low (inr h) = good_elements xs is.0 (suc level) (RightBrace ∷ after) from keys is.2 (omega arith) h
    good_body (leaf l) d level after from keys is low (inl h) = not_deep level 0 low h.1
    good_body (leaf l) d level after from keys is low (inr h) = good_leaf l d (RightBrace ∷ after) from is h
    good_body (table es) d level after from keys is low (inl h) = not_deep level (entries_height es) low h.1
    good_body (table es) d level after from keys is low (inr h) =
        good_entries es is.0 (suc level) [] (RightBrace ∷ after) from keys is.4 (omega arith) (λ q h among. among) h
    good_body (array xs) d level after from keys is low (inl h) = not_deep level (elements_height xs) low h.1
    good_body (array xs) d level after from keys is low (inr h) = good_elements xs is.0 (suc level) (RightBrace ∷ after) from keys is.2 (omega arith) h

    pub good_entries : (es : Entries) (rows : Members) (level : ℕ) (earlier : List (List ℕ)) (after from : List Mark) → HaveKeys es → EachAtItsKey es rows
        → level + entries_height es ≤ 65 → AreNew es earlier
        → EntriesHas (IsBad kind) es level earlier after from → ⊥
    good_entries no_entries rows level earlier after from keys is low new h = h
    good_entries (entry k b c es) rows level earlier after from keys is low new (inl h) =
        elim (bad_key kind earlier k h.1) [ inl bad ↦ bad keys.0 | inr among ↦ new k (inl refl) among ]
    good_entries (entry k b c es) rows level earlier after from keys is low new (inr (inl h)) =
        good_body b is.0.0 level (comma_marks c (entries_marks es after)) from keys.2 is.0.2 (omega arith) h
    good_entries (entry k b c es) rows level earlier after from keys is low new (inr (inr h)) =
        good_entries es rows level (k ∷ earlier) after from keys.3 is.1 (omega arith) (still_new k b c es earlier keys.1 new) h

    good_elements : (xs : Elements) (ts : Resources) (level : ℕ) (after from : List Mark) → EachHasKeys xs → EachSpells xs ts → level + elements_height xs ≤ 65
        → ElementsHave (IsBad kind) xs level after from → ⊥
    good_elements no_elements ts level after from keys is low h = h
    good_elements (one_text s c xs) ts level after from keys is low (inl h) = not_deep level 0 (omega arith) h.1
    good_elements (one_text s c xs) ts level after from keys is low (inr h) = good_elements xs is.0 level after from keys is.2 (omega arith) h
    good_elements (one_body b c xs) ts level after from keys is low (inl h) =
        good_body b is.0 level (comma_marks c (elements_marks xs after)) from keys.0 is.3 (omega arith) h
    good_elements (one_body b c xs) ts level after from keys is low (inr h) = good_elements xs is.1 level after from keys.1 is.4 (omega arith) h

-- ---- good marks have no error

module _ (ms : List Mark) (name : List ℕ) (d : SourceTree) (whole : IsSpelled ms name d) (low : height d.tree ≤ 64) (front rest : List Mark)
    (cut : ms ≡ front ++ rest) where
  -- a proper front of a bundle has a next mark
  not_longest : (m : Mark) (more : List Mark) → rest ≡ m ∷ more → IsFront front rest → ⊥
  not_longest m more e f = f.longest m more e (record {
    name = name;
    head = whole.head;
    form = whole.form;
    more = more;
    good = whole.good;
    whole = append_assoc front (m ∷ []) more ∙ ap (λ xs. front ++ xs) (sym e) ∙ sym cut ∙ whole.spelled;
  })

  no_front : IsFront front rest → (rest ≡ [] → ⊥) → ⊥
  no_front f some = by rest refl where
    by : (xs : List Mark) → rest ≡ xs → ⊥
    by [] e = some e
    by (m ∷ more) e = not_longest m more e f

  is_bundle : rest ≡ [] → IsBundle front
  is_bundle none = (name, whole.head, whole.form, whole.good, sym (append-nil front) ∙ ap (λ xs. front ++ xs) (sym none) ∙ sym cut ∙ whole.spelled)

  -- all of the marks are the longest front
  all_begun : (at : Mark) (others : List Mark) → rest ≡ at ∷ others → Begun (front ++ at ∷ others)
  all_begun at others parts = record {
    name = name;
    head = whole.head;
    form = whole.form;
    more = [];
    good = whole.good;
    whole = append-nil (front ++ at ∷ others) ∙ ap (λ xs. front ++ xs) (sym parts) ∙ sym cut ∙ whole.spelled;
  }

  not_broken : (kind : SourceKind) → Breaks kind front rest → ⊥
  unfolding all_begun
  not_broken kind b =
      let high = tree_height (table whole.form) d.tree whole.means in
      let r = all_begun b.at b.others b.parts in
      let longest : IsFront (front ++ b.at ∷ b.others) [] = record { begun = r; longest = λ m ms e. absurd cc } in
      good_entries kind whole.form whole.means.0 2 [] (RightBrace ∷ []) (b.at ∷ (b.others ++ [])) whole.keys whole.means.4 (omega arith) (λ q h among. among)
      (b.each b.others [] (sym (append-nil b.others)) longest r)

  faultless : (kind : SourceKind) → HasFault kind front rest → ⊥
  faultless Unexpected h = no_front h.0 (λ none. h.1 (is_bundle none))
  faultless UnknownType h = no_front h.0 (λ none. let bad : [] ≡ Text h.1.word ∷ h.1.after = sym none ∙ h.1.text in cc)
  faultless TrailingText h = no_front h.0 h.2
  faultless BadKey h = not_broken BadKey h
  faultless DuplicateKey h = not_broken DuplicateKey h
  faultless BadInt h = not_broken BadInt h
  faultless BadHex h = not_broken BadHex h
  faultless TooDeep h = not_broken TooDeep h
  faultless kind h = h

pub good_faultless : (ts : List Token) (name : List ℕ) (d : SourceTree) (end : ℕ) (kind : SourceKind) (line : ℕ) → IsGood (marks ts) name d
    → IsFault ts end kind line → ⊥
good_faultless ts name d end kind line g (inl (front, rest, cut, h, l)) =
    faultless (marks ts) name d g.whole g.low (marks front) (marks rest) (ap marks cut ∙ map-append (λ (t : Token). t.what) front rest) kind h
good_faultless ts name d end kind line g (inr (is, large, l)) =
    let same = spelled_one (marks ts) name large.name d large.source g.whole large.whole in
    let light : weight large.source.tree ≤ 33554432 = subst (λ (s : SourceTree). weight s.tree ≤ 33554432) same.1 g.light in
    let heavy = large.heavy in
    absurd (omega arith)

-- ---- marks that are not good have one

abbrev pub Good : List Token → Type 0
Good ts = (name : List ℕ) × (source : SourceTree) × IsGood (marks ts) name source

abbrev pub Faulty : List Token → ℕ → Type 0
Faulty ts end = (kind : SourceKind) × (line : ℕ) × IsFault ts end kind line

pub good_or_faulty : (tests : Tests) (are : AreTests tests) (ts : List Token) (end : ℕ) → Good ts ⊎ Faulty ts end
good_or_faulty tests are ts end = by (bundle tests ts) refl where
  weighed : (name : List ℕ) (d : SourceTree) → IsSpelled (marks ts) name d → height d.tree ≤ 64 → Good ts ⊎ Faulty ts end
  weighed name d whole low = elim (leb_tells (weight d.tree) 33554432) [
    | inl h ↦ inl (name, d, record { whole = whole; low = low; light = h.1 })
    | inr h ↦ inr (TooLarge, 1, inr (refl, record { name = name; source = d; whole = whole; low = low; heavy = h.1 }, refl))
  ]

  by : (r : Result (List ℕ × Head × Entries) Stop) → bundle tests ts ≡ r → Good ts ⊎ Faulty ts end
  by (Ok (name, head, form)) e =
      let r = read_spelled tests are ts name head form e in
      weighed name r.source r.spelled r.low
  by (Err s) e = inr (s.kind, line_at end s.rest, stop_is_fault tests are ts end s e)
