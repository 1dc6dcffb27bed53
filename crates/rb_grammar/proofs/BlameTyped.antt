-- Stops after the brace of a body with a type.
use Rattle.std.proofs.Common.{◌≡◌, ℕ, suc, Bool, true, false, cond, List, [], ◌∷◌, ◌++◌, length, Option, Some, None, Ok, Err, refl, sym, ap, subst, ◌∙◌, arith}
use Rattle.std.proofs.Common.{inl, inr}
use Rattle.std.proofs.lemmas.List.{append-nil}
use Rattle.rb_lexer.specs.declared.fault.SourceKind.TheVariants.{Unexpected, BadInt, BadHex}
use Rattle.rb_lexer.specs.declared.token.Token.{Token}
use Rattle.rb_lexer.specs.declared.token.Mark.{Mark}
use Rattle.rb_lexer.specs.declared.token.Mark.TheVariants.{Text, LeftBrace, RightBrace, Colon}
use Rattle.rb_grammar.specs.Form.{marks, Leaf, string, alias, binary, int, ints, Body, plain, group, listed, leaf, table, array, Entries, Elements, table_word}
use Rattle.rb_grammar.specs.Form.{array_word, text_marks, leaf_word, leaf_inner, body_marks, entries_marks, elements_marks, IsForm}
use Rattle.rb_grammar.specs.Reading.{Stop, stop, ◌>>=◌, right, begins, tail, punctuation_at, text_at, first_text, Tests, Word, string_type, alias_type}
use Rattle.rb_grammar.specs.Reading.{binary_type, int_type, ints_type, table_type, array_type, word_units, checked_at, maybe_or, numbers, anything, Inner}
use Rattle.rb_grammar.specs.Reading.{table_at, array_at, closed, typed_at}
use Rattle.rb_grammar.specs.Tests.{AreTests}
use Rattle.rb_grammar.specs.Faults.{Role, int_text, BodyHas, LeafHas, IsBad}
use Rattle.rb_grammar.proofs.Blame.{Sort, Blame, tables, arrays, vectors, Blames, within, first_lacks, next_lacks, begins_bad, bind_err}
use Rattle.rb_grammar.proofs.BlameLists.{no_mark, no_text, text_colon, entries_blame}
use Rattle.rb_grammar.proofs.BlameElements.{elements_blame, numbers_blame}
use Rattle.rb_grammar.proofs.Guess.{Alike, not_text, not_mark}
use Rattle.rb_grammar.proofs.Marks.{text_read, text_first}
use Rattle.rb_grammar.proofs.Sound.{Law, bind_ok, guard_ok, ok_is}
use Rattle.rb_grammar.proofs.Unique.{word_one, leaf_type, leaf_typed, not_table, not_array}

-- ---- bodies with a type

abbrev pub body_word : Body → Option Word
body_word (plain s) = None
body_word (group es) = None
body_word (listed xs) = None
body_word (leaf l) = Some (leaf_type l)
body_word (table es) = Some table_type
body_word (array xs) = Some array_type

-- what is after the brace
abbrev pub inner_marks : Body → List Mark → List Mark
inner_marks (plain s) rest = Text s ∷ RightBrace ∷ rest
inner_marks (group es) rest = entries_marks es (RightBrace ∷ rest)
inner_marks (listed xs) rest = elements_marks xs (RightBrace ∷ rest)
inner_marks (leaf l) rest = leaf_inner l (RightBrace ∷ rest)
inner_marks (table es) rest = entries_marks es (RightBrace ∷ rest)
inner_marks (array xs) rest = elements_marks xs (RightBrace ∷ rest)

some_word : (v w : Word) → ◌≡◌ {A = Option Word} (Some v) (Some w) → v ≡ w
some_word v w e = cc

pub typed_spelled : (b : Body) (w : Word) (rest : List Mark) → body_word b ≡ Some w
    → body_marks b rest ≡ Colon ∷ Text (word_units w) ∷ LeftBrace ∷ inner_marks b rest
typed_spelled (plain s) w rest e = absurd cc
typed_spelled (group es) w rest e = absurd cc
typed_spelled (listed xs) w rest e = absurd cc
typed_spelled (leaf l) w rest e =
    ap (λ s. Colon ∷ Text s ∷ LeftBrace ∷ leaf_inner l (RightBrace ∷ rest)) (leaf_typed l ∙ ap word_units (some_word (leaf_type l) w e))
typed_spelled (table es) w rest e = ap (λ s. Colon ∷ Text s ∷ LeftBrace ∷ entries_marks es (RightBrace ∷ rest)) (ap word_units (some_word table_type w e))
typed_spelled (array xs) w rest e = ap (λ s. Colon ∷ Text s ∷ LeftBrace ∷ elements_marks xs (RightBrace ∷ rest)) (ap word_units (some_word array_type w e))

parts : (s r : List ℕ) (xs ys : List Mark) → Colon ∷ Text s ∷ xs ≡ Colon ∷ Text r ∷ ys → (s ≡ r) × (xs ≡ ys)
parts s r xs ys e = (cc, cc)

abbrev Typed : Body → Word → List Mark → List Mark → Type 0
Typed b w rest ms = (body_word b ≡ Some w) × (LeftBrace ∷ inner_marks b rest ≡ ms)

pub typed_of : (b : Body) (w : Word) (rest ms : List Mark) → body_marks b rest ≡ Colon ∷ Text (word_units w) ∷ ms → Typed b w rest ms
typed_of (plain s) w rest ms e = absurd cc
typed_of (group es) w rest ms e = absurd cc
typed_of (listed xs) w rest ms e = absurd cc
typed_of (leaf l) w rest ms e =
    let p = parts (leaf_word l) (word_units w) (LeftBrace ∷ leaf_inner l (RightBrace ∷ rest)) ms e in
    (ap (λ v. Some v) (word_one (leaf_type l) w (sym (leaf_typed l) ∙ p.0)), p.1)
typed_of (table es) w rest ms e = let p = parts table_word (word_units w) (LeftBrace ∷ entries_marks es (RightBrace ∷ rest)) ms e in
    (ap (λ v. Some v) (word_one table_type w p.0), p.1)
typed_of (array xs) w rest ms e = let p = parts array_word (word_units w) (LeftBrace ∷ elements_marks xs (RightBrace ∷ rest)) ms e in
    (ap (λ v. Some v) (word_one array_type w p.0), p.1)

is_string : (b : Body) → body_word b ≡ Some string_type → (t : Option (List ℕ)) × (b ≡ leaf (string t))
is_string (leaf (string t)) e = (t, refl)
is_string b e = absurd cc

is_alias : (b : Body) → body_word b ≡ Some alias_type → (t : Option (List ℕ)) × (b ≡ leaf (alias t))
is_alias (leaf (alias t)) e = (t, refl)
is_alias b e = absurd cc

binary_same : (a b : Bool) → ◌≡◌ {A = Option Word} (Some (binary_type a)) (Some (binary_type b)) → a ≡ b
binary_same a b e = cc

is_binary : (long : Bool) (b : Body) → body_word b ≡ Some (binary_type long) → (t : Option (List ℕ)) × (b ≡ leaf (binary long t))
is_binary long (leaf (binary other t)) e = (t, ap (λ x. leaf (binary x t)) (binary_same other long e))
is_binary long b e = absurd cc

int_same : (a b : Bool) → ◌≡◌ {A = Option Word} (Some (int_type a)) (Some (int_type b)) → a ≡ b
int_same a b e = cc

is_int : (long : Bool) (b : Body) → body_word b ≡ Some (int_type long) → (s : List ℕ) × (b ≡ leaf (int long s))
is_int long (leaf (int other s)) e = (s, ap (λ x. leaf (int x s)) (int_same other long e))
is_int long b e = absurd cc

is_ints : (b : Body) → body_word b ≡ Some ints_type → (ns : List (List ℕ × Bool)) × (b ≡ leaf (ints ns))
is_ints (leaf (ints ns)) e = (ns, refl)
is_ints b e = absurd cc

is_table : (b : Body) → body_word b ≡ Some table_type → (es : Entries) × (b ≡ table es)
is_table (table es) e = (es, refl)
is_table (leaf l) e = absurd (not_table l (some_word (leaf_type l) table_type e))
is_table b e = absurd cc

is_array : (b : Body) → body_word b ≡ Some array_type → (xs : Elements) × (b ≡ array xs)
is_array (array xs) e = (xs, refl)
is_array (leaf l) e = absurd (not_array l (some_word (leaf_type l) array_type e))
is_array b e = absurd cc

-- the bodies with this type, from after their brace
abbrev pub typed : Word → ℕ → Sort
typed w level = record {
  Form = Body;
  Good = λ b. (body_word b ≡ Some w) × IsForm b;
  spell = inner_marks;
  has = λ P b after from. BodyHas P b level after from;
  Fit = λ ts b. Unit {0};
  Start = λ ts ms. Unit {0};
}

-- each body with this type is made of something
each : {A : Type 0} (make : A → Body) (w : Word) → ((b : Body) → body_word b ≡ Some w → (x : A) × (b ≡ make x)) → (Q : Body → Type 0) (b : Body)
    (after ms : List Mark) → body_word b ≡ Some w → inner_marks b after ≡ ms → ((x : A) → inner_marks (make x) after ≡ ms → Q (make x)) → Q b
each make w only Q b after ms is e f =
    let h = only b is in
    subst Q (sym h.1) (f h.0 (ap (λ (x : Body). inner_marks x after) (sym h.1) ∙ e))

-- ---- a text, and the brace after it

module _ (w : Word) (level : ℕ) (make : Option (List ℕ) → Leaf) (word : (t : Option (List ℕ)) → body_word (leaf (make t)) ≡ Some w)
    (spelled : (t : Option (List ℕ)) (rest : List Mark) → leaf_inner (make t) rest ≡ text_marks t rest)
    (only : (b : Body) → body_word b ≡ Some w → (t : Option (List ℕ)) × (b ≡ leaf (make t))) where
  -- each body with this type has a text, or none
  each_text : (Q : Body → Type 0) (b : Body) (after ms : List Mark) → body_word b ≡ Some w → inner_marks b after ≡ ms
      → ((t : Option (List ℕ)) → text_marks t (RightBrace ∷ after) ≡ ms → Q (leaf (make t))) → Q b
  each_text Q b after ms is e f =
      each (λ t. leaf (make t)) w only Q b after ms is e (λ t e. f t (sym (spelled t (RightBrace ∷ after)) ∙ e))

  none_there : (ts : List Token) → first_text ts ≡ None → begins right ts ≡ false → Blame (typed w level) ts (stop Unexpected ts)
  none_there ts none no_right =
      first_lacks (typed w level) ts
      (leaf (make (Some []))) (Text []) (RightBrace ∷ []) (word (Some []), tt) tt (sym (spelled (Some []) (RightBrace ∷ [])))
      (λ b after ms good t e. each_text (λ x. ⊥) b after ms good.0 e (λ u e. no_such u after ms t.alike e)) (λ ms t. tt) where
        no_such : (u : Option (List ℕ)) (after ms : List Mark) → Alike (marks ts) ms → text_marks u (RightBrace ∷ after) ≡ ms → ⊥
        no_such None after ms a e = not_mark right ts after ms no_right a e
        no_such (Some s) after ms a e = not_text ts s (RightBrace ∷ after) ms none a e

  not_closed : (ts : List Token) (r : List ℕ) → first_text ts ≡ Some r → begins right (tail ts) ≡ false → Blame (typed w level) ts (stop Unexpected (tail ts))
  not_closed ts r comes no_right =
      next_lacks (typed w level) ts (tail ts) [] (Text r) (text_colon r) (text_first ts r comes)
      (leaf (make (Some r))) RightBrace [] (word (Some r), tt) tt (sym (spelled (Some r) (RightBrace ∷ [])))
      (λ b after ms good t e. each_text (λ x. ⊥) b after (Text r ∷ ms) good.0 e (λ u e. no_such u after ms t.alike e)) (λ ms t. tt) where
        no_such : (u : Option (List ℕ)) (after ms : List Mark) → Alike (marks (tail ts)) ms → text_marks u (RightBrace ∷ after) ≡ Text r ∷ ms → ⊥
        no_such None after ms a e = cc
        no_such (Some s) after ms a e = not_mark right (tail ts) after ms no_right a cc

  bad_bytes : (ts : List Token) (r : List ℕ) → first_text ts ≡ Some r
      → ((after : List Mark) → LeafHas (IsBad BadHex) (make (Some r)) (RightBrace ∷ after) (Text r ∷ RightBrace ∷ after))
      → Blame (typed w level) ts (stop BadHex ts)
  bad_bytes ts r comes bad =
      begins_bad (typed w level) BadHex (Text r) [] (Text r, [], refl) ts tt (marks (tail ts)) (text_first ts r comes)
      (leaf (make (Some r))) RightBrace [] (word (Some r), tt) tt (sym (spelled (Some r) (RightBrace ∷ [])))
      (λ b after ms good t e. each_text (λ x. BodyHas (IsBad BadHex) x level after ms) b after ms good.0 e (λ u e. at_bytes u after ms t.shown.0 t.shown.1 e))
      (λ ms t. tt) where
        at_bytes : (u : Option (List ℕ)) (after ms more : List Mark) → ms ≡ Text r ∷ more → text_marks u (RightBrace ∷ after) ≡ ms
            → BodyHas (IsBad BadHex) (leaf (make u)) level after ms
        at_bytes None after ms more shown e = let both : RightBrace ∷ after ≡ Text r ∷ more = e ∙ shown in absurd cc
        at_bytes (Some s) after ms more shown e =
            let both : Text s ∷ RightBrace ∷ after ≡ Text r ∷ more = e ∙ shown in
            let same : r ≡ s = cc in
            inr (subst (λ (x : List Mark). LeafHas (IsBad BadHex) (make (Some s)) (RightBrace ∷ after) x) e
            (subst (λ (x : List ℕ). LeafHas (IsBad BadHex) (make (Some x)) (RightBrace ∷ after) (Text x ∷ RightBrace ∷ after)) same (bad after)))

  maybe_blame : (passes : List ℕ → Bool) (bad : (r : List ℕ) → passes r ≡ false → (after : List Mark)
      → LeafHas (IsBad BadHex) (make (Some r)) (RightBrace ∷ after) (Text r ∷ RightBrace ∷ after)) (ts : List Token) (o : Option (List ℕ)) (s : Stop)
      → first_text ts ≡ o → closed (λ t. leaf (make t)) (maybe_or BadHex passes ts o) ≡ Err s → Blame (typed w level) ts s
  maybe_blame passes bad ts None s comes e = elim (bind_err (punctuation_at right ts) (λ after. Ok (leaf (make None), after)) s e) [
    | inl h ↦ let g = no_mark right ts s h in subst (Blame (typed w level) ts) g.1 (none_there ts comes g.0)
    | inr h ↦ absurd (cc)
  ]
  maybe_blame passes bad ts (Some r) s comes e = by (passes r) refl e where
    by : (b : Bool) → passes r ≡ b → closed (λ t. leaf (make t)) (cond b (Ok (Some r, tail ts)) (Err (stop BadHex ts))) ≡ Err s → Blame (typed w level) ts s
    by true is e = elim (bind_err (punctuation_at right (tail ts)) (λ after. Ok (leaf (make (Some r)), after)) s e) [
      | inl h ↦ let g = no_mark right (tail ts) s h in subst (Blame (typed w level) ts) g.1 (not_closed ts r comes g.0)
      | inr h ↦ absurd (cc)
    ]
    by false is e = let same : stop BadHex ts ≡ s = cc in subst (Blame (typed w level) ts) same (bad_bytes ts r comes (bad r is))

-- ---- an Int

module _ (long : Bool) (level : ℕ) where
  each_int : (Q : Body → Type 0) (b : Body) (after ms : List Mark) → body_word b ≡ Some (int_type long) → inner_marks b after ≡ ms
      → ((s : List ℕ) → Text s ∷ RightBrace ∷ after ≡ ms → Q (leaf (int long s))) → Q b
  each_int = each (λ s. leaf (int long s)) (int_type long) (is_int long)

  no_int : (ts : List Token) → first_text ts ≡ None → Blame (typed (int_type long) level) ts (stop Unexpected ts)
  no_int ts none =
      first_lacks (typed (int_type long) level) ts
      (leaf (int long [])) (Text []) (RightBrace ∷ []) (refl, tt) tt refl
      (λ b after ms good t e. each_int (λ x. ⊥) b after ms good.0 e (λ r e. not_text ts r (RightBrace ∷ after) ms none t.alike e)) (λ ms t. tt)

  bad_int : (ts : List Token) (r : List ℕ) → first_text ts ≡ Some r → IsBad BadInt (int_text r) → Blame (typed (int_type long) level) ts (stop BadInt ts)
  bad_int ts r comes bad =
      begins_bad (typed (int_type long) level) BadInt (Text r) [] (Text r, [], refl) ts tt (marks (tail ts)) (text_first ts r comes)
      (leaf (int long r)) RightBrace [] (refl, tt) tt refl
      (λ b after ms good t e. each_int (λ x. BodyHas (IsBad BadInt) x level after ms) b after ms good.0 e (λ s e. at_int s after ms t.shown.0 t.shown.1 e))
      (λ ms t. tt) where
        at_int : (s : List ℕ) (after ms more : List Mark) → ms ≡ Text r ∷ more → Text s ∷ RightBrace ∷ after ≡ ms
            → BodyHas (IsBad BadInt) (leaf (int long s)) level after ms
        at_int s after ms more shown e =
            let both : Text s ∷ RightBrace ∷ after ≡ Text r ∷ more = e ∙ shown in
            let same : r ≡ s = cc in
            inr (sym e, subst (λ (x : List ℕ). IsBad BadInt (int_text x)) same bad)

  int_open : (ts : List Token) (r : List ℕ) → first_text ts ≡ Some r → begins right (tail ts) ≡ false
      → Blame (typed (int_type long) level) ts (stop Unexpected (tail ts))
  int_open ts r comes no_right =
      next_lacks (typed (int_type long) level) ts (tail ts) [] (Text r) (text_colon r) (text_first ts r comes)
      (leaf (int long r)) RightBrace [] (refl, tt) tt refl
      (λ b after ms good t e. each_int (λ x. ⊥) b after (Text r ∷ ms) good.0 e (λ s e. not_mark right (tail ts) after ms no_right t.alike cc)) (λ ms t. tt)

module _ (tests : Tests) (are : AreTests tests) (long : Bool) (level : ℕ) where
  int_blame : (ts : List Token) (s : Stop) → closed (λ x. leaf (int long x)) (checked_at BadInt tests.is_int ts) ≡ Err s
      → Blame (typed (int_type long) level) ts s
  int_blame ts s e = elim (bind_err (checked_at BadInt tests.is_int ts) (λ x. punctuation_at right x.1 >>= λ after. Ok (leaf (int long x.0), after)) s e) [
    | inl h ↦ elim (bind_err (text_at ts) (λ x. cond (tests.is_int x.0) (Ok x) (Err (stop BadInt ts))) s h) [
      | inl g ↦ let q = no_text ts s g in subst (Blame (typed (int_type long) level) ts) q.1 (no_int long level ts q.0)
      | inr g ↦ failed g.0 (text_read ts g.0 g.1) (tests.is_int g.0.0) refl g.2
    ]
    | inr h ↦
        let a = bind_ok (text_at ts) (λ x. cond (tests.is_int x.0) (Ok x) (Err (stop BadInt ts))) h.0 h.1 in
        let t = text_read ts a.0 a.1 in
        let g = guard_ok (tests.is_int a.0.0) (stop BadInt ts) (Ok a.0) h.0 a.2 in
        let same : a.0 ≡ h.0 = ok_is a.0 h.0 g.1 in
        elim (bind_err (punctuation_at right h.0.1) (λ after. Ok (leaf (int long h.0.0), after)) s h.2) [
          | inl q ↦
              let there : tail ts ≡ h.0.1 = t.1 ∙ ap (λ (y : List ℕ × List Token). y.1) same in
              let p = no_mark right (tail ts) s (ap (punctuation_at right) there ∙ q) in
              subst (Blame (typed (int_type long) level) ts) p.1 (int_open long level ts a.0.0 t.0 p.0)
          | inr q ↦ absurd (cc)
        ]
  ] where
    failed : (x : List ℕ × List Token) → (first_text ts ≡ Some x.0) × (tail ts ≡ x.1) → (b : Bool) → tests.is_int x.0 ≡ b
        → cond b (Ok x) (Err (stop BadInt ts)) ≡ Err s → Blame (typed (int_type long) level) ts s
    failed x t true is e = absurd cc
    failed x t false is e = let same : stop BadInt ts ≡ s = cc in
        subst (Blame (typed (int_type long) level) ts) same (bad_int long level ts x.0 t.0 (are.ints.1 x.0 is))

-- ---- what the other types have inside

-- a stop inside is one of the body around it
wrapped : (inner : Sort) (w : Word) (level : ℕ) (wrap : inner.Form → Body) → ((x : inner.Form) → body_word (wrap x) ≡ Some w)
    → ((b : Body) → body_word b ≡ Some w → (x : inner.Form) × (b ≡ wrap x))
    → ((x : inner.Form) → inner.Good x → IsForm (wrap x)) → ((x : inner.Form) → IsForm (wrap x) → inner.Good x)
    → ((x : inner.Form) (rest : List Mark) → inner_marks (wrap x) rest ≡ inner.spell x rest)
    → ((P : Role → Type 0) (x : inner.Form) (after from : List Mark) → inner.has P x after from → BodyHas P (wrap x) level after from)
    → (ts : List Token) (s : Stop) → Blame inner ts s → Blame (typed w level) ts s
wrapped inner w level wrap word only form_of good_of spelled has ts s b =
    within inner (typed w level) ts s b (wrap b.form) [] (word b.form, form_of b.form b.good) (spelled b.form []) (sym (append-nil (inner.spell b.form [])))
    (λ f after ms good t e. each wrap w only (λ x. IsForm x → BodyHas (IsBad s.kind) x level after ms) f after (b.front ++ ms) good.0 e
    (λ x e form. has (IsBad s.kind) x after ms (b.blame x after ms (good_of x form) t (sym (spelled x after) ∙ e))) good.1) tt (λ ms t. tt)

in_vector : (level : ℕ) (ts : List Token) (s : Stop) → Blame vectors ts s → Blame (typed ints_type level) ts s
in_vector level =
    wrapped vectors ints_type level (λ ns. leaf (ints ns)) (λ ns. refl) is_ints (λ ns good. tt) (λ ns form. tt) (λ ns rest. refl) (λ P ns after from h. inr h)

in_table : (level : ℕ) (ts : List Token) (s : Stop) → Blame (tables (suc level) []) ts s → Blame (typed table_type level) ts s
in_table level =
    wrapped (tables (suc level) []) table_type level table (λ es. refl) is_table (λ es good. good) (λ es form. form) (λ es rest. refl)
    (λ P es after from h. inr h)

in_array : (level : ℕ) (ts : List Token) (s : Stop) → Blame (arrays (suc level)) ts s → Blame (typed array_type level) ts s
in_array level =
    wrapped (arrays (suc level)) array_type level array (λ xs. refl) is_array (λ xs good. good) (λ xs form. form) (λ xs rest. refl)
    (λ P xs after from h. inr h)

-- what reads the values inside, and why it stops
pub record Inside (tests : Tests) (level : ℕ) (inner : Inner) : Type 0 where
  pub depth : ℕ
  pub law : Law tests depth inner.reads
  pub blames : Blames (suc level) inner.reads
  pub deep : inner.room ≡ false → suc level ≡ 65

pub typed_blame : (tests : Tests) (are : AreTests tests) (level : ℕ) (inner : Inner) (inside : Inside tests level inner) (w : Word) (ts : List Token) (s : Stop)
    → typed_at tests inner w ts ≡ Err s → Blame (typed w level) ts s
typed_blame tests are level inner inside string_type ts s e =
    maybe_blame string_type level string (λ t. refl) (λ t rest. refl) is_string anything (λ r is. absurd cc) ts (first_text ts) s refl e
typed_blame tests are level inner inside alias_type ts s e =
    maybe_blame alias_type level alias (λ t. refl) (λ t rest. refl) is_alias anything (λ r is. absurd cc) ts (first_text ts) s refl e
typed_blame tests are level inner inside (binary_type long) ts s e =
    maybe_blame (binary_type long) level (binary long) (λ t. refl) (λ t rest. refl) (is_binary long) tests.is_hex (λ r is after. (refl, are.bytes.1 r is)) ts
    (first_text ts) s refl e
typed_blame tests are level inner inside (int_type long) ts s e = int_blame tests are long level ts s e
typed_blame tests are level inner inside ints_type ts s e =
    elim (bind_err (numbers tests.is_element (suc (length ts)) ts) (λ t. punctuation_at right t.1 >>= λ after. Ok (leaf (ints t.0), after)) s e) [
      | inl h ↦ in_vector level ts s (numbers_blame tests are (suc (length ts)) ts s (omega arith) (inl h))
      | inr h ↦ elim (bind_err (punctuation_at right h.0.1) (λ after. Ok (leaf (ints h.0.0), after)) s h.2) [
        | inl q ↦ in_vector level ts s (numbers_blame tests are (suc (length ts)) ts s (omega arith) (inr (h.0, h.1, q)))
        | inr q ↦ absurd (cc)
      ]
    ]
typed_blame tests are level inner inside table_type ts s e = elim (bind_err (table_at tests inner ts) (λ es. Ok (table es.0, es.1)) s e) [
  | inl h ↦ in_table level ts s (entries_blame tests are (suc level) inside.depth inner.reads inside.law inside.blames (suc (length ts)) [] ts s (omega arith)
      h)
  | inr h ↦ absurd (cc)
]
typed_blame tests are level inner inside array_type ts s e = elim (bind_err (array_at inner ts) (λ xs. Ok (array xs.0, xs.1)) s e) [
  | inl h ↦ in_array level ts s (elements_blame tests (suc level) inside.depth inner.room inner.reads inside.law inside.blames inside.deep (suc (length ts)) ts
      s (omega arith) h)
  | inr h ↦ absurd (cc)
]
