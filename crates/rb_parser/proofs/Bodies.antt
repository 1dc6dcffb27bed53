-- Bodies, as the code reads them, and the tables of their entries.
use Rattle.std.proofs.Common.{◌≡◌, ℕ, suc, ◌++◌, ◌||◌, Bool, true, false, cond, List, [], ◌∷◌, length, Option, Some, Result, Ok, Err, All}
use Rattle.std.proofs.Common.{refl, sym, ap, subst, ◌∙◌, arith, ◌⊎◌, inl, inr, nat_eq}
use Rattle.std.specs.Map.{lookup}
use Rattle.std.specs.Cmp.Lexicographic.{pointwise}
use Rattle.std.proofs.lemmas.List.{map-append}
use Rattle.std.proofs.lemmas.List.Elements.{All-push}
use Rattle.std.proofs.lemmas.Slice.Eq.{bytes_eq-Decides}
use Rattle.rb_lexer.specs.declared.token.Token.{Token}
use Rattle.rb_lexer.specs.declared.fault.SourceKind.TheVariants.{TooDeep, Unexpected}
use Rattle.rb_lexer.specs.declared.fault.SourceFault.{SourceFault}
use Rattle.rb_tree.specs.Resource as resource
use Rattle.rb_tree.specs.Resource.{Resource, Members}
use Rattle.rb_tree.specs.Keys.{IsKey, IsTable}
use Rattle.rb_tree.specs.Table.{seen_pairs, keys_in, IsTableOf}
use Rattle.rb_tree.specs.View.{view_of}
use Rattle.rb_tree.specs.declared.tree.Tree.{Tree}
use Rattle.rb_grammar.specs.Faults.{line_at}
use Rattle.rb_grammar.specs.Form.{Leaf, string, alias, binary, int, ints, Body, plain, leaf, Entries, no_entries, entry, IsKeyOf}
use Rattle.rb_grammar.specs.Good.{EachAtItsKey, item_at}
use Rattle.rb_grammar.specs.Reading.{Stop, stop, Read, ◌>>=◌, left, right, colon, begins, tail, punctuation_at, text_at, Word, string_type, alias_type}
use Rattle.rb_grammar.specs.Reading.{binary_type, int_type, ints_type, table_type, array_type, word_at, closed, maybe_at, anything, checked_at, numbers, Inner}
use Rattle.rb_grammar.specs.Reading.{typed_at, Guess, as_text, as_table, as_array, none_at, guess, untyped_at, body_at, body, entries}
use Rattle.rb_lexer.specs.declared.fault.SourceKind.TheVariants.{BadInt, BadHex}
use Rattle.rb_grammar.specs.Tests.{the_tests}
use Rattle.rb_grammar.proofs.Sound.{AllPassed, entries_take}
use Rattle.rb_grammar.proofs.SoundBody.{body_takes}
use Rattle.rb_parser.specs.inner.Reads.{located, Reads, inner_at, made, leaf_at, AreEntries}
use Rattle.rb_parser.specs.inner.Views.{guessed, word_of}
use Rattle.rb_parser.specs.declared.cursor.Guess as program
use Rattle.rb_parser.specs.declared.cursor.Guess.TheVariants.{Text}
use Rattle.rb_parser.specs.declared.word.Word.TheVariants as word
use Rattle.rb_parser.specs.declared.word.Leaf as word_leaf
use Rattle.rb_parser.specs.inner.Rows.{Pair}
use Rattle.rb_parser.proofs.Steps.{located_bind, fault_is, stops_at}

-- the same end and the same reading
pub reads_same : {X Y : Type 0} (R : X → Y → Type 0) (end at : ℕ) (r : Result X SourceFault) (rest : List Token) (read other : Read Y) → at ≡ end → other ≡ read
    → Reads R at r rest read → Reads R end r rest other
reads_same {X} {Y} R end at r rest read other same is h =
    subst (λ (e : ℕ). Reads R e r rest other) same (subst (λ (x : Read Y). Reads R at r rest x) (sym is) h)

pub located_same : {Y : Type 0} (end at : ℕ) (read other : Result Y Stop) (e : SourceFault) → at ≡ end → other ≡ read → located at read ≡ Err e
    → located end other ≡ Err e
located_same {Y} end at read other e same is h = ap (located end) is ∙ ap (λ (n : ℕ). located n read) (sym same) ∙ h

-- ---- if there is no room

pub depth_error : (end depth : ℕ) (ts : List Token) (e : SourceFault) → depth ≡ 0 → e.kind ≡ cond (begins colon ts || begins left ts) TooDeep Unexpected
    → e.line ≡ line_at end ts → located end (body the_tests depth ts) ≡ Err e
unfolding body
depth_error end depth ts e none kind line = rw none (by (begins colon ts || begins left ts) kind) where
  by : (b : Bool) → e.kind ≡ cond b TooDeep Unexpected → located {A = Body × List Token} end (cond b (Err (stop TooDeep ts)) (Err (stop Unexpected ts))) ≡ Err e
  by true k = ap Err (fault_is e TooDeep (line_at end ts) k line)
  by false k = ap Err (fault_is e Unexpected (line_at end ts) k line)

-- ---- a body, by its first mark

module _ (depth below : ℕ) (ts : List Token) (some : depth ≡ suc below) where
  body_is : body the_tests depth ts ≡ body_at the_tests (inner_at below) ts
  unfolding body
  body_is = rw some refl

  module _ (next : List Token) (comes : begins colon ts ≡ true) (goes : next ≡ tail ts) where
    typed_is : body the_tests depth ts ≡ (word_at next >>= λ w. punctuation_at left w.1 >>= λ after. typed_at the_tests (inner_at below) w.0 after)
    typed_is = body_is ∙ rw (comes, goes) refl

    pub bad_word : (end at : ℕ) (e : SourceFault) → at ≡ end → located at (word_at next) ≡ Err e → located end (body the_tests depth ts) ≡ Err e
    bad_word end at e same h =
        located_same end at (word_at next >>= λ w. punctuation_at left w.1 >>= λ after. typed_at the_tests (inner_at below) w.0 after)
        (body the_tests depth ts) e same typed_is
        (located_bind at (word_at next) (λ w. punctuation_at left w.1 >>= λ after. typed_at the_tests (inner_at below) w.0 after) e h)

    module _ (w : Word) (mid : List Token) (named : word_at next ≡ Ok (w, mid)) where
      after_word : body the_tests depth ts ≡ (punctuation_at left mid >>= λ after. typed_at the_tests (inner_at below) w after)
      after_word = typed_is ∙ rw named refl

      pub no_brace : (end at : ℕ) (e : SourceFault) → at ≡ end → located at (punctuation_at left mid) ≡ Err e → located end (body the_tests depth ts) ≡ Err e
      no_brace end at e same h =
          located_same end at (punctuation_at left mid >>= λ after. typed_at the_tests (inner_at below) w after) (body the_tests depth ts) e same after_word
          (located_bind at (punctuation_at left mid) (λ after. typed_at the_tests (inner_at below) w after) e h)

      pub typed_body : (after : List Token) → punctuation_at left mid ≡ Ok after → body the_tests depth ts ≡ typed_at the_tests (inner_at below) w after
      typed_body after opened = after_word ∙ rw opened refl

  module _ (no_colon : begins colon ts ≡ false) where
    untyped_is : body the_tests depth ts ≡ (punctuation_at left ts >>= λ after. untyped_at the_tests (inner_at below) (guess after) after)
    untyped_is = body_is ∙ rw no_colon refl

    pub unopened : (end : ℕ) (e : SourceFault) → begins left ts ≡ false → e.kind ≡ Unexpected → e.line ≡ line_at end ts
        → located end (body the_tests depth ts) ≡ Err e
    unopened end e no_left kind line = stops_at end Unexpected ts e (body the_tests depth ts) (untyped_is ∙ rw no_left refl) kind line

    pub untyped_body : (next : List Token) → begins left ts ≡ true → next ≡ tail ts
        → body the_tests depth ts ≡ untyped_at the_tests (inner_at below) (guess next) next
    untyped_body next opened goes = untyped_is ∙ rw (opened, goes) refl

-- ---- leaves with their closing brace

closed_made : {A B : Type 0} (f : B → Body) (g : A → B) (r : Read A) → closed (λ x. f (g x)) r ≡ closed f (made g r)
closed_made f g (Ok x) = refl
closed_made f g (Err s) = refl

typed_leaf : (inner : Inner) (w : Word) (l : word_leaf.Leaf) (ts : List Token) → word_of w ≡ word.Leaf l
    → typed_at the_tests inner w ts ≡ closed leaf (leaf_at w ts)
typed_leaf inner string_type l ts e = closed_made leaf string (maybe_at BadHex anything ts)
typed_leaf inner alias_type l ts e = closed_made leaf alias (maybe_at BadHex anything ts)
typed_leaf inner (binary_type long) l ts e = closed_made leaf (binary long) (maybe_at BadHex the_tests.is_hex ts)
typed_leaf inner (int_type long) l ts e = closed_made leaf (int long) (checked_at BadInt the_tests.is_int ts)
typed_leaf inner ints_type l ts e = closed_made leaf ints (numbers the_tests.is_element (suc (length ts)) ts)
typed_leaf inner table_type l ts e = absurd cc
typed_leaf inner array_type l ts e = absurd cc

module _ (inner : Inner) (w : Word) (l : word_leaf.Leaf) (ts : List Token) (is : word_of w ≡ word.Leaf l) where
  pub leaf_stops : (end : ℕ) (e : SourceFault) → located end (leaf_at w ts) ≡ Err e → located end (typed_at the_tests inner w ts) ≡ Err e
  leaf_stops end e h =
      located_same end end (closed leaf (leaf_at w ts)) (typed_at the_tests inner w ts) e refl (typed_leaf inner w l ts is)
      (located_bind end (leaf_at w ts) (λ x. punctuation_at right x.1 >>= λ after. Ok (leaf x.0, after)) e h)

  module _ (y : Leaf) (mid : List Token) (read : leaf_at w ts ≡ Ok (y, mid)) where
    after_leaf : typed_at the_tests inner w ts ≡ (punctuation_at right mid >>= λ after. Ok (leaf y, after))
    after_leaf = typed_leaf inner w l ts is ∙ rw read refl

    pub leaf_open : (end at : ℕ) (e : SourceFault) → at ≡ end → located at (punctuation_at right mid) ≡ Err e
        → located end (typed_at the_tests inner w ts) ≡ Err e
    leaf_open end at e same h =
        located_same end at (punctuation_at right mid >>= λ after. Ok (leaf y, after)) (typed_at the_tests inner w ts) e same after_leaf
        (located_bind at (punctuation_at right mid) (λ after. Ok (leaf y, after)) e h)

    pub leaf_reads : (after : List Token) → punctuation_at right mid ≡ Ok after → typed_at the_tests inner w ts ≡ Ok (leaf y, after)
    leaf_reads after h = after_leaf ∙ rw h refl

-- ---- one text

abbrev a_text : Result program.Guess SourceFault
a_text = Ok Text

is_text : (end : ℕ) (g : Guess) → a_text ≡ guessed end g → g ≡ as_text
is_text end as_text e = refl
is_text end as_table e = absurd cc
is_text end as_array e = absurd cc
is_text end (none_at rest) e = absurd cc

pub plain_reads : (inner : Inner) (end : ℕ) (ts mid after : List Token) (s : List ℕ) (r : Result program.Guess SourceFault) → r ≡ Ok Text
    → r ≡ guessed end (guess ts) → text_at ts ≡ Ok (s, mid) → punctuation_at right mid ≡ Ok after
    → untyped_at the_tests inner (guess ts) ts ≡ Ok (plain s, after)
plain_reads inner end ts mid after s r is answer text close =
    ap (λ g. untyped_at the_tests inner g ts) (is_text end (guess ts) (sym is ∙ answer)) ∙ rw (text, close) refl

-- ---- tables

pub keys_more : (ps : List Pair) (k : List ℕ) (t : Tree) → All IsKey (keys_in ps) → IsKey k → All IsKey (keys_in (ps ++ (k, t) ∷ []))
keys_more ps k t all good =
    let pair : Pair = (k, t) in
    subst (λ (ks : List (List ℕ)). All IsKey ks) (sym (map-append (λ (p : Pair). p.0) ps (pair ∷ []))) (All-push IsKey (keys_in ps) k all good)

pub keys_none : All IsKey (keys_in [])
keys_none = λ i d h. absurd (omega arith)

abbrev at : List ℕ → List Pair → Option Resource
at q ps = lookup (pointwise nat_eq q) (seen_pairs ps)

here : (k l : List ℕ) (d : Resource) (o : Option Resource) → k ≡ l → cond (pointwise nat_eq k l) (Some d) o ≡ Some d
here k l d o same = rw ((bytes_eq-Decides k l).1 same) refl

skips : (k l : List ℕ) (d : Resource) (o : Option Resource) → (k ≡ l → ⊥) → cond (pointwise nat_eq k l) (Some d) o ≡ o
skips k l d o other = by (pointwise nat_eq k l) refl where
  by : (b : Bool) → pointwise nat_eq k l ≡ b → cond b (Some d) o ≡ o
  by true e = absurd (other ((bytes_eq-Decides k l).0 e))
  by false e = refl

-- what is at a key was written there
written : (ps : List Pair) (es : Entries) (q : List ℕ) (d : Resource) → AreEntries ps es → at q ps ≡ Some d → IsKeyOf es q
written [] no_entries q d are e = absurd cc
written [] (entry k b c es) q d are e = absurd are
written (p ∷ ps) no_entries q d are e = absurd are
written (p ∷ ps) (entry k b c es) q d are e = by (pointwise nat_eq q p.0) refl (λ h. written ps es q d are.2 h) e where
  by : (o : Bool) → pointwise nat_eq q p.0 ≡ o → (at q ps ≡ Some d → IsKeyOf es q) → cond o (Some (view_of p.1)) (at q ps) ≡ Some d → (q ≡ k) ⊎ IsKeyOf es q
  by true is later h = inl ((bytes_eq-Decides q p.0).0 is ∙ are.0)
  by false is later h = inr (later h)

each_at_key : (rows : Members) (ps : List Pair) (es : Entries) → AreEntries ps es → AllPassed the_tests es
    → ((q : List ℕ) → IsKeyOf es q → item_at q rows ≡ at q ps) → EachAtItsKey es rows
each_at_key rows [] no_entries are passed same = tt
each_at_key rows [] (entry k b c es) are passed same = absurd are
each_at_key rows (p ∷ ps) no_entries are passed same = absurd are
each_at_key rows (p ∷ ps) (entry k b c es) are passed same = (
  (view_of p.1, same k (inl refl) ∙ here k p.0 (view_of p.1) (at k ps) (sym are.0), are.1),
  each_at_key rows ps es are.2 passed.3 (λ q h. same q (inr h)
      ∙ skips q p.0 (view_of p.1) (at q ps) (λ e. passed.1 (subst (λ (l : List ℕ). IsKeyOf es l) (e ∙ are.0) h))),
)

pub table_spells : (ps : List Pair) (es : Entries) (d : Resource) → AreEntries ps es → AllPassed the_tests es → IsTableOf (seen_pairs ps) d
    → (rows : Members) × (d ≡ resource.table rows) × IsTable rows × ((q : List ℕ) (e : Resource) → item_at q rows ≡ Some e → IsKeyOf es q)
    × EachAtItsKey es rows
table_spells ps es d are passed t = (
  t.entries,
  t.is,
  t.ordered,
  λ q e h. written ps es q e are (sym (t.same q) ∙ h),
  each_at_key t.entries ps es are passed (λ q h. t.same q),
)

pub table_passed : (depth n : ℕ) (ts : List Token) (es : Entries) (r : List Token) → entries the_tests (body the_tests depth) n [] ts ≡ Ok (es, r)
    → AllPassed the_tests es
table_passed depth n ts es r e = (entries_take the_tests depth (body the_tests depth) (body_takes the_tests depth) n [] ts (es, r) e).passed
