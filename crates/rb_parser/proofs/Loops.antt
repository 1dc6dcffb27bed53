-- The loops over the entries of a table and the elements of an array: what holds between the cursor where they begin and the
-- one that they have reached.
use Rattle.std.proofs.Common.{◌≡◌, ◌≢◌, ℕ, ◌<◌, ◌≤◌, ◌++◌, ◌||◌, ◌-◌, ◌∷◌, get_or, inl, inr, suc, Bool, true, false, List, [], length, nat_lt, Some, None, Result, IfOk, IfErr, OnOk, Ok, Err, All}
use Rattle.std.proofs.Common.{refl, sym, ap, ap₂, subst, ◌∙◌, arith}
use Rattle.std.proofs.lemmas.Bool.{lt-ltb}
use Rattle.rb_lexer.specs.declared.token.Token.{Token}
use Rattle.rb_lexer.specs.declared.fault.SourceKind.TheVariants.{BadKey, TooDeep, Memory}
use Rattle.rb_lexer.specs.declared.fault.SourceFault.{SourceFault}
use Rattle.rb_tree.specs.Keys.{IsKey}
use Rattle.rb_tree.specs.Table.{seen_pairs, keys_in, NoRepeat, IsFirstRepeat, IsTableOf}
use Rattle.rb_tree.specs.View.{view_of, views_of}
use Rattle.rb_tree.specs.declared.tree.Tree.{Tree}
use Rattle.rb_tree.specs.declared.tree.Tree.TheVariants.{String}
use Rattle.rb_grammar.specs.Faults.{line_at}
use Rattle.rb_grammar.specs.Form.{Body, Elements}
use Rattle.rb_grammar.specs.Good.{EachSpells}
use Rattle.rb_grammar.specs.Reading.{left, right, colon, begins, tail, first_text, is_among, Read, punctuation_at, after_comma, table_at, body, entries, elements}
use Rattle.rb_grammar.specs.Tests.{the_tests}
use Rattle.rb_parser.specs.inner.Reads.{located, Reads, inner_at, IsBodyTree, IsTableTree}
use Rattle.rb_parser.specs.declared.cursor.Cursor.{Cursor}
use Rattle.rb_parser.proofs.Bodies.{keys_more, keys_none, table_spells, table_passed}
use Rattle.rb_parser.proofs.Rows as rows
use Rattle.rb_parser.specs.inner.Rows.{Pair, keys_after, lines_after, twice_at, repeat_at, later_fault, AreCounted, AreRead}
use Rattle.rb_parser.specs.inner.Rows.{IsRepeat, IsFirstFault}
use Rattle.rb_parser.specs.declared.table.Rows.{Rows}
use Rattle.rb_parser.proofs.Repeats.{apart_push, repeat_push, first_none}
use Rattle.std.proofs.lemmas.List.{length_push, get_or_push, get_or_append_left}
use Rattle.rb_parser.proofs.Rows.{EntriesSoFar}
use Rattle.rb_parser.proofs.Parts as parts
use Rattle.rb_parser.proofs.Parts.{ElementsSoFar}

-- what follows a text, and what follows if none comes
pub record TextTaken (now next : Cursor) : Type 0 where
  pub same_end : next.end ≡ now.end
  pub rest : next.rest ≡ tail now.rest

pub record NothingTaken (now next : Cursor) : Type 0 where
  pub none : first_text now.rest ≡ None
  pub same_end : next.end ≡ now.end
  pub rest : next.rest ≡ now.rest

-- ---- entries

-- ---- lines

count_more : (pairs : List Pair) (lines : List ℕ) (line : ℕ) (key : List ℕ) (t : Tree) → length lines ≡ length pairs - 1
    → length (lines_after pairs lines line) ≡ length (pairs ++ (key, t) ∷ []) - 1
count_more [] lines line key t e = e
count_more (p ∷ ps) lines line key t e = omega (arith, length_push lines line, length_push ps (key, t), e)

line_before : (pairs : List Pair) (lines : List ℕ) (line i : ℕ) → length lines ≡ length pairs - 1 → i < length pairs → 0 < i
    → get_or (lines_after pairs lines line) (i - 1) 0 ≡ get_or lines (i - 1) 0
line_before [] lines line i e h some = refl
line_before (p ∷ ps) lines line i e h some = get_or_append_left lines (line ∷ []) 0 (i - 1) (omega (arith, e))

line_last : (pairs : List Pair) (lines : List ℕ) (line i : ℕ) → length lines ≡ length pairs - 1 → i ≡ length pairs → 0 < length pairs
    → get_or (lines_after pairs lines line) (i - 1) 0 ≡ line
line_last [] lines line i e h some = absurd (omega arith)
line_last (p ∷ ps) lines line i e h some = get_or_push lines line 0 (i - 1) (omega (arith, e, h))

some_before : (ks : List (List ℕ)) (i : ℕ) → IsFirstRepeat ks i → 0 < i
some_before ks i r = omega (arith, r.repeats.1)

-- These pairs were read from `start` up to `now`, with these lines of their keys. A key may come again: reading stops at the
-- first that does.
pub record EntriesAt (depth : ℕ) (start now : Cursor) (pairs : List Pair) (lines : List ℕ) : Type 0 where
  pub same_end : now.end ≡ start.end
  pub no_longer : length now.rest ≤ length start.rest
  pub keys : All IsKey (keys_in pairs)
  pub count : length lines ≡ length pairs - 1
  pub so_far : (n : ℕ) → length start.rest < n → NoRepeat (keys_in pairs) → EntriesSoFar (body the_tests depth) n start.rest pairs now.rest
  pub twice : (n i : ℕ) → length start.rest < n → IsFirstRepeat (keys_in pairs) i
      → located start.end (entries the_tests (body the_tests depth) n [] start.rest) ≡ Err (repeat_at lines i)

pub entries_begin : (depth : ℕ) (start : Cursor) (pairs : List Pair) (lines : List ℕ) → pairs ≡ [] → lines ≡ [] → EntriesAt depth start start pairs lines
entries_begin depth start pairs lines no_pairs no_lines = rw (no_pairs, no_lines) (record {
  same_end = refl;
  no_longer = omega arith;
  keys = keys_none;
  count = refl;
  so_far = λ n enough _. rows.entries_start (body the_tests depth) n start.rest enough;
  twice = λ n i enough r. absurd (first_none i r);
})

-- Reading the entries stops with this error, unless memory ran out.
abbrev pub EntriesStop : ℕ → Cursor → SourceFault → Type 0
EntriesStop depth start e =
    (n : ℕ) → length start.rest < n → e.kind ≢ Memory → located start.end (entries the_tests (body the_tests depth) n [] start.rest) ≡ Err e

module _ {depth : ℕ} {start now : Cursor} (all : Rows) (inv : EntriesAt depth start now all.pairs.items all.lines.items) where
  line_from_start : {line : ℕ} → line ≡ line_at now.end now.rest → line ≡ line_at start.end now.rest
  line_from_start l = l ∙ ap (λ e. line_at e now.rest) inv.same_end

  counted : AreCounted all
  counted = record { keys = inv.keys; count = omega (arith, inv.count) }

  -- an error that ends the entries if no key comes again
  ended : (e : SourceFault) (rest : List Token) → (NoRepeat (keys_in all.pairs.items) → EntriesStop depth start e)
      → AreRead depth start.end start.rest all (Err e) rest
  ended e rest h = record { counted = counted; read = λ n enough apart other. h apart n enough other; twice = inv.twice }

  pub entries_bad_key : (rest : List Token) (s : List ℕ) (e : SourceFault) → first_text now.rest ≡ Some s → (IsKey s → ⊥) → e.kind ≡ BadKey
      → e.line ≡ line_at now.end now.rest → AreRead depth start.end start.rest all (Err e) rest
  entries_bad_key rest s e comes bad kind line = ended e rest (λ apart n enough other.
      rows.stop_bad_key (body the_tests depth) n start.rest now.rest all.pairs.items (inv.so_far n enough apart) start.end s e comes bad kind
      (line_from_start line))

  -- the error of a value, or that of its key, which comes again
  pub entries_bad_body : (rest : List Token) (s : List ℕ) (e first : SourceFault) (next : Cursor) (line : ℕ) → first_text now.rest ≡ Some s → IsKey s
      → TextTaken now next → located next.end (body the_tests depth next.rest) ≡ Err e
      → line ≡ line_at now.end now.rest → first ≡ later_fault (is_among (keys_after all.pairs.items []) s) line e
      → AreRead depth start.end start.rest all (Err first) rest
  entries_bad_body rest s e first next line comes good took h at is =
      ended first rest (λ apart n enough other. by n enough apart (is_among (keys_after all.pairs.items []) s) refl)
    where
      by : (n : ℕ) → length start.rest < n → NoRepeat (keys_in all.pairs.items) → (b : Bool) → is_among (keys_after all.pairs.items []) s ≡ b
          → located start.end (entries the_tests (body the_tests depth) n [] start.rest) ≡ Err first
      by n enough apart true among =
          let it : first ≡ twice_at line = is ∙ ap (λ c. later_fault c line e) among in
          rows.stop_twice (body the_tests depth) n start.rest now.rest all.pairs.items (inv.so_far n enough apart) start.end s (twice_at line) comes good among
          refl (line_from_start at) ∙ ap Err (sym it)
      by n enough apart false among =
          let it : first ≡ e = is ∙ ap (λ c. later_fault c line e) among in
          rows.stop_body (body the_tests depth) n start.rest now.rest all.pairs.items (inv.so_far n enough apart) start.end s e comes good among
          (ap₂ (λ end r. located end (body the_tests depth r)) (sym (took.same_end ∙ inv.same_end)) (sym took.rest) ∙ h) ∙ ap Err (sym it)

  pub entries_open : (rest : List Token) (e : SourceFault) (next : Cursor) → NothingTaken now next
      → (e.kind ≢ Memory → located next.end (punctuation_at right next.rest) ≡ Err e) → AreRead depth start.end start.rest all (Err e) rest
  entries_open rest e next took h = ended e rest (λ apart n enough other.
      rows.stop_open (body the_tests depth) n start.rest now.rest all.pairs.items (inv.so_far n enough apart) start.end e took.none
      (ap₂ (λ end r. located end (punctuation_at right r)) (sym (took.same_end ∙ inv.same_end)) (sym took.rest) ∙ h other))

  pub entries_done : (next : Cursor) (r : List Token) → NothingTaken now next → punctuation_at right next.rest ≡ Ok r
      → AreRead depth start.end start.rest all (Ok tt) r
  entries_done next r took h = record {
    counted = counted;
    read = λ n enough apart. rows.entries_end (body the_tests depth) n start.rest now.rest all.pairs.items (inv.so_far n enough apart) r took.none
        (ap (punctuation_at right) (sym took.rest) ∙ h);
    twice = inv.twice;
  }

  pub entries_more : (s : List ℕ) (b : Body) (next read after : Cursor) (key : List ℕ) (t : Tree) (line : ℕ) (more : List Pair) (new : List ℕ)
      → first_text now.rest ≡ Some s → IsKey s → line ≡ line_at now.end now.rest → TextTaken now next
      → body the_tests depth next.rest ≡ Ok (b, read.rest) → IsBodyTree t b → read.end ≡ next.end
      → after.end ≡ read.end → after.rest ≡ after_comma read.rest → length after.rest < length now.rest
      → key ≡ s → more ≡ all.pairs.items ++ (key, t) ∷ [] → new ≡ lines_after all.pairs.items all.lines.items line
      → EntriesAt depth start after more new
  entries_more s b next read after key t line more new comes good at took h means read_end after_end rest shorter key_is more_is new_is =
      let pairs = all.pairs.items in
      let lines = all.lines.items in
      rw (more_is, new_is) (record {
        same_end = after_end ∙ read_end ∙ took.same_end ∙ inv.same_end;
        no_longer = omega (arith, inv.no_longer);
        keys = keys_more pairs key t inv.keys (subst (λ (l : List ℕ). IsKey l) (sym key_is) good);
        count = count_more pairs lines line key t inv.count;
        so_far = λ n enough apart.
            let parts = apart_push pairs key t apart in
            rows.entries_turn (body the_tests depth) n start.rest now.rest pairs (inv.so_far n enough parts.0) s b
            read.rest after.rest key t comes good (subst (λ (l : List ℕ). is_among (keys_after pairs []) l ≡ false) key_is parts.1)
            (ap (body the_tests depth) (sym took.rest) ∙ h) means key_is rest shorter;
        twice = λ n i enough r. elim (repeat_push pairs key t i r) [
          | inl old ↦ inv.twice n i enough old.1
              ∙ ap (λ l. Err (twice_at l)) (sym (line_before pairs lines line i inv.count old.0 (some_before (keys_in pairs) i old.1)))
          | inr last ↦
              rows.stop_twice (body the_tests depth) n start.rest now.rest pairs (inv.so_far n enough last.2) start.end s
              (repeat_at (lines_after pairs lines line) i) comes good
              (subst (λ (l : List ℕ). is_among (keys_after pairs []) l ≡ true) key_is last.3) refl
              (line_last pairs lines line i inv.count last.0 last.1 ∙ line_from_start at)
        ];
      })

-- ---- tables

module _ (depth end : ℕ) (start : List Token) (all : Rows) (rest : List Token) where
  -- what reading a table gives, given what the rows are made into
  pub table_reads : (r : Result Tree SourceFault) → AreRead depth end start all (Ok tt) rest
      → IfOk r (λ t. IsTableOf (seen_pairs all.pairs.items) (view_of t)) → OnOk r (NoRepeat (keys_in all.pairs.items))
      → IfErr r (λ e. e.kind ≢ Memory → IsRepeat all e) → Reads IsTableTree end r rest (table_at the_tests (inner_at depth) start)
  table_reads (Ok t) read table apart again =
      let es = read.read (suc (length start)) (omega arith) apart in (
        es.0,
        es.1,
        table_spells all.pairs.items es.0 _ es.2 (table_passed depth (suc (length start)) start es.0 rest es.1) table,
      )
  table_reads (Err e) read table apart again =
      λ other. let i = again other in read.twice (suc (length start)) i.0 (omega arith) i.1 ∙ ap Err (sym i.2)

  pub table_stops : (e first : SourceFault) → (e.kind ≢ Memory → AreRead depth end start all (Err e) rest) → (e.kind ≡ Memory → first.kind ≡ Memory)
      → (first.kind ≢ Memory → IsFirstFault all e first) → Reads IsTableTree end (Err first) rest (table_at the_tests (inner_at depth) start)
  table_stops e first read memory h = λ other.
      let known : e.kind ≢ Memory = λ m. other (memory m) in
      let rows_read = read known in
      elim (h other) [
        | inl x ↦ rows_read.read (suc (length start)) (omega arith) x.0 known ∙ ap Err (sym x.1)
        | inr i ↦ rows_read.twice (suc (length start)) i.0 (omega arith) i.1 ∙ ap Err (sym i.2)
      ]

-- ---- elements

-- These trees were read from `start` up to `now`.
pub record ElementsAt (depth : ℕ) (start now : Cursor) (trees : List Tree) : Type 0 where
  pub same_end : now.end ≡ start.end
  pub no_longer : length now.rest ≤ length start.rest
  pub so_far : ElementsSoFar (nat_lt 0 depth) (body the_tests depth) (suc (length start.rest)) start.rest trees now.rest

pub elements_begin : (depth : ℕ) (start : Cursor) (trees : List Tree) → trees ≡ [] → ElementsAt depth start start trees
elements_begin depth start trees none = record {
  same_end = refl;
  no_longer = omega arith;
  so_far = rw none (parts.elements_start (nat_lt 0 depth) (body the_tests depth) (suc (length start.rest)) start.rest (omega arith));
}

abbrev pub all_elements : ℕ → List Token → Read Elements
all_elements depth ts = elements (nat_lt 0 depth) (body the_tests depth) (suc (length ts)) ts

-- Reading the elements stops with this error, unless memory ran out.
abbrev pub ElementsStop : ℕ → Cursor → SourceFault → Type 0
ElementsStop depth start e = e.kind ≢ Memory → located start.end (all_elements depth start.rest) ≡ Err e

module _ {depth : ℕ} {start now : Cursor} {trees : List Tree} (inv : ElementsAt depth start now trees) where
  pub elements_too_deep : (s : List ℕ) (e : SourceFault) → first_text now.rest ≡ Some s → depth ≡ 0 → e.kind ≡ TooDeep
      → e.line ≡ line_at now.end now.rest → ElementsStop depth start e
  elements_too_deep s e comes none kind line = λ other.
      parts.stop_deep (nat_lt 0 depth) (body the_tests depth) (suc (length start.rest)) start.rest now.rest trees inv.so_far start.end s e
      comes
      (ap (nat_lt 0) none) kind (line ∙ ap (λ end. line_at end now.rest) inv.same_end)

  pub elements_bad_body : (e : SourceFault) → (first_text now.rest ≡ None) × ((begins colon now.rest || begins left now.rest) ≡ true)
      → (e.kind ≢ Memory → located now.end (body the_tests depth now.rest) ≡ Err e) → ElementsStop depth start e
  elements_bad_body e comes h = λ other.
      parts.stop_element (nat_lt 0 depth) (body the_tests depth) (suc (length start.rest)) start.rest now.rest trees inv.so_far start.end e
      comes.0 comes.1 (ap (λ end. located end (body the_tests depth now.rest)) (sym inv.same_end) ∙ h other)

  pub elements_open : (e : SourceFault) → (first_text now.rest ≡ None) × ((begins colon now.rest || begins left now.rest) ≡ false)
      → (e.kind ≢ Memory → located now.end (punctuation_at right now.rest) ≡ Err e) → ElementsStop depth start e
  elements_open e comes h = λ other.
      parts.stop_open (nat_lt 0 depth) (body the_tests depth) (suc (length start.rest)) start.rest now.rest trees inv.so_far start.end e
      comes.0 comes.1 (ap (λ end. located end (punctuation_at right now.rest)) (sym inv.same_end) ∙ h other)

  pub elements_done : (r : List Token) → (first_text now.rest ≡ None) × ((begins colon now.rest || begins left now.rest) ≡ false)
      → punctuation_at right now.rest ≡ Ok r
      → (xs : Elements) × (all_elements depth start.rest ≡ Ok (xs, r)) × EachSpells xs (views_of trees)
  elements_done r comes h =
      parts.elements_end (nat_lt 0 depth) (body the_tests depth) (suc (length start.rest)) start.rest now.rest trees inv.so_far r comes.0 comes.1 h

  pub elements_text : (s : List ℕ) (next after : Cursor) (more : List Tree) → first_text now.rest ≡ Some s → 0 < depth → TextTaken now next
      → after.end ≡ next.end → after.rest ≡ after_comma next.rest → length after.rest < length now.rest
      → more ≡ trees ++ String s ∷ [] → ElementsAt depth start after more
  elements_text s next after more comes some took after_end rest shorter more_is = record {
    same_end = after_end ∙ took.same_end ∙ inv.same_end;
    no_longer = omega (arith, inv.no_longer, shorter);
    so_far =
        rw more_is (parts.text_turn (nat_lt 0 depth) (body the_tests depth) (suc (length start.rest)) start.rest now.rest trees inv.so_far
        s after.rest comes (lt-ltb 0 depth some) (rest ∙ ap after_comma took.rest) shorter);
  }

  pub elements_body : (b : Body) (read after : Cursor) (t : Tree) (more : List Tree)
      → (first_text now.rest ≡ None) × ((begins colon now.rest || begins left now.rest) ≡ true)
      → body the_tests depth now.rest ≡ Ok (b, read.rest) → IsBodyTree t b → read.end ≡ now.end
      → after.end ≡ read.end → after.rest ≡ after_comma read.rest → length after.rest < length now.rest
      → more ≡ trees ++ t ∷ [] → ElementsAt depth start after more
  elements_body b read after t more comes h means read_end after_end rest shorter more_is = record {
    same_end = after_end ∙ read_end ∙ inv.same_end;
    no_longer = omega (arith, inv.no_longer, shorter);
    so_far =
        rw more_is (parts.body_turn (nat_lt 0 depth) (body the_tests depth) (suc (length start.rest)) start.rest now.rest trees inv.so_far
        b read.rest after.rest t comes.0 comes.1 h means rest shorter);
  }
