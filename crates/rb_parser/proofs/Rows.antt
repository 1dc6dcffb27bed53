-- The entries of a table, one after another, as the code reads them.
use Rattle.std.proofs.Common.{◌≡◌, ℕ, suc, ◌<◌, ◌++◌, ◌-◌, Bool, true, false, List, [], ◌∷◌, length, Some, None, Ok, Err, refl, sym, ap, ap₂, ◌∙◌}
use Rattle.std.proofs.Common.{arith}
use Rattle.rb_lexer.specs.declared.token.Token.{Token}
use Rattle.rb_lexer.specs.declared.fault.SourceKind.TheVariants.{BadKey, DuplicateKey}
use Rattle.rb_lexer.specs.declared.fault.SourceFault.{SourceFault}
use Rattle.rb_tree.specs.Keys.{IsKey}
use Rattle.rb_tree.specs.declared.tree.Tree.{Tree}
use Rattle.rb_grammar.specs.Faults.{line_at}
use Rattle.rb_grammar.specs.Form.{Body, Entries, no_entries, entry}
use Rattle.rb_grammar.specs.Reading.{stop, Read, ◌>>=◌, right, tail, first_text, punctuation_at, has_comma, after_comma, is_among, entries_step, entries}
use Rattle.rb_grammar.specs.Tests.{the_tests}
use Rattle.rb_grammar.proofs.Conditions.{are_tests}
use Rattle.rb_parser.specs.inner.Reads.{located, IsBodyTree, AreEntries}
use Rattle.rb_parser.specs.inner.Rows.{Pair, keys_after}
use Rattle.rb_parser.proofs.Steps.{located_bind, stops_at}

-- an entry that was read: its key, its body, and whether a comma follows
abbrev Row : Type 0
Row = List ℕ × Body × Bool

abbrev rows_first : List Row → Entries → Entries
rows_first [] es = es
rows_first (r ∷ rs) es = entry r.0 r.1 r.2 (rows_first rs es)

abbrev put_row : Row → Entries × List Token → Read Entries
put_row r x = Ok (entry r.0 r.1 r.2 x.0, x.1)

abbrev put_rows : List Row → Entries × List Token → Read Entries
put_rows rs x = Ok (rows_first rs x.0, x.1)

abbrev AreRows : List Pair → List Row → Type 0
AreRows [] [] = Unit {0}
AreRows [] (r ∷ rs) = ⊥
AreRows (p ∷ ps) [] = ⊥
AreRows (p ∷ ps) (r ∷ rs) = (p.0 ≡ r.0) × IsBodyTree p.1 r.1 × AreRows ps rs

pub keys_push : (ps : List Pair) (p : Pair) (ks : List (List ℕ)) → keys_after (ps ++ p ∷ []) ks ≡ p.0 ∷ keys_after ps ks
keys_push [] p ks = refl
keys_push (q ∷ ps) p ks = keys_push ps p (q.0 ∷ ks)

rows_push : (rs : List Row) (r : Row) (es : Entries) → rows_first (rs ++ r ∷ []) es ≡ rows_first rs (entry r.0 r.1 r.2 es)
rows_push [] r es = refl
rows_push (q ∷ rs) r es = ap (entry q.0 q.1 q.2) (rows_push rs r es)

are_more : (ps : List Pair) (rs : List Row) (p : Pair) (r : Row) → AreRows ps rs → p.0 ≡ r.0 → IsBodyTree p.1 r.1 → AreRows (ps ++ p ∷ []) (rs ++ r ∷ [])
are_more [] [] p r are same means = (same, means, tt)
are_more [] (s ∷ rs) p r are same means = absurd are
are_more (q ∷ ps) [] p r are same means = absurd are
are_more (q ∷ ps) (s ∷ rs) p r are same means = (are.0, are.1, are_more ps rs p r are.2 same means)

are_entries : (ps : List Pair) (rs : List Row) → AreRows ps rs → AreEntries ps (rows_first rs no_entries)
are_entries [] [] are = tt
are_entries [] (r ∷ rs) are = absurd are
are_entries (p ∷ ps) [] are = absurd are
are_entries (p ∷ ps) (r ∷ rs) are = (are.0, are.1, are_entries ps rs are.2)

regroup : (rs : List Row) (r : Row) (x : Read Entries) → ((x >>= put_row r) >>= put_rows rs) ≡ (x >>= put_rows (rs ++ r ∷ []))
regroup rs r (Ok x) = ap (λ (es : Entries). Ok (es, x.1)) (sym (rows_push rs r x.0))
regroup rs r (Err s) = refl

key_passes : (k : List ℕ) → IsKey k → the_tests.is_key k ≡ true
key_passes k good = by (the_tests.is_key k) refl where
  by : (b : Bool) → the_tests.is_key k ≡ b → the_tests.is_key k ≡ true
  by true e = e
  by false e = absurd (are_tests.keys.1 k e good)

key_fails : (k : List ℕ) → (IsKey k → ⊥) → the_tests.is_key k ≡ false
key_fails k bad = by (the_tests.is_key k) refl where
  by : (b : Bool) → the_tests.is_key k ≡ b → the_tests.is_key k ≡ false
  by true e = absurd (bad (are_tests.keys.0 k e))
  by false e = e

module _ (reads : List Token → Read Body) where
  -- Some entries are read, in as many turns as are enough; what more there is, is read from here on.
  pub record EntriesSoFar (n : ℕ) (start : List Token) (ps : List Pair) (ts : List Token) : Type 0 where
    pub turns : ℕ
    pub enough : length ts < turns
    pub rows : List Row
    pub are : AreRows ps rows
    pub same : entries the_tests reads n [] start ≡ (entries the_tests reads turns (keys_after ps []) ts >>= put_rows rows)

  unchanged : (r : Read Entries) → r ≡ (r >>= put_rows [])
  unchanged (Ok x) = refl
  unchanged (Err s) = refl

  pub entries_start : (n : ℕ) (ts : List Token) → length ts < n → EntriesSoFar n ts [] ts
  entries_start n ts enough = record { turns = n; enough = enough; rows = []; are = tt; same = unchanged (entries the_tests reads n [] ts) }

  module _ (m k : ℕ) (ks : List (List ℕ)) (ts : List Token) (some : m ≡ suc k) where
    step_is : entries the_tests reads m ks ts ≡ entries_step the_tests reads (entries the_tests reads k) ks ts (first_text ts)
    unfolding entries
    step_is = rw some refl

    closed : (r : List Token) → first_text ts ≡ None → punctuation_at right ts ≡ Ok r → entries the_tests reads m ks ts ≡ Ok (no_entries, r)
    closed r none h = rw (step_is, none, h) refl

    not_closed : (end : ℕ) (e : SourceFault) → first_text ts ≡ None → located end (punctuation_at right ts) ≡ Err e
        → located end (entries the_tests reads m ks ts) ≡ Err e
    not_closed end e none h = rw (step_is, none) (located_bind end (punctuation_at right ts) (λ after. Ok (no_entries, after)) e h)

    bad_key : (s : List ℕ) → first_text ts ≡ Some s → (IsKey s → ⊥) → entries the_tests reads m ks ts ≡ Err (stop BadKey ts)
    bad_key s comes bad = let fails = key_fails s bad in rw (step_is, comes, fails) refl

    twice : (s : List ℕ) → first_text ts ≡ Some s → IsKey s → is_among ks s ≡ true → entries the_tests reads m ks ts ≡ Err (stop DuplicateKey ts)
    twice s comes good among = let passes = key_passes s good in rw (step_is, comes, passes, among) refl

    bad_body : (end : ℕ) (s : List ℕ) (e : SourceFault) → first_text ts ≡ Some s → IsKey s → is_among ks s ≡ false → located end (reads (tail ts)) ≡ Err e
        → located end (entries the_tests reads m ks ts) ≡ Err e
    bad_body end s e comes good new h =
        let passes = key_passes s good in
        rw (step_is, comes, passes, new) (located_bind end (reads (tail ts))
        (λ b. entries the_tests reads k (s ∷ ks) (after_comma b.1) >>= λ es. Ok (entry s b.0 (has_comma b.1) es.0, es.1)) e h)

    one : (s : List ℕ) (b : Body) (r : List Token) → first_text ts ≡ Some s → IsKey s → is_among ks s ≡ false → reads (tail ts) ≡ Ok (b, r)
        → entries the_tests reads m ks ts ≡ (entries the_tests reads k (s ∷ ks) (after_comma r) >>= put_row (s, b, has_comma r))
    one s b r comes good new h = let passes = key_passes s good in rw (step_is, comes, passes, new, h) refl

  module _ (n : ℕ) (start ts : List Token) (ps : List Pair) (so : EntriesSoFar n start ps ts) where
    below : (k : ℕ) × (so.turns ≡ suc k)
    below = (so.turns - 1, omega (arith, so.enough))

    stops : (end : ℕ) (e : SourceFault) → located end (entries the_tests reads so.turns (keys_after ps []) ts) ≡ Err e
        → located end (entries the_tests reads n [] start) ≡ Err e
    stops end e h = ap (located end) so.same ∙ located_bind end (entries the_tests reads so.turns (keys_after ps []) ts) (put_rows so.rows) e h

    pub stop_bad_key : (end : ℕ) (s : List ℕ) (e : SourceFault) → first_text ts ≡ Some s → (IsKey s → ⊥) → e.kind ≡ BadKey → e.line ≡ line_at end ts
        → located end (entries the_tests reads n [] start) ≡ Err e
    stop_bad_key end s e comes bad k l =
        stops end e (stops_at end BadKey ts e (entries the_tests reads so.turns (keys_after ps []) ts)
        (bad_key so.turns below.0 (keys_after ps []) ts below.1 s comes bad) k l)

    pub stop_twice : (end : ℕ) (s : List ℕ) (e : SourceFault) → first_text ts ≡ Some s → IsKey s → is_among (keys_after ps []) s ≡ true → e.kind ≡ DuplicateKey
        → e.line ≡ line_at end ts → located end (entries the_tests reads n [] start) ≡ Err e
    stop_twice end s e comes good among k l =
        stops end e (stops_at end DuplicateKey ts e (entries the_tests reads so.turns (keys_after ps []) ts)
        (twice so.turns below.0 (keys_after ps []) ts below.1 s comes good among) k l)

    pub stop_body : (end : ℕ) (s : List ℕ) (e : SourceFault) → first_text ts ≡ Some s → IsKey s → is_among (keys_after ps []) s ≡ false
        → located end (reads (tail ts)) ≡ Err e → located end (entries the_tests reads n [] start) ≡ Err e
    stop_body end s e comes good new h = stops end e (bad_body so.turns below.0 (keys_after ps []) ts below.1 end s e comes good new h)

    pub stop_open : (end : ℕ) (e : SourceFault) → first_text ts ≡ None → located end (punctuation_at right ts) ≡ Err e
        → located end (entries the_tests reads n [] start) ≡ Err e
    stop_open end e none h = stops end e (not_closed so.turns below.0 (keys_after ps []) ts below.1 end e none h)

    pub entries_end : (r : List Token) → first_text ts ≡ None → punctuation_at right ts ≡ Ok r
        → (es : Entries) × (entries the_tests reads n [] start ≡ Ok (es, r)) × AreEntries ps es
    entries_end r none h = (
      rows_first so.rows no_entries,
      so.same ∙ ap (λ (x : Read Entries). x >>= put_rows so.rows) (closed so.turns below.0 (keys_after ps []) ts below.1 r none h),
      are_entries ps so.rows so.are,
    )

    pub entries_turn : (s : List ℕ) (b : Body) (r after : List Token) (key : List ℕ) (t : Tree) → first_text ts ≡ Some s → IsKey s
        → is_among (keys_after ps []) s ≡ false → reads (tail ts) ≡ Ok (b, r) → IsBodyTree t b → key ≡ s → after ≡ after_comma r → length after < length ts
        → EntriesSoFar n start (ps ++ (key, t) ∷ []) after
    entries_turn s b r after key t comes good new h means same is shorter =
        let row : Row = (s, b, has_comma r) in
        let pair : Pair = (key, t) in
        record {
          turns = below.0;
          enough = omega (arith, so.enough, below.1);
          rows = so.rows ++ row ∷ [];
          are = are_more ps so.rows pair row so.are same means;
          same = so.same ∙ ap (λ (x : Read Entries). x >>= put_rows so.rows) (one so.turns below.0 (keys_after ps []) ts below.1 s b r comes good new h)
              ∙ regroup so.rows row (entries the_tests reads below.0 (s ∷ keys_after ps []) (after_comma r))
              ∙ ap₂ (λ (ks : List (List ℕ)) (l : List Token). entries the_tests reads below.0 ks l >>= put_rows (so.rows ++ row ∷ []))
              (ap (λ (k : List ℕ). k ∷ keys_after ps []) (sym same) ∙ sym (keys_push ps pair [])) (sym is);
        }
