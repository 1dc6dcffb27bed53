use Rattle.std.proofs.Common.{◌≢◌, [], ◌≡◌, ℕ, ◌<◌, ◌-◌, length, List, Ok, refl, sym, ap, subst, ◌∙◌, arith, Vec, Global}
use Rattle.std.proofs.lemmas.Result.{err_from_is_err_and}
use Rattle.rb_tree.specs.Keys.{IsKey}
use Rattle.rb_tree.specs.declared.tree.Tree.{Tree}
use Rattle.rb_grammar.specs.Form.{leaf, plain}
use Rattle.rb_grammar.specs.Reading.{after_comma, typed_at, untyped_at, guess, body}
use Rattle.rb_grammar.specs.Tests.{the_tests}
use Rattle.rb_parser.specs.inner.Reads.{inner_at, IsBodyTree}
use Rattle.rb_parser.specs.declared.cursor.Cursor.{Cursor}
use Rattle.rb_parser.proofs.Bodies.{reads_same, depth_error, bad_word, no_brace, typed_body, unopened, untyped_body, leaf_stops, leaf_open, leaf_reads}
use Rattle.rb_parser.proofs.Bodies.{plain_reads}
use Rattle.rb_lexer.specs.declared.fault.SourceKind.TheVariants.{Memory}
use Rattle.rb_grammar.specs.Reading.{is_among}
use Rattle.rb_parser.specs.inner.Rows.{keys_after, later_fault}
use Rattle.rb_parser.proofs.Loops.{entries_begin, entries_bad_key, entries_bad_body, entries_open, entries_done, entries_more, table_reads, table_stops}
use Rattle.rb_parser.proofs.Loops.{elements_begin, elements_too_deep, elements_bad_body, elements_open, elements_done, elements_text, elements_body}
use Rattle.rb_parser.proofs.Steps.{text_parts}
use Rattle.rb_parser.proofs.Takes.{next_text, next_colon, next_left, next_body, next_other, no_body}
use Rattle.rb_parser.proofs.parser.+body.Goals.{read_array-in-Text+else-depth-eq0+in_ok-text-in-Text+in_ok-add_tree-in-Text}
use Rattle.rb_parser.proofs.parser.+body.Goals.{read_array-in-Left+in_ok-read_body-in-Left+in_ok-add_tree-in-Left}
use Rattle.rb_parser.proofs.parser.+body.Goals as goal

pub read_body-returns-then-depth-eq0-clause-exact : goal.read_body-returns-then-depth-eq0-clause-exact
read_body-returns-then-depth-eq0-clause-exact t c = λ other.
    depth_error c.args.cursor.now.end c.args.depth c.args.cursor.now.rest c.depth_error.result c.if-depth-eq0.true c.depth_error.ensures.kind
    c.depth_error.ensures.line

pub read_body-returns-in_err-word-in-Colon-clause-exact : goal.read_body-returns-in_err-word-in-Colon-clause-exact
read_body-returns-in_err-word-in-Colon-clause-exact t c =
    let p = err_from_is_err_and c.from_residual-in_err-word-in-Colon.result c.from_residual-in_err-word-in-Colon.ensures.1 in
    let comes = next_colon c.args.cursor.now.rest (sym c.next.ensures ∙ c.in-Colon.is) in
    rw (p.1, p.2) (λ other. bad_word c.args.depth (c.args.depth - 1) c.args.cursor.now.rest (omega arith) c.skip.new.self.rest comes
    c.in_ok-skip-in-Colon.ensures.rest c.args.cursor.now.end c.skip.new.self.end _ c.in_ok-skip-in-Colon.ensures.same_end
    (c.in_err-word-in-Colon.ensures.exact other))

pub read_body-returns-in_err-expect-in-Colon-clause-exact : goal.read_body-returns-in_err-expect-in-Colon-clause-exact
read_body-returns-in_err-expect-in-Colon-clause-exact t c =
    let p = err_from_is_err_and c.from_residual-in_err-expect-in-Colon.result c.from_residual-in_err-expect-in-Colon.ensures.1 in
    let comes = next_colon c.args.cursor.now.rest (sym c.next.ensures ∙ c.in-Colon.is) in
    let w = c.in_ok-word-in-Colon.ensures.exact in
    rw (p.1, p.2) (λ other. no_brace c.args.depth (c.args.depth - 1) c.args.cursor.now.rest (omega arith) c.skip.new.self.rest comes
    c.in_ok-skip-in-Colon.ensures.rest w.0 c.word.new.self.rest w.1 c.args.cursor.now.end c.word.new.self.end _
    (c.in_ok-word-in-Colon.ensures.same_end ∙ c.in_ok-skip-in-Colon.ensures.same_end) (c.in_err-expect-in-Colon.ensures.exact other))

pub read_body-returns-in_ok-expect-in-Colon-clause-exact : goal.read_body-returns-in_ok-expect-in-Colon-clause-exact
read_body-returns-in_ok-expect-in-Colon-clause-exact t c =
    let comes = next_colon c.args.cursor.now.rest (sym c.next.ensures ∙ c.in-Colon.is) in
    let w = c.in_ok-word-in-Colon.ensures.exact in
    let below = c.args.depth - 1 in
    let same : c.expect.new.self.end ≡ c.args.cursor.now.end =
    c.in_ok-expect-in-Colon.ensures.same_end ∙ c.in_ok-word-in-Colon.ensures.same_end ∙ c.in_ok-skip-in-Colon.ensures.same_end in
    reads_same IsBodyTree c.args.cursor.now.end c.expect.new.self.end c.read_typed.result c.read_typed.new.cursor.rest
    (typed_at the_tests (inner_at below) w.0 c.expect.new.self.rest) (body the_tests c.args.depth c.args.cursor.now.rest) same
    (typed_body c.args.depth below c.args.cursor.now.rest (omega arith) c.skip.new.self.rest comes c.in_ok-skip-in-Colon.ensures.rest
    w.0 c.word.new.self.rest w.1 c.expect.new.self.rest c.in_ok-expect-in-Colon.ensures.exact)
    (c.read_typed.ensures.exact w.0 (sym w.2))

pub read_body-returns-in_ok-skip-in-Left-clause-exact : goal.read_body-returns-in_ok-skip-in-Left-clause-exact
read_body-returns-in_ok-skip-in-Left-clause-exact t c =
    let comes = next_left c.args.cursor.now.rest (sym c.next.ensures ∙ c.in-Left.is) in
    let below = c.args.depth - 1 in
    let after = c.skip-in-Left.new.self.rest in
    reads_same IsBodyTree c.args.cursor.now.end c.skip-in-Left.new.self.end c.read_untyped.result c.read_untyped.new.cursor.rest
    (untyped_at the_tests (inner_at below) (guess after) after) (body the_tests c.args.depth c.args.cursor.now.rest)
    c.in_ok-skip-in-Left.ensures.same_end
    (untyped_body c.args.depth below c.args.cursor.now.rest (omega arith) comes.0 after comes.1 c.in_ok-skip-in-Left.ensures.rest)
    c.read_untyped.ensures.exact

pub read_body-returns-in-Text-clause-exact : goal.read_body-returns-in-Text-clause-exact
read_body-returns-in-Text-clause-exact t c = λ other.
    let none = no_body c.args.cursor.now.rest (rw c.next.ensures at c.in-Text.is) in
    unopened c.args.depth (c.args.depth - 1) c.args.cursor.now.rest (omega arith) none.0 c.args.cursor.now.end c.fault.result none.1
    c.fault.ensures.kind c.fault.ensures.line

pub read_typed-returns-in_err-tree-in-Leaf-clause-exact : goal.read_typed-returns-in_err-tree-in-Leaf-clause-exact
read_typed-returns-in_err-tree-in-Leaf-clause-exact t c = λ w is.
    let p = err_from_is_err_and c.from_residual.result c.from_residual.ensures.1 in
    let named = is ∙ c.in-Leaf.is in
    rw (p.1, p.2) (λ other. leaf_stops (inner_at c.args.depth) w c.in-Leaf.leaf c.args.cursor.now.rest named c.args.cursor.now.end _
    (c.in_err-tree-in-Leaf.ensures.exact w named other))

pub read_typed-returns-in_err-expect-in-Leaf-clause-exact : goal.read_typed-returns-in_err-expect-in-Leaf-clause-exact
read_typed-returns-in_err-expect-in-Leaf-clause-exact t c = λ w is.
    let p = err_from_is_err_and c.from_residual-in_err-expect-in-Leaf.result c.from_residual-in_err-expect-in-Leaf.ensures.1 in
    let named = is ∙ c.in-Leaf.is in
    let y = c.in_ok-tree-in-Leaf.ensures.exact w named in
    rw (p.1, p.2) (λ other. leaf_open (inner_at c.args.depth) w c.in-Leaf.leaf c.args.cursor.now.rest named y.0 c.read_leaf.new.cursor.rest y.1
    c.args.cursor.now.end c.read_leaf.new.cursor.end _ c.in_ok-tree-in-Leaf.ensures.same_end (c.in_err-expect-in-Leaf.ensures.exact other))

pub read_typed-returns-in_ok-expect-in-Leaf-clause-exact : goal.read_typed-returns-in_ok-expect-in-Leaf-clause-exact
read_typed-returns-in_ok-expect-in-Leaf-clause-exact t c = λ w is.
    let named = is ∙ c.in-Leaf.is in
    let y = c.in_ok-tree-in-Leaf.ensures.exact w named in (
      leaf y.0,
      leaf_reads (inner_at c.args.depth) w c.in-Leaf.leaf c.args.cursor.now.rest named y.0 c.read_leaf.new.cursor.rest y.1
          c.expect.new.self.rest c.in_ok-expect-in-Leaf.ensures.exact,
      y.2,
    )

pub read_untyped-returns-in_ok-expect-in-Text-clause-exact : goal.read_untyped-returns-in_ok-expect-in-Text-clause-exact
read_untyped-returns-in_ok-expect-in-Text-clause-exact t c =
    let s = c.in_ok-text-in-Text.text in (
      plain s,
      plain_reads (inner_at c.args.depth) c.args.cursor.now.end c.args.cursor.now.rest c.text.new.self.rest c.expect.new.self.rest s
          c.guess.result (c.in_ok-guess.was ∙ ap Ok c.in-Text.is) c.guess.ensures c.in_ok-text-in-Text.ensures.exact c.in_ok-expect-in-Text.ensures.exact,
      refl,
    )

pub read_table-returns-in-Ok-clause-exact : goal.read_table-returns-in-Ok-clause-exact
read_table-returns-in-Ok-clause-exact t c =
    table_reads c.args.depth c.args.cursor.now.end c.args.cursor.now.rest c.read_rows.new.rows c.read_rows.new.cursor.rest c.table.result
    (c.in-Ok.ensures.rows tt) c.table.ensures.table c.table.ensures.no_repeat c.table.ensures.repeat

pub read_table-returns-in-Err-clause-exact : goal.read_table-returns-in-Err-clause-exact
read_table-returns-in-Err-clause-exact t c =
    table_stops c.args.depth c.args.cursor.now.end c.args.cursor.now.rest c.read_rows.new.rows c.read_rows.new.cursor.rest c.in-Err.fault
    c.first_fault.result c.in-Err.ensures.rows c.first_fault.ensures.memory c.first_fault.ensures.first

pub read_rows-entries-init : goal.read_rows-entries-init
read_rows-entries-init t c =
    entries_begin c.args.depth c.args.cursor.now c.args.rows.now.pairs.items c.args.rows.now.lines.items c.requires.pairs c.requires.lines

pub read_rows-returns-in_default-2-clause-rows : goal.read_rows-returns-in_default-2-clause-rows
read_rows-returns-in_default-2-clause-rows t c = λ other.
    let none = rw c.in_default-2.is at c.in_ok-key.ensures in
    entries_bad_key c.entries.rows c.entries.invariant _ c.in-Some.text c.fault-bad.result (rw c.in-Some.is at c.in_ok-text.ensures.text)
    (λ h. none (subst (λ (l : List ℕ). IsKey l) (sym c.as_slice.ensures) h)) c.fault-bad.ensures.kind c.fault-bad.ensures.line

pub read_rows-returns-in-Err-clause-rows : goal.read_rows-returns-in-Err-clause-rows
read_rows-returns-in-Err-clause-rows t c = λ other.
    let key = rw c.in-Some-2.is at c.in_ok-key.ensures in
    let known : c.in-Err.fault.kind ≢ Memory = λ m. other (c.fault_at.ensures.memory m) in
    let text : c.as_slice-in-Err.result.now ≡ c.in-Some.text = c.as_slice-in-Err.ensures ∙ key.1 ∙ c.as_slice.ensures in
    entries_bad_body c.entries.rows c.entries.invariant _ c.in-Some.text c.in-Err.fault c.fault_at.result c.take_text.new.self c.fault-bad.result.line
    (rw c.in-Some.is at c.in_ok-text.ensures.text) (subst (λ (l : List ℕ). IsKey l) c.as_slice.ensures key.0)
    (record { same_end = c.take_text.ensures.same_end; rest = rw c.in-Some.is at c.in_ok-text.ensures.rest }) (c.in-Err.ensures.exact known)
    c.fault-bad.ensures.line
    (c.fault_at.ensures.other known ∙ ap (λ (l : List ℕ). later_fault (is_among (keys_after c.entries.rows.pairs.items []) l) c.fault-bad.result.line c.in-Err.fault) text)

pub read_rows-entries-preserved : goal.read_rows-entries-preserved
read_rows-entries-preserved t c =
    let key = rw c.in-Some-2.is at c.in_ok-key.ensures in
    let b = c.in-Ok.ensures.exact in
    let shorter : length c.take.new.self.rest < length c.entries.cursor.rest =
    omega (arith, (rw c.in-Some.is at c.in_ok-text.ensures.shorter), c.in-Ok.ensures.shorter, c.in_ok-take.ensures.no_longer) in
    entries_more c.entries.rows c.entries.invariant c.in-Some.text b.0 c.take_text.new.self c.read_body.new.cursor c.take.new.self c.in-Some-2.key c.in-Ok.tree
    c.fault-bad.result.line c.add.new.self.pairs.items c.add.new.self.lines.items (rw c.in-Some.is at c.in_ok-text.ensures.text)
    (subst (λ (l : List ℕ). IsKey l) c.as_slice.ensures key.0) c.fault-bad.ensures.line
    (record { same_end = c.take_text.ensures.same_end; rest = rw c.in-Some.is at c.in_ok-text.ensures.rest }) b.1 b.2 c.in-Ok.ensures.same_end
    c.in_ok-take.ensures.same_end c.in_ok-take.ensures.rest shorter (key.1 ∙ c.as_slice.ensures) c.in_ok-add.ensures.pairs c.in_ok-add.ensures.lines

pub read_rows-returns-in_err-expect-clause-rows : goal.read_rows-returns-in_err-expect-clause-rows
read_rows-returns-in_err-expect-clause-rows t c =
    let p = err_from_is_err_and c.from_residual-in_err-expect.result c.from_residual-in_err-expect.ensures.1 in
    rw (p.1, p.2) (λ other. entries_open c.entries.rows c.entries.invariant _ _ c.take_text.new.self
    (record {
      none = rw c.in_default.is at c.in_ok-text.ensures.text;
      same_end = c.take_text.ensures.same_end;
      rest = rw c.in_default.is at c.in_ok-text.ensures.rest;
    }) c.in_err-expect.ensures.exact)

pub read_rows-returns-clause-rows : goal.read_rows-returns-clause-rows
read_rows-returns-clause-rows t c = λ _.
    entries_done c.entries.rows c.entries.invariant c.take_text.new.self c.expect.new.self.rest
    (record {
      none = rw c.in_default.is at c.in_ok-text.ensures.text;
      same_end = c.take_text.ensures.same_end;
      rest = rw c.in_default.is at c.in_ok-text.ensures.rest;
    }) c.in_ok-expect.ensures.exact

pub read_array-elements-init : goal.read_array-elements-init
read_array-elements-init t c = elements_begin c.args.depth c.args.cursor.now c.new-trees.result.items c.new-trees.ensures.items

pub read_array-returns-then-depth-eq0-clause-exact : goal.read_array-returns-then-depth-eq0-clause-exact
read_array-returns-then-depth-eq0-clause-exact t c =
    let comes = next_text c.elements.cursor.rest (sym c.next.ensures ∙ c.in-Text.is) in
    elements_too_deep c.elements.invariant comes.0 c.fault.result comes.1 c.if-depth-eq0.true c.fault.ensures.kind c.fault.ensures.line

pub read_array-returns-in_err-read_body-in-Left-clause-exact : goal.read_array-returns-in_err-read_body-in-Left-clause-exact
read_array-returns-in_err-read_body-in-Left-clause-exact t c =
    let p = err_from_is_err_and c.from_residual-in_err-read_body-in-Left.result c.from_residual-in_err-read_body-in-Left.ensures.1 in
    rw (p.1, p.2) (elements_bad_body c.elements.invariant _ (next_body c.elements.cursor.rest (rw c.next.ensures at c.in-Left.is))
    c.in_err-read_body-in-Left.ensures.exact)

pub read_array-returns-in_err-expect-clause-exact : goal.read_array-returns-in_err-expect-clause-exact
read_array-returns-in_err-expect-clause-exact t c =
    let p = err_from_is_err_and c.from_residual-in_err-expect.result c.from_residual-in_err-expect.ensures.1 in
    rw (p.1, p.2) (elements_open c.elements.invariant _ (next_other c.elements.cursor.rest (sym c.next.ensures ∙ c.in-Other.is))
    c.in_err-expect.ensures.exact)

pub read_array-returns-clause-exact : goal.read_array-returns-clause-exact
read_array-returns-clause-exact t c =
    let x = elements_done c.elements.invariant c.expect.new.self.rest (next_other c.elements.cursor.rest (sym c.next.ensures ∙ c.in-Other.is))
    c.in_ok-expect.ensures.exact in
    (x.0, x.1, (_, ap (λ v. Rattle.rb_tree.specs.Resource.array v) c.from_vec.ensures, x.2))

pub read_array-elements-preserved : goal.read_array-elements-preserved
read_array-elements-preserved t c =
    elim c.match-next.branch [
      | read_array-in-Text+else-depth-eq0+in_ok-text-in-Text+in_ok-add_tree-in-Text w ↦
          let now : length c.match-next.cursor.rest ≡ length w.text.new.self.rest = ap (λ (x : Cursor). length x.rest) w.cursor-is in
          let taken = text_parts c.elements.cursor.rest w.text.new.self.rest w.in_ok-text-in-Text.text w.in_ok-text-in-Text.ensures.exact in
          let shorter : length c.take.new.self.rest < length c.elements.cursor.rest =
          omega (arith, w.in_ok-text-in-Text.ensures.shorter, c.in_ok-take.ensures.no_longer, now) in
          elements_text c.elements.invariant w.in_ok-text-in-Text.text w.text.new.self c.take.new.self c.match-next.trees.items taken.0
          (omega arith)
          (record { same_end = w.in_ok-text-in-Text.ensures.same_end; rest = sym taken.1 })
          (c.in_ok-take.ensures.same_end ∙ ap (λ (x : Cursor). x.end) w.cursor-is)
          (c.in_ok-take.ensures.rest ∙ ap (λ (x : Cursor). after_comma x.rest) w.cursor-is) shorter
          (ap (λ (v : Vec Tree Global). v.items) w.trees-is ∙ w.in_ok-add_tree-in-Text.ensures)
      | read_array-in-Left+in_ok-read_body-in-Left+in_ok-add_tree-in-Left w ↦
          let now : length c.match-next.cursor.rest ≡ length w.read_body.new.cursor.rest = ap (λ (x : Cursor). length x.rest) w.cursor-is in
          let b = w.in_ok-read_body-in-Left.ensures.exact in
          let shorter : length c.take.new.self.rest < length c.elements.cursor.rest =
          omega (arith, w.in_ok-read_body-in-Left.ensures.shorter, c.in_ok-take.ensures.no_longer, now) in
          elements_body c.elements.invariant b.0 w.read_body.new.cursor c.take.new.self w.in_ok-read_body-in-Left.field-0 c.match-next.trees.items
          (next_body c.elements.cursor.rest (rw c.next.ensures at w.in-Left.is)) b.1 b.2 w.in_ok-read_body-in-Left.ensures.same_end
          (c.in_ok-take.ensures.same_end ∙ ap (λ (x : Cursor). x.end) w.cursor-is)
          (c.in_ok-take.ensures.rest ∙ ap (λ (x : Cursor). after_comma x.rest) w.cursor-is) shorter
          (ap (λ (v : Vec Tree Global). v.items) w.trees-is ∙ w.in_ok-add_tree-in-Left.ensures)
    ]
