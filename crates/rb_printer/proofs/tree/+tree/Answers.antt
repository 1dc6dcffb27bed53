use Rattle.std.proofs.Common.{◌≡◌, ◌<◌, ◌^◌, ℕ, List, Some, sym, subst, arith}
use Rattle.std.specs.Prelude.{slice_get}
use Rattle.std.specs.Map.{keys_of}
use Rattle.rb_tree.specs.Resource.{Resource, height}
use Rattle.rb_tree.specs.inner.Lower.{child_lower}
use Rattle.rb_printer.proofs.Trees.{items_put, items_end, entries_put, entries_end, table_put, array_children, table_children, table_pairs}
use Rattle.std.proofs.lemmas.Result.{err_from_is_err_and}
use Rattle.rb_printer.proofs.Trees.{string_exceeds, alias_exceeds, items_exceed, table_exceeds, entries_exceed}
use Rattle.rb_printer.proofs.Trees.{string_put, int_put, ints_put, binary_put, alias_put, child_well, int_well}
use Rattle.rb_printer.proofs.tree.+tree.Goals as goal

pub put_body-put_item-requires : goal.put_body-put_item-requires
put_body-put_item-requires g t c κs within =
    let tree = g.N.Node.tree in
    let lower : height (tree c.at-child.result) < height (tree c.args.node) =
    child_lower (tree c.args.node) (tree c.at-child.result) c.loop-i.i c.at-child.ensures in
    (omega (arith, lower, c.decreases), (within, (omega (arith, lower, c.requires.low), child_well _ _ c.loop-i.i c.requires.well c.at-child.ensures)))

pub put_body-loop-i-preserved : goal.put_body-loop-i-preserved
put_body-loop-i-preserved g t c =
    let tree = g.N.Node.tree in
    items_put _ _ _ _ _ c.args.level c.loop-i.remaining c.fit_item-fit.result.left (tree c.args.node) (tree c.at-child.result) c.loop-i.i
    c.fit_item-fit.result.fits c.loop-i.invariant
    (subst (λ (xs : List Resource). Some (tree c.at-child.result) ≡ slice_get xs c.loop-i.i) (array_children (tree c.args.node) (sym c.in-Array.ensures))
    c.at-child.ensures) c.fit_item-fit.ensures.fits c.fit_item-fit.ensures.left c.in_ok-put_pause-in-Array.ensures c.in_ok-put_item-in-Array.ensures.adds c.in_ok-put_item-in-Array.ensures.sound c.in_ok-put_str-in-Array.ensures

pub put_body-returns-in_ok-put_str-in-String-2-clause-adds : goal.put_body-returns-in_ok-put_str-in-String-2-clause-adds
put_body-returns-in_ok-put_str-in-String-2-clause-adds g t c =
    string_put _ _ _ _ c.args.level (g.N.Node.tree c.args.node) (sym c.in-String.ensures) c.in_ok-put_str-in-String.ensures
    c.in_ok-put_text_of-in-String.ensures.adds c.in_ok-put_str-in-String-2.ensures

pub put_body-returns-in_ok-put_str-in-Int-2-clause-adds : goal.put_body-returns-in_ok-put_str-in-Int-2-clause-adds
put_body-returns-in_ok-put_str-in-Int-2-clause-adds g t c =
    let tree = g.N.Node.tree c.args.node in
    int_put _ _ _ _ c.args.level c.int.result tree (sym c.in-Int.ensures) c.int.ensures
    (subst (λ (n : ℕ). n < 2 ^ 28) (sym c.int.ensures) (int_well tree (sym c.in-Int.ensures) c.requires.well))
    c.in_ok-put_str-in-Int.ensures c.in_ok-put_int-in-Int.ensures c.in_ok-put_str-in-Int-2.ensures

pub put_body-returns-in_ok-put_str-in-Ints-2-clause-adds : goal.put_body-returns-in_ok-put_str-in-Ints-2-clause-adds
put_body-returns-in_ok-put_str-in-Ints-2-clause-adds g t c =
    ints_put _ _ _ _ _ c.args.level c.wraps-wrapped.result (g.N.Node.tree c.args.node) (sym c.in-Ints.ensures) c.wraps-wrapped.ensures
    c.in_ok-put_str-in-Ints.ensures c.in_ok-put_numbers_of-in-Ints.ensures.adds c.in_ok-put_pause-in-Ints.ensures c.in_ok-put_str-in-Ints-2.ensures

pub put_body-returns-in_ok-put_str-in-Binary-2-clause-adds : goal.put_body-returns-in_ok-put_str-in-Binary-2-clause-adds
put_body-returns-in_ok-put_str-in-Binary-2-clause-adds g t c =
    binary_put _ _ _ _ _ _ c.args.level c.is_short-short.result (g.N.Node.tree c.args.node) (sym c.in-Binary.ensures) c.is_short-short.ensures
    c.in_ok-put_str-in-Binary.ensures c.in_ok-put_pause-in-Binary.ensures c.in_ok-put_bytes_of-in-Binary.ensures.adds
    c.in_ok-put_pause-in-Binary-2.ensures c.in_ok-put_str-in-Binary-2.ensures

pub put_body-returns-in_ok-put_str-in-Alias-2-clause-adds : goal.put_body-returns-in_ok-put_str-in-Alias-2-clause-adds
put_body-returns-in_ok-put_str-in-Alias-2-clause-adds g t c =
    alias_put _ _ _ _ c.args.level (g.N.Node.tree c.args.node) (sym c.in-Alias.ensures) c.in_ok-put_str-in-Alias.ensures
    c.in_ok-put_text_of-in-Alias.ensures.adds c.in_ok-put_str-in-Alias-2.ensures

pub put_body-returns-in_ok-end_array-in-Array-clause-adds : goal.put_body-returns-in_ok-end_array-in-Array-clause-adds
put_body-returns-in_ok-end_array-in-Array-clause-adds g t c =
    (items_end _ _ _ c.args.level c.loop-i.remaining (g.N.Node.tree c.args.node) c.loop-i.i c.loop-i.invariant (sym c.in-Array.ensures) (omega arith)
    c.in_ok-end_array-in-Array.ensures).0

pub put_body-returns-in_ok-end_array-in-Array-clause-sound : goal.put_body-returns-in_ok-end_array-in-Array-clause-sound
put_body-returns-in_ok-end_array-in-Array-clause-sound g t c =
    (items_end _ _ _ c.args.level c.loop-i.remaining (g.N.Node.tree c.args.node) c.loop-i.i c.loop-i.invariant (sym c.in-Array.ensures) (omega arith)
    c.in_ok-end_array-in-Array.ensures).1

pub put_body-returns-in_ok-end_braces-in-Table-clause-adds : goal.put_body-returns-in_ok-end_braces-in-Table-clause-adds
put_body-returns-in_ok-end_braces-in-Table-clause-adds g t c =
    table_put _ _ _ _ c.args.level (g.N.Node.tree c.args.node) c.is_guessed-in-Table.result (sym c.in-Table.ensures) c.is_guessed-in-Table.ensures
    c.in_ok-begin_table-in-Table.ensures c.in_ok-put_entries-in-Table.ensures.adds c.in_ok-end_braces-in-Table.ensures

pub put_entries-put_body-requires : goal.put_entries-put_body-requires
put_entries-put_body-requires g t c κs within =
    let tree = g.N.Node.tree in
    let lower : height (tree c.at-child.result) < height (tree c.args.node) =
    child_lower (tree c.args.node) (tree c.at-child.result) c.loop-i.i c.at-child.ensures in
    (omega (arith, lower, c.decreases), (within, (omega (arith, lower, c.requires.low), child_well _ _ c.loop-i.i c.requires.well c.at-child.ensures)))

pub put_entries-loop-i-preserved : goal.put_entries-loop-i-preserved
put_entries-loop-i-preserved g t c =
    let tree = g.N.Node.tree in
    entries_put _ _ _ _ _ _ _ c.args.level (tree c.args.node) (tree c.at-child.result) c.key_at.result.now c.loop-i.i c.is_guessed.result
    c.is_guessed.ensures c.loop-i.invariant
    (subst (λ (ps : List (List ℕ × Resource)). Some c.key_at.result.now ≡ slice_get (keys_of ps) c.loop-i.i) (table_pairs (tree c.args.node)) c.key_at.ensures)
    (subst (λ (xs : List Resource). Some (tree c.at-child.result) ≡ slice_get xs c.loop-i.i) (table_children (tree c.args.node) c.requires.table) c.at-child.ensures)
    c.in_ok-put_indent.ensures c.in_ok-put_key.ensures c.in_ok-put_gap.ensures c.in_ok-put_body.ensures.adds c.in_ok-put_body.ensures.sound
    c.in_ok-put_str.ensures

pub put_entries-returns-clause-adds : goal.put_entries-returns-clause-adds
put_entries-returns-clause-adds g t c =
    (entries_end _ _ c.args.level (g.N.Node.tree c.args.node) c.loop-i.i c.loop-i.invariant c.requires.table (omega arith) c.requires.well).0

pub put_entries-returns-clause-sound : goal.put_entries-returns-clause-sound
put_entries-returns-clause-sound g t c =
    (entries_end _ _ c.args.level (g.N.Node.tree c.args.node) c.loop-i.i c.loop-i.invariant c.requires.table (omega arith) c.requires.well).1

-- ---- what is too long

pub put_body-returns-in_err-put_text_of-in-String-clause-error : goal.put_body-returns-in_err-put_text_of-in-String-clause-error
put_body-returns-in_err-put_text_of-in-String-clause-error g t c =
    let p = err_from_is_err_and c.from_residual-in_err-put_text_of-in-String.result c.from_residual-in_err-put_text_of-in-String.ensures.1 in
    rw (p.1, p.2)
    (string_exceeds _ _ c.args.level (g.N.Node.tree c.args.node) c.in_err-put_text_of-in-String.field-0.0 (sym c.in-String.ensures)
    c.in_ok-put_str-in-String.ensures c.in_err-put_text_of-in-String.ensures.error)

pub put_body-returns-in_err-put_text_of-in-Alias-clause-error : goal.put_body-returns-in_err-put_text_of-in-Alias-clause-error
put_body-returns-in_err-put_text_of-in-Alias-clause-error g t c =
    let p = err_from_is_err_and c.from_residual-in_err-put_text_of-in-Alias.result c.from_residual-in_err-put_text_of-in-Alias.ensures.1 in
    rw (p.1, p.2)
    (alias_exceeds _ _ c.args.level (g.N.Node.tree c.args.node) c.in_err-put_text_of-in-Alias.field-0.0 (sym c.in-Alias.ensures)
    c.in_ok-put_str-in-Alias.ensures c.in_err-put_text_of-in-Alias.ensures.error)

pub put_body-returns-in_err-put_item-in-Array-clause-error : goal.put_body-returns-in_err-put_item-in-Array-clause-error
put_body-returns-in_err-put_item-in-Array-clause-error g t c =
    let tree = g.N.Node.tree in
    let p = err_from_is_err_and c.from_residual-in_err-put_item-in-Array.result c.from_residual-in_err-put_item-in-Array.ensures.1 in
    rw (p.1, p.2)
    (items_exceed _ _ _ c.args.level c.loop-i.remaining (tree c.args.node) (tree c.at-child.result) c.loop-i.i c.fit_item-fit.result.fits
    c.in_err-put_item-in-Array.field-0.0 c.loop-i.invariant
    (subst (λ (xs : List Resource). Some (tree c.at-child.result) ≡ slice_get xs c.loop-i.i) (array_children (tree c.args.node) (sym c.in-Array.ensures))
    c.at-child.ensures) c.fit_item-fit.ensures.fits c.in_ok-put_pause-in-Array.ensures c.in_err-put_item-in-Array.ensures.error)

pub put_body-returns-in_err-put_entries-in-Table-clause-error : goal.put_body-returns-in_err-put_entries-in-Table-clause-error
put_body-returns-in_err-put_entries-in-Table-clause-error g t c =
    let p = err_from_is_err_and c.from_residual-in_err-put_entries-in-Table.result c.from_residual-in_err-put_entries-in-Table.ensures.1 in
    rw (p.1, p.2)
    (table_exceeds _ _ c.args.level (g.N.Node.tree c.args.node) c.is_guessed-in-Table.result c.in_err-put_entries-in-Table.field-0.0 (sym c.in-Table.ensures)
    c.is_guessed-in-Table.ensures c.in_ok-begin_table-in-Table.ensures c.in_err-put_entries-in-Table.ensures.error)

pub put_entries-returns-in_err-put_body-clause-error : goal.put_entries-returns-in_err-put_body-clause-error
put_entries-returns-in_err-put_body-clause-error g t c =
    let tree = g.N.Node.tree in
    let p = err_from_is_err_and c.from_residual-in_err-put_body.result c.from_residual-in_err-put_body.ensures.1 in
    rw (p.1, p.2)
    (entries_exceed _ _ _ _ _ c.args.level (tree c.args.node) (tree c.at-child.result) c.key_at.result.now c.loop-i.i c.is_guessed.result
    c.in_err-put_body.field-0.0 c.is_guessed.ensures c.loop-i.invariant
    (subst (λ (ps : List (List ℕ × Resource)). Some c.key_at.result.now ≡ slice_get (keys_of ps) c.loop-i.i) (table_pairs (tree c.args.node)) c.key_at.ensures)
    (subst (λ (xs : List Resource). Some (tree c.at-child.result) ≡ slice_get xs c.loop-i.i) (table_children (tree c.args.node) c.requires.table) c.at-child.ensures)
    c.in_ok-put_indent.ensures c.in_ok-put_key.ensures c.in_ok-put_gap.ensures c.in_err-put_body.ensures.error)
