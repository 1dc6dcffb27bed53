use Rattle.std.proofs.Common.{◌≤◌, ◌<◌, ◌+◌, ◌∙◌, ℕ, List, arith, length, subst, sym}
use Rattle.std.proofs.lemmas.List.{take_all}
use Rattle.rb_tree.specs.Resource.{Resource, height}
use Rattle.rb_tree.specs.Parts.{children_of, pairs_of}
use Rattle.rb_tree.specs.inner.Lower.{child_lower}
use Rattle.rb_json.specs.Value.{value_of}
use Rattle.rb_json.specs.inner.Lines.{end_line, entry_at, tree_at}
use Rattle.rb_json.specs.inner.Listed.{listed}
use Rattle.rb_json.proofs.Growth.{entry_at as entry_here}
use Rattle.rb_json.proofs.Laid.{bracketed, children_laid, entries_laid, entry_told, told_at}
use Rattle.rb_json.proofs.Lists.{list_more, list_skipped}
use Rattle.rb_json.proofs.OfKinds.{as_many_entries, as_many_items}
use Rattle.rb_json.proofs.value.+value.Goals as goal

pub put_entries-returns-then-skips_items : goal.put_entries-returns-then-skips_items
put_entries-returns-then-skips_items g t c =
    list_skipped g.O.Outlet.takes g.met.O.Outlet.joined c.args.out.now c.loop-i.out c.skips_items.new.out
    (entry_at c.args.layout c.args.depth) (pairs_of (g.N.Node.tree c.args.node)) c.loop-i.i c.loop-i.invariant c.if-skips_items.ensures

pub put_entries-put_tree-requires : goal.put_entries-put_tree-requires
put_entries-put_tree-requires g t c κs within =
    let tree = g.N.Node.tree in
    let lower : height (tree c.at.result) < height (tree c.args.node) = child_lower (tree c.args.node) (tree c.at.result) c.loop-i.i c.at.ensures in
    (omega (arith, lower, c.decreases), (within.0, (within.1, omega (arith, lower, c.requires.depth))))

pub put_entries-loop-i-preserved : goal.put_entries-loop-i-preserved
put_entries-loop-i-preserved g t c =
    let tree = g.N.Node.tree in
    let k = c.key_at.result.now in
    let u = tree c.at.result in
    let told = entry_told g.O.Outlet.takes g.met.O.Outlet.joined c.skips_items.new.out c.put_line.new.out c.put_key.new.out c.put_colon.new.out c.put_tree.new.out
    c.args.layout c.args.depth k u c.put_line.ensures c.put_key.ensures c.put_colon.ensures c.put_tree.ensures in
    list_more g.O.Outlet.takes g.met.O.Outlet.joined c.args.out.now c.loop-i.out c.skips_items.new.out c.put_tree.new.out
    (entry_at c.args.layout c.args.depth) (pairs_of (tree c.args.node)) c.loop-i.i (k, u) c.loop-i.invariant c.if-skips_items.ensures told
    (entry_here (tree c.args.node) c.loop-i.i k u c.requires.table c.key_at.ensures c.at.ensures)

pub put_entries-returns : goal.put_entries-returns
put_entries-returns g t c =
    let ps = pairs_of (g.N.Node.tree c.args.node) in
    let past : length ps ≤ c.loop-i.i = omega (arith, as_many_entries (g.N.Node.tree c.args.node) c.requires.table, c.len-i-end.ensures, c.loop-i-test.false) in
    subst (λ (l : List (List ℕ × Resource)). g.O.Outlet.takes c.args.out.now c.loop-i.out (listed (entry_at c.args.layout c.args.depth) l))
    (take_all c.loop-i.i ps past) c.loop-i.invariant

pub put_items-returns-then-skips_items : goal.put_items-returns-then-skips_items
put_items-returns-then-skips_items g t c =
    list_skipped g.O.Outlet.takes g.met.O.Outlet.joined c.args.out.now c.loop-i.out c.skips_items.new.out
    (tree_at c.args.layout c.args.depth) (children_of (g.N.Node.tree c.args.node)) c.loop-i.i c.loop-i.invariant c.if-skips_items.ensures

pub put_items-put_tree-requires : goal.put_items-put_tree-requires
put_items-put_tree-requires g t c κs within =
    let tree = g.N.Node.tree in
    let lower : height (tree c.at.result) < height (tree c.args.node) = child_lower (tree c.args.node) (tree c.at.result) c.loop-i.i c.at.ensures in
    (omega (arith, lower, c.decreases), (within.0, (within.1, omega (arith, lower, c.requires.depth))))

pub put_items-loop-i-preserved : goal.put_items-loop-i-preserved
put_items-loop-i-preserved g t c =
    let tree = g.N.Node.tree in
    let u = tree c.at.result in
    let told = told_at g.O.Outlet.takes g.met.O.Outlet.joined c.skips_items.new.out c.put_line.new.out c.put_tree.new.out c.args.layout c.args.depth (value_of u)
    c.put_line.ensures c.put_tree.ensures in
    list_more g.O.Outlet.takes g.met.O.Outlet.joined c.args.out.now c.loop-i.out c.skips_items.new.out c.put_tree.new.out
    (tree_at c.args.layout c.args.depth) (children_of (tree c.args.node)) c.loop-i.i u c.loop-i.invariant c.if-skips_items.ensures told c.at.ensures

pub put_items-returns : goal.put_items-returns
put_items-returns g t c =
    let ts = children_of (g.N.Node.tree c.args.node) in
    let past : length ts ≤ c.loop-i.i = omega (arith, as_many_items (g.N.Node.tree c.args.node) c.requires.array, c.len-i-end.ensures, c.loop-i-test.false) in
    subst (λ (l : List Resource). g.O.Outlet.takes c.args.out.now c.loop-i.out (listed (tree_at c.args.layout c.args.depth) l))
    (take_all c.loop-i.i ts past) c.loop-i.invariant

pub put_tree-put_items-requires : goal.put_tree-put_items-requires
put_tree-put_items-requires g t c κs within =
    (omega (arith, c.decreases), (within.0, (within.1, (sym c.in-Array.ensures, omega (arith, c.requires)))))

pub put_tree-returns-in-Array : goal.put_tree-returns-in-Array
put_tree-returns-in-Array g t c =
    let t' = g.N.Node.tree c.args.node in
    let kind = sym c.in-Array.ensures in
    let end = subst (λ (n : ℕ). g.O.Outlet.takes c.put_items.new.out c.put_end_line.new.out (end_line c.args.layout c.args.depth n))
    (c.len.ensures ∙ sym (as_many_items t' kind)) c.put_end_line.ensures in
    bracketed g.O.Outlet.takes g.met.O.Outlet.joined c.args.out.now c.put.new.self c.put_items.new.out c.put_end_line.new.out c.put-in-Array.new.self 91 93
    (listed (tree_at c.args.layout (c.args.depth + 1)) (children_of t')) (end_line c.args.layout c.args.depth (length (children_of t'))) _
    (children_laid c.args.layout c.args.depth t' kind) c.put.ensures c.put_items.ensures end c.put-in-Array.ensures

pub put_tree-put_entries-requires : goal.put_tree-put_entries-requires
put_tree-put_entries-requires g t c κs within =
    (omega (arith, c.decreases), (within.0, (within.1, (sym c.in-Table.ensures, omega (arith, c.requires)))))

pub put_tree-returns-in-Table : goal.put_tree-returns-in-Table
put_tree-returns-in-Table g t c =
    let t' = g.N.Node.tree c.args.node in
    let kind = sym c.in-Table.ensures in
    let end = subst (λ (n : ℕ). g.O.Outlet.takes c.put_entries.new.out c.put_end_line-in-Table.new.out (end_line c.args.layout c.args.depth n))
    (c.len-in-Table.ensures ∙ sym (as_many_entries t' kind)) c.put_end_line-in-Table.ensures in
    bracketed g.O.Outlet.takes g.met.O.Outlet.joined c.args.out.now c.put-in-Table.new.self c.put_entries.new.out c.put_end_line-in-Table.new.out c.put-in-Table-2.new.self 123 125
    (listed (entry_at c.args.layout (c.args.depth + 1)) (pairs_of t')) (end_line c.args.layout c.args.depth (length (pairs_of t'))) _
    (entries_laid c.args.layout c.args.depth t' kind) c.put-in-Table.ensures c.put_entries.ensures end c.put-in-Table-2.ensures
