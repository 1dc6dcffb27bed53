use Rattle.std.proofs.Common.{◌≡◌, ◌∙◌, ◌-◌, ◌≤◌, ℕ, suc, List, Some, ap, arith, decimal, drop, length, option_and_then, refl, sym}
use Rattle.rb_tree.specs.Parts.{children_of}
use Rattle.rb_json.proofs.OfKinds.{as_many_items}
use Rattle.rb_inherit.specs.Merged.{IsTree, item, tables}
use Rattle.rb_inherit.specs.inner.Earlier.{here_of, layered_in, part_of}
use Rattle.rb_inherit.specs.inner.Merging.{key_in, key_of}
use Rattle.rb_inherit.proofs.Entries.{entered_all, entered_more, entered_none, entered_skipped, items_more, items_skipped}
use Rattle.rb_inherit.proofs.Members.{tree_some}
use Rattle.rb_inherit.proofs.Places.{item_written, key_len}
use Rattle.rb_inherit.proofs.Values.{array_value, deep_value, error_value, leaf_value, level_value, missing_value, tables_value}
use Rattle.rb_inherit.proofs.tree.+tree.Goals as goal

pub put_element-returns-clause-writes : goal.put_element-returns-clause-writes
put_element-returns-clause-writes g t c =
    let pushed : c.spend.new.self.layers.items ≡ c.args.place.now.layers.items = ap (λ p. p.layers.items) c.spend.ensures ∙ c.push_key.ensures.layers in
    let key : c.as_bytes.result.now ≡ decimal c.args.i = c.as_bytes.ensures.value ∙ c.format.ensures.text in
    let entered = rw key at c.in_ok-push_key.ensures.keys in
    let longer = key_len c.args.place.now.keys.items (decimal c.args.i) c.spend.new.self.keys.items (ap (λ p. p.keys.items) c.spend.ensures ∙ entered) in
    let keys : length c.add_child.new.place.keys.items ≡ length c.spend.new.self.keys.items = ap (λ (l : List ℕ). length l) c.in_ok-found.ensures.keys in
    let written = rw keys at c.in_ok-put_found.ensures.writes in
    item_written g.T.N.Node.tree (g.O.Outlet.takes c.args.out.now c.put_found.new.out) (IsTree c.args.levels) (length c.args.place.now.keys.items)
    (length c.spend.new.self.keys.items) (decimal c.args.i) (part_of g.T.N.Node.tree c.args.child c.args.level) c.mark-mark.result.layers
    c.args.place.now.layers.items c.spend.new.self.layers.items c.in_ok-found.found c.add_child.new.place.layers.items pushed c.mark-mark.ensures.layers
    longer c.in_ok-found.ensures.adds written

pub put_entries-loop-i-init : goal.put_entries-loop-i-init
put_entries-loop-i-init g t c = record {
  entered = entered_none g.T.N.Node.tree (g.O.Outlet.takes c.args.out.now c.args.out.now) (IsTree c.args.levels) (length c.args.place.now.keys.items) c.args.from
      c.args.place.now.layers.items (g.met.O.Outlet.nothing c.args.out.now);
  keys = refl;
}

pub put_entries-returns-then-skips_items-clause-writes : goal.put_entries-returns-then-skips_items-clause-writes
put_entries-returns-then-skips_items-clause-writes g t c =
    entered_skipped g.O.Outlet.takes g.met.O.Outlet.joined g.T.N.Node.tree (IsTree c.args.levels) (length c.args.place.now.keys.items) c.args.from
    c.args.place.now.layers.items c.loop-i.place.layers.items c.loop-i.i c.args.out.now c.loop-i.out c.skips_items.new.out (tree_some c.args.levels)
    c.loop-i.invariant.entered c.if-skips_items.ensures

pub put_entries-loop-i-preserved : goal.put_entries-loop-i-preserved
put_entries-loop-i-preserved g t c =
    let tree = g.T.N.Node.tree in
    let old = c.args.place.now.layers.items in
    let now = c.loop-i.place.layers.items in
    let all : c.len-to.result ≡ length old = omega arith in
    let key : key_in tree now c.least-first.result ≡ Some c.in-Some-key.key.now =
    ap (λ o. option_and_then (λ m. key_of (tree m.table.node) m.at) o) (sym c.in-Some.ensures) ∙ sym c.in-Some-key.ensures in
    let layers = c.spend_at.ensures.layers in
    let keys : length c.spend_at.new.place.keys.items ≡ length c.args.place.now.keys.items =
    ap (λ (l : List ℕ). length l) (c.spend_at.ensures.keys ∙ c.loop-i.invariant.keys) in
    let text = rw (layers, keys) at c.in_ok-put_at.ensures.writes in
    let moves = rw layers at c.in_ok-put_at.ensures.layers in
    record {
      entered = entered_more g.O.Outlet.takes g.met.O.Outlet.joined tree (IsTree c.args.levels) (length c.args.place.now.keys.items) c.args.from c.len-to.result
          c.least-first.result old now c.put_at.new.place.layers.items c.loop-i.i c.args.out.now c.loop-i.out c.skips_items.new.out c.put_name.new.out c.put_at.new.out
          c.in-Some-key.key.now c.loop-i.invariant.entered c.requires all c.least-first.ensures key c.if-skips_items.ensures c.put_name.ensures text moves;
      keys = c.in_ok-put_at.ensures.keys ∙ (c.spend_at.ensures.keys ∙ c.loop-i.invariant.keys);
    }

pub put_entries-returns-clause-writes : goal.put_entries-returns-clause-writes
put_entries-returns-clause-writes g t c =
    let all : c.len-to.result ≡ length c.args.place.now.layers.items = omega arith in
    entered_all g.T.N.Node.tree (g.O.Outlet.takes c.args.out.now c.loop-i.out) (IsTree c.args.levels) (length c.args.place.now.keys.items) c.args.from c.len-to.result
    c.args.place.now.layers.items c.loop-i.place.layers.items c.loop-i.i c.loop-i.invariant.entered all (c.has_key.ensures c.if-has_key.false)

pub put_items-returns-then-skips_items-clause-writes : goal.put_items-returns-then-skips_items-clause-writes
put_items-returns-then-skips_items-clause-writes g t c =
    let ts = children_of (g.T.N.Node.tree c.args.node) in
    let within : c.loop-i.i ≤ length ts = omega (arith, as_many_items (g.T.N.Node.tree c.args.node) c.requires, c.len-i-end.ensures, c.loop-i-test.true) in
    items_skipped g.O.Outlet.takes g.met.O.Outlet.joined (IsTree c.args.levels) (length c.args.place.now.keys.items) c.args.level.keys_most ts c.loop-i.i
    c.args.out.now c.loop-i.out c.skips_items.new.out (tree_some c.args.levels) c.loop-i.invariant.items within c.if-skips_items.ensures

pub put_items-loop-i-preserved : goal.put_items-loop-i-preserved
put_items-loop-i-preserved g t c =
    let keys : length c.loop-i.place.keys.items ≡ length c.args.place.now.keys.items = ap (λ (l : List ℕ). length l) c.loop-i.invariant.keys in
    let text = rw keys at c.in_ok-put_element.ensures.writes in
    record {
      items = items_more g.O.Outlet.takes g.met.O.Outlet.joined (IsTree c.args.levels) (length c.args.place.now.keys.items) c.args.level.keys_most
          (children_of (g.T.N.Node.tree c.args.node)) c.loop-i.i (g.T.N.Node.tree c.at.result) c.args.out.now c.loop-i.out c.skips_items.new.out c.put_element.new.out
          c.loop-i.invariant.items (sym c.at.ensures) c.if-skips_items.ensures text;
      layers = c.in_ok-put_element.ensures.layers ∙ c.loop-i.invariant.layers;
      keys = c.in_ok-put_element.ensures.keys ∙ c.loop-i.invariant.keys;
    }

pub put_found-returns-then-levels-eq0-clause-writes : goal.put_found-returns-then-levels-eq0-clause-writes
put_found-returns-then-levels-eq0-clause-writes g t c =
    deep_value (g.O.Outlet.takes c.args.out.now c.put_error.new.out) c.args.levels (length c.args.place.now.keys.items)
    (here_of g.T.N.Node.tree c.args.found (layered_in g.T.N.Node.tree (drop c.args.from c.args.place.now.layers.items))) c.if-levels-eq0.true c.put_error.ensures

pub put_found-returns-in_ok-put_entries-in-Tables-clause-writes : goal.put_found-returns-in_ok-put_entries-in-Tables-clause-writes
put_found-returns-in_ok-put_entries-in-Tables-clause-writes g t c =
    let ls = layered_in g.T.N.Node.tree (drop c.args.from c.args.place.now.layers.items) in
    let below : c.args.levels ≡ suc (c.args.levels - 1) = omega arith in
    let used = length c.args.place.now.keys.items in
    let end = c.put-in-Tables.new.self in
    level_value (g.O.Outlet.takes c.args.out.now end) c.args.levels (c.args.levels - 1) used (here_of g.T.N.Node.tree c.args.found ls) (tables ls) below
    (ap (λ f. here_of g.T.N.Node.tree f ls) c.in-Tables.is)
    (tables_value g.O.Outlet.takes g.met.O.Outlet.joined (IsTree (c.args.levels - 1)) used ls c.args.out.now c.put.new.self c.put_entries.new.out end
    c.put.ensures c.in_ok-put_entries-in-Tables.ensures.writes c.put-in-Tables.ensures)

pub put_found-returns-in_ok-put_items-in-Array-clause-writes : goal.put_found-returns-in_ok-put_items-in-Array-clause-writes
put_found-returns-in_ok-put_items-in-Array-clause-writes g t c =
    let ls = layered_in g.T.N.Node.tree (drop c.args.from c.args.place.now.layers.items) in
    let below : c.args.levels ≡ suc (c.args.levels - 1) = omega arith in
    let used = length c.args.place.now.keys.items in
    let part = part_of g.T.N.Node.tree c.in-Item.node c.in-Item.level in
    let end = c.put-in-Array-2.new.self in
    level_value (g.O.Outlet.takes c.args.out.now end) c.args.levels (c.args.levels - 1) used (here_of g.T.N.Node.tree c.args.found ls) (item part) below
    (ap (λ f. here_of g.T.N.Node.tree f ls) c.in-Item.is)
    (array_value g.O.Outlet.takes g.met.O.Outlet.joined (IsTree (c.args.levels - 1)) used part c.args.out.now c.put-in-Array.new.self c.put_items.new.out end
    (sym c.in-Array.ensures) c.put-in-Array.ensures c.in_ok-put_items-in-Array.ensures.writes c.put-in-Array-2.ensures)

pub put_found-returns-in_default : goal.put_found-returns-in_default
put_found-returns-in_default g t c =
    let ls = layered_in g.T.N.Node.tree (drop c.args.from c.args.place.now.layers.items) in
    let below : c.args.levels ≡ suc (c.args.levels - 1) = omega arith in
    record {
      writes = leaf_value (g.O.Outlet.takes c.args.out.now c.put_leaf.new.out) c.args.levels (c.args.levels - 1) (length c.args.place.now.keys.items)
          (here_of g.T.N.Node.tree c.args.found ls) (part_of g.T.N.Node.tree c.in-Item.node c.in-Item.level) below
          (ap (λ f. here_of g.T.N.Node.tree f ls) c.in-Item.is) (λ h. c.in_default.not-Array (c.kind.ensures ∙ h)) c.put_leaf.ensures.value;
      layers = refl;
      keys = refl;
    }

pub put_found-returns-in-Failed-clause-writes : goal.put_found-returns-in-Failed-clause-writes
put_found-returns-in-Failed-clause-writes g t c =
    let ls = layered_in g.T.N.Node.tree (drop c.args.from c.args.place.now.layers.items) in
    let below : c.args.levels ≡ suc (c.args.levels - 1) = omega arith in
    error_value (g.O.Outlet.takes c.args.out.now c.put_error-in-Failed.new.out) c.args.levels (c.args.levels - 1) (length c.args.place.now.keys.items)
    (here_of g.T.N.Node.tree c.args.found ls) c.in-Failed.error c.word.result.now below
    (ap (λ f. here_of g.T.N.Node.tree f ls) c.in-Failed.is) c.word.ensures c.put_error-in-Failed.ensures

pub put_found-returns-in-Nothing-clause-writes : goal.put_found-returns-in-Nothing-clause-writes
put_found-returns-in-Nothing-clause-writes g t c =
    let ls = layered_in g.T.N.Node.tree (drop c.args.from c.args.place.now.layers.items) in
    let below : c.args.levels ≡ suc (c.args.levels - 1) = omega arith in
    missing_value (g.O.Outlet.takes c.args.out.now c.put_error-in-Nothing.new.out) c.args.levels (c.args.levels - 1) (length c.args.place.now.keys.items)
    (here_of g.T.N.Node.tree c.args.found ls) below (ap (λ f. here_of g.T.N.Node.tree f ls) c.in-Nothing.is) c.put_error-in-Nothing.ensures
