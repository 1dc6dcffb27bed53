use Rattle.std.proofs.Common.{◌≡◌, ◌<◌, ◌∙◌, get_or, length, arith}
use Rattle.serde_json.specs.Data.{number, unsigned}
use Rattle.rb_tree.specs.Parts.{units_of}
use Rattle.rb_json.specs.inner.Lines.{item_at}
use Rattle.rb_json.proofs.Elements.{is_at}
use Rattle.rb_json.proofs.OfKinds.{units_len}
use Rattle.rb_json.proofs.Laid.{number_told}
use Rattle.rb_json.proofs.Lists.{list_more, list_skipped}
use Rattle.rb_json.proofs.list.put_unit_items.Goals as goal

pub loop-i-preserved : goal.loop-i-preserved
loop-i-preserved g c =
    let us = units_of (g.N.Node.tree c.args.node) in
    let i = c.loop-i.i in
    let same : c.from.result ≡ get_or us i 0 = c.from.ensures ∙ c.unit.ensures in
    let inside : i < length us = omega (arith, units_len (g.N.Node.tree c.args.node) c.requires, c.len-len.ensures, c.loop-i-test.true) in
    let told = number_told g.O.Outlet.takes g.met.O.Outlet.joined c.skips_items.new.out c.put_line.new.out c.spell_unsigned.new.out c.args.layout c.args.depth
    (unsigned (get_or us i 0)) c.put_line.ensures (rw same at c.spell_unsigned.ensures) in
    list_more g.O.Outlet.takes g.met.O.Outlet.joined c.args.out.now c.loop-i.out c.skips_items.new.out c.spell_unsigned.new.out
    (λ u. item_at c.args.layout c.args.depth (number (unsigned u))) us i (get_or us i 0) c.loop-i.invariant c.if-skips_items.ensures told (is_at us i 0 inside)

pub returns-then-skips_items : goal.returns-then-skips_items
returns-then-skips_items g c =
    list_skipped g.O.Outlet.takes g.met.O.Outlet.joined c.args.out.now c.loop-i.out c.skips_items.new.out
    (λ u. item_at c.args.layout c.args.depth (number (unsigned u))) (units_of (g.N.Node.tree c.args.node)) c.loop-i.i c.loop-i.invariant c.if-skips_items.ensures
