use Rattle.std.proofs.Common.{encode_utf8_all}
use Rattle.std.specs.Map.{keys_of}
use Rattle.json.specs.Print.{quoted}
use Rattle.rb_tree.specs.Parts.{pairs_of}
use Rattle.rb_json.proofs.Lists.{list_more, list_skipped}
use Rattle.rb_json.proofs.item.put_key_items.Goals as goal

pub loop-i-preserved : goal.loop-i-preserved
loop-i-preserved g c =
    list_more g.O.Outlet.takes g.met.O.Outlet.joined c.args.out.now c.loop-i.out c.skips_items.new.out c.spell_bytes.new.out
    (λ k. quoted (encode_utf8_all k)) (keys_of (pairs_of (g.N.Node.tree c.args.node))) c.loop-i.i c.key_at.result.now
    c.loop-i.invariant c.if-skips_items.ensures c.spell_bytes.ensures c.key_at.ensures

pub returns-then-skips_items : goal.returns-then-skips_items
returns-then-skips_items g c =
    list_skipped g.O.Outlet.takes g.met.O.Outlet.joined c.args.out.now c.loop-i.out c.skips_items.new.out
    (λ k. quoted (encode_utf8_all k)) (keys_of (pairs_of (g.N.Node.tree c.args.node))) c.loop-i.i c.loop-i.invariant c.if-skips_items.ensures
