use Rattle.std.proofs.Common.{◌<◌, ◌∙◌, List, ℕ, subst, encode_utf8_all, get_or, length, arith}
use Rattle.json.specs.Print.{quoted}
use Rattle.rb_json.proofs.Elements.{is_at}
use Rattle.rb_json.proofs.Lists.{list_more, list_skipped}
use Rattle.rb_replies.proofs.reply.put_name_items.Goals as goal

pub loop-i-preserved : goal.loop-i-preserved
loop-i-preserved g c =
    let names = c.args.names.now in
    let i = c.loop-i.i in
    let other = c.index-names-i.result in
    let inside : i < length names = omega arith in
    let spelled = subst (λ (t : List ℕ). g.O.Outlet.takes c.skips_items.new.out c.spell_bytes.new.out (quoted (encode_utf8_all t)))
    (c.as_bytes.ensures.bytes ∙ c.index-names-i.is) c.spell_bytes.ensures in
    list_more g.O.Outlet.takes g.met.O.Outlet.joined c.args.out.now c.loop-i.out c.skips_items.new.out c.spell_bytes.new.out
    (λ k. quoted (encode_utf8_all k)) names i (get_or names i other) c.loop-i.invariant c.if-skips_items.ensures spelled (is_at names i other inside)

pub returns-then-skips_items : goal.returns-then-skips_items
returns-then-skips_items g c =
    list_skipped g.O.Outlet.takes g.met.O.Outlet.joined c.args.out.now c.loop-i.out c.skips_items.new.out
    (λ k. quoted (encode_utf8_all k)) c.args.names.now c.loop-i.i c.loop-i.invariant c.if-skips_items.ensures
