use Rattle.std.proofs.Common.{◌<◌, ◌∙◌, List, ℕ, subst, get_or, length, arith}
use Rattle.serde_json.specs.Written.{compact_text}
use Rattle.rb_json.proofs.Elements.{is_at}
use Rattle.rb_json.proofs.Lists.{list_more, list_skipped}
use Rattle.rb_replies.specs.Extended.{size_data}
use Rattle.rb_replies.proofs.extended.put_size_items.Goals as goal

pub loop-i-preserved : goal.loop-i-preserved
loop-i-preserved g c =
    let sizes = c.args.sizes.now in
    let i = c.loop-i.i in
    let other = c.index-sizes-i.result in
    let inside : i < length sizes = omega arith in
    let spelled = subst (λ (s : List ℕ × ℕ). g.O.Outlet.takes c.skips_items.new.out c.put_size.new.out (compact_text (size_data s)))
    c.index-sizes-i.is c.put_size.ensures in
    list_more g.O.Outlet.takes g.met.O.Outlet.joined c.args.out.now c.loop-i.out c.skips_items.new.out c.put_size.new.out
    (λ s. compact_text (size_data s)) sizes i (get_or sizes i other) c.loop-i.invariant c.if-skips_items.ensures spelled (is_at sizes i other inside)

pub returns-then-skips_items : goal.returns-then-skips_items
returns-then-skips_items g c =
    list_skipped g.O.Outlet.takes g.met.O.Outlet.joined c.args.out.now c.loop-i.out c.skips_items.new.out
    (λ s. compact_text (size_data s)) c.args.sizes.now c.loop-i.i c.loop-i.invariant c.if-skips_items.ensures
