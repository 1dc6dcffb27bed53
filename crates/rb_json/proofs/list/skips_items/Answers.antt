use Rattle.std.proofs.Common.{[]}
use Rattle.rb_json.proofs.list.skips_items.Goals as goal

pub returns : goal.returns
returns g c =
    g.met.O.Outlet.joined c.args.out.now c.skips.new.self c.put_item_comma.new.out [] _ c.if-skips.ensures c.put_item_comma.ensures
