use Rattle.std.proofs.Common.{rules}
use Rattle.rb_json.proofs.Objects.{item_taken}
use Rattle.rb_json.proofs.item.put_item.Goals as goal

pub returns : goal.returns
returns g c =
    item_taken g.O.Outlet.takes g.met.O.Outlet.joined c.args.out.now c.put.new.self c.put_members.new.out
    (g.N.Node.tree c.args.node) c.args.rest.now (search rules) c.put.ensures c.put_members.ensures
