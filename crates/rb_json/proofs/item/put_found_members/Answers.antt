use Rattle.rb_json.proofs.Objects.{found_taken}
use Rattle.rb_json.proofs.item.put_found_members.Goals as goal

pub returns : goal.returns
returns g c =
    found_taken g.O.Outlet.takes g.met.O.Outlet.joined c.args.out.now c.put.new.self c.spell_bytes.new.out c.put_members.new.out
    c.args.actual.now c.args.valid.now (g.N.Node.tree c.args.node) c.put.ensures c.spell_bytes.ensures c.put_members.ensures
