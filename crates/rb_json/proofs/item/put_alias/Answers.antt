use Rattle.rb_json.proofs.Objects.{alias_taken}
use Rattle.rb_json.proofs.item.put_alias.Goals as goal

pub returns : goal.returns
returns g c =
    alias_taken g.O.Outlet.takes g.met.O.Outlet.joined c.args.out.now c.put.new.self c.put_member_name.new.out c.spell_bytes.new.out c.put_members.new.out
    (g.N.Node.tree c.args.node) c.args.rest.now c.requires c.put.ensures c.put_member_name.ensures c.spell_bytes.ensures c.put_members.ensures
