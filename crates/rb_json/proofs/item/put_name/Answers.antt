use Rattle.rb_json.proofs.item.put_name.Goals as goal

pub returns : goal.returns
returns g c = g.met.O.Outlet.joined c.args.out.now c.put_comma_if.new.out c.put_member_name.new.out _ _ c.put_comma_if.ensures c.put_member_name.ensures
