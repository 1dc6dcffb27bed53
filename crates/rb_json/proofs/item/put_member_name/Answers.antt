use Rattle.rb_json.proofs.item.put_member_name.Goals as goal

pub returns : goal.returns
returns g c = g.met.O.Outlet.joined c.args.out.now c.spell_text.new.out c.put.new.self _ _ c.spell_text.ensures c.put.ensures
