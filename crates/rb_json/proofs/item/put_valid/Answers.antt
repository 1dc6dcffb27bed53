use Rattle.rb_json.proofs.item.put_valid.Goals as goal

pub returns-in-Some : goal.returns-in-Some
returns-in-Some g c = rw c.in-Some.is (g.met.O.Outlet.joined c.args.out.now c.put_name.new.out c.spell_bytes.new.out _ _ c.put_name.ensures c.spell_bytes.ensures)
