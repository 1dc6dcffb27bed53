use Rattle.rb_replies.proofs.extended.put_later.Goals as goal

pub returns : goal.returns
returns g c = g.met.O.Outlet.joined c.args.out.now c.put_name.new.out c.spell_unsigned.new.out _ _ c.put_name.ensures c.spell_unsigned.ensures
