use Rattle.rb_json.proofs.Spelling.{in_quotes}
use Rattle.rb_json.proofs.spell.spell_units.Goals as goal

pub returns : goal.returns
returns g c =
    in_quotes g.O.Outlet.takes g.met.O.Outlet.joined c.args.out.now c.put.new.self c.put_runs.new.out c.put-2.new.self _
    c.put.ensures c.put_runs.ensures c.put-2.ensures
