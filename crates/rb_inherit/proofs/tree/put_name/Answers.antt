use Rattle.std.proofs.Common.{[], ◌∷◌}
use Rattle.json.specs.Print.{quoted}
use Rattle.rb_json.specs.Value.{key_text}
use Rattle.rb_inherit.proofs.tree.put_name.Goals as goal

pub returns : goal.returns
returns g c =
    g.met.O.Outlet.joined c.args.out.now c.put_key.new.out c.put.new.self (quoted (key_text c.args.key.now)) (58 ∷ []) c.put_key.ensures c.put.ensures
