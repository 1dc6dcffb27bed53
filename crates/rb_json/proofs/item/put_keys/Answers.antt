use Rattle.std.specs.Map.{keys_of}
use Rattle.rb_tree.specs.Parts.{pairs_of}
use Rattle.rb_json.specs.Item.{text_data}
use Rattle.rb_json.proofs.Lists.{array_taken}
use Rattle.rb_json.proofs.item.put_keys.Goals as goal

pub returns : goal.returns
returns g c =
    array_taken g.O.Outlet.takes g.met.O.Outlet.joined c.args.out.now c.put.new.self c.put_key_items.new.out c.put-2.new.self
    text_data (keys_of (pairs_of (g.N.Node.tree c.args.node))) c.put.ensures c.put_key_items.ensures c.put-2.ensures
