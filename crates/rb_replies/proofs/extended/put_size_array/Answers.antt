use Rattle.rb_replies.specs.Extended.{size_data}
use Rattle.rb_json.proofs.Lists.{array_taken}
use Rattle.rb_replies.proofs.extended.put_size_array.Goals as goal

pub returns : goal.returns
returns g c =
    array_taken g.O.Outlet.takes g.met.O.Outlet.joined c.args.out.now c.put.new.self c.put_size_items.new.out c.put-2.new.self
    size_data c.args.sizes.now c.put.ensures c.put_size_items.ensures c.put-2.ensures
