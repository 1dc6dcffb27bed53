use Rattle.std.proofs.Common.{codes, map}
use Rattle.serde_json.specs.Data.{array}
use Rattle.serde_json.specs.View.{items_of}
use Rattle.rb_replies.specs.Extended.{size_data}
use Rattle.rb_replies.proofs.Lines.{one_taken}
use Rattle.rb_replies.proofs.extended.put_sizes.Goals as goal

pub returns : goal.returns
returns g c =
    one_taken g.O.Outlet.takes g.met.O.Outlet.joined c.args.out.now c.put.new.self c.put_name.new.out c.put_size_array.new.out c.put-2.new.self c.put-3.new.self
    (codes "bundles") (array (items_of (map size_data c.args.sizes.now))) c.put.ensures c.put_name.ensures c.put_size_array.ensures c.put-2.ensures c.put-3.ensures
