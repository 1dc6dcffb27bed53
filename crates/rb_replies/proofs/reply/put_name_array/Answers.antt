use Rattle.rb_json.specs.Item.{text_data}
use Rattle.rb_json.proofs.Lists.{array_taken}
use Rattle.rb_replies.proofs.reply.put_name_array.Goals as goal

pub returns : goal.returns
returns g c =
    array_taken g.O.Outlet.takes g.met.O.Outlet.joined c.args.out.now c.put.new.self c.put_name_items.new.out c.put-2.new.self
    text_data c.args.names.now c.put.ensures c.put_name_items.ensures c.put-2.ensures
