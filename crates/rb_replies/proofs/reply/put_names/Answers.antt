use Rattle.std.proofs.Common.{codes}
use Rattle.rb_json.specs.Item.{texts_data}
use Rattle.rb_replies.proofs.Lines.{one_taken}
use Rattle.rb_replies.proofs.reply.put_names.Goals as goal

pub returns : goal.returns
returns g c =
    one_taken g.O.Outlet.takes g.met.O.Outlet.joined c.args.out.now c.put.new.self c.put_name.new.out c.put_name_array.new.out c.put-2.new.self c.put-3.new.self
    (codes "names") (texts_data c.args.names.now) c.put.ensures c.put_name.ensures c.put_name_array.ensures c.put-2.ensures c.put-3.ensures
