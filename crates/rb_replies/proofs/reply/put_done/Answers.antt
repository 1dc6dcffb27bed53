use Rattle.std.proofs.Common.{codes, true}
use Rattle.serde_json.specs.Data.{boolean}
use Rattle.rb_replies.proofs.Lines.{one_taken}
use Rattle.rb_replies.proofs.reply.put_done.Goals as goal

pub returns : goal.returns
returns g c =
    one_taken g.O.Outlet.takes g.met.O.Outlet.joined c.args.out.now c.put.new.self c.put_name.new.out c.put-2.new.self c.put-3.new.self c.put-4.new.self
    (codes "ok") (boolean true) c.put.ensures c.put_name.ensures c.put-2.ensures c.put-3.ensures c.put-4.ensures
