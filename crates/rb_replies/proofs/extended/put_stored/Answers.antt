use Rattle.std.proofs.Common.{codes, true}
use Rattle.serde_json.specs.Data.{boolean}
use Rattle.rb_replies.proofs.Lines.{two_taken}
use Rattle.rb_replies.proofs.extended.put_stored.Goals as goal

pub returns : goal.returns
returns g c =
    two_taken g.O.Outlet.takes g.met.O.Outlet.joined c.args.out.now c.put.new.self c.put_name.new.out c.put_flag.new.out c.put_name-2.new.out c.put_flag-2.new.out c.put-2.new.self c.put-3.new.self
    (codes "ok") (codes "replaced") (boolean true) (boolean c.args.is_replaced)
    c.put.ensures c.put_name.ensures c.put_flag.ensures c.put_name-2.ensures c.put_flag-2.ensures c.put-2.ensures c.put-3.ensures
