use Rattle.std.proofs.Common.{codes}
use Rattle.serde_json.specs.Data.{string}
use Rattle.rb_replies.proofs.Lines.{one_taken}
use Rattle.rb_replies.proofs.extended.put_text.Goals as goal

pub returns : goal.returns
returns g c =
    one_taken g.O.Outlet.takes g.met.O.Outlet.joined c.args.out.now c.put.new.self c.put_name.new.out c.spell_text.new.out c.put-2.new.self c.put-3.new.self
    (codes "text") (string c.args.text.now) c.put.ensures c.put_name.ensures c.spell_text.ensures c.put-2.ensures c.put-3.ensures
