use Rattle.std.proofs.Common.{codes}
use Rattle.serde_json.specs.Data.{number, unsigned}
use Rattle.rb_replies.proofs.Lines.{two_taken}
use Rattle.rb_replies.proofs.reply.put_usage.Goals as goal

pub returns : goal.returns
returns g c =
    two_taken g.O.Outlet.takes g.met.O.Outlet.joined c.args.out.now c.put.new.self c.put_name.new.out c.spell_unsigned.new.out c.put_name-2.new.out c.spell_unsigned-2.new.out c.put-2.new.self c.put-3.new.self
    (codes "app_bytes") (codes "bundles") (number (unsigned c.args.bytes)) (number (unsigned c.args.bundles))
    c.put.ensures c.put_name.ensures c.spell_unsigned.ensures c.put_name-2.ensures c.spell_unsigned-2.ensures c.put-2.ensures c.put-3.ensures
