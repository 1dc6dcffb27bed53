use Rattle.rb_json.proofs.Spelling.{in_quotes}
use Rattle.rb_json.proofs.spell.spell_text.Goals as goal

pub returns : goal.returns
returns g c =
    in_quotes g.O.Outlet.takes g.met.O.Outlet.joined c.args.out.now c.put.new.self c.put_escaped.new.out c.put-2.new.self c.args.text.now
    c.put.ensures (rw c.as_bytes.ensures.value at c.put_escaped.ensures) c.put-2.ensures
