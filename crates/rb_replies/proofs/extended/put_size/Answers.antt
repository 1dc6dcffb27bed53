use Rattle.std.proofs.Common.{List, ℕ, codes, encode_utf8_all, subst}
use Rattle.json.specs.Print.{quoted}
use Rattle.serde_json.specs.Data.{number, unsigned}
use Rattle.rb_json.specs.Item.{text_data}
use Rattle.rb_replies.proofs.Lines.{both_taken}
use Rattle.rb_replies.proofs.extended.put_size.Goals as goal

pub returns : goal.returns
returns g c =
    let name = subst (λ (t : List ℕ). g.O.Outlet.takes c.put_name-2.new.out c.spell_bytes.new.out (quoted (encode_utf8_all t))) c.as_bytes.ensures.bytes c.spell_bytes.ensures in
    both_taken g.O.Outlet.takes g.met.O.Outlet.joined c.args.out.now c.put.new.self c.put_name.new.out c.spell_unsigned.new.out c.put_name-2.new.out c.spell_bytes.new.out c.put-2.new.self
    (codes "bytes") (codes "locale") (number (unsigned c.args.size.now.1)) (text_data c.args.size.now.0)
    c.put.ensures c.put_name.ensures c.spell_unsigned.ensures c.put_name-2.ensures name c.put-2.ensures
