use Rattle.std.proofs.Common.{[], ◌∷◌, ◌++◌, encode_utf8_all}
use Rattle.json.specs.Print.{escape, escape_byte}
use Rattle.rb_json.proofs.value.put_marked.Goals as goal

pub returns : goal.returns
unfolding escape_byte lib.Utf8.encode
returns g c =
    let text = escape (encode_utf8_all c.args.key.now) in
    g.met.O.Outlet.joined c.args.out.now c.put.new.self c.put-2.new.self (34 ∷ 58 ∷ []) (text ++ 34 ∷ []) c.put.ensures
    (g.met.O.Outlet.joined c.put.new.self c.put_latin.new.out c.put-2.new.self text (34 ∷ []) c.put_latin.ensures c.put-2.ensures)
