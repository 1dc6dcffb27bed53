use Rattle.std.proofs.Common.{List, ℕ, subst, encode_utf8_all}
use Rattle.json.specs.Print.{quoted}
use Rattle.rb_replies.proofs.extended.put_tree_line.Goals as goal

-- the parts from the last one on
pub returns : goal.returns
returns g c =
    let join = g.met.O.Outlet.joined in
    let last = c.put-5.new.self in
    let actual = subst (λ (t : List ℕ). g.O.Outlet.takes c.put.new.self c.spell_bytes.new.out (quoted (encode_utf8_all t))) c.as_bytes.ensures.bytes c.spell_bytes.ensures in
    let valid = subst (λ (t : List ℕ). g.O.Outlet.takes c.put-4.new.self c.spell_bytes-2.new.out (quoted (encode_utf8_all t))) c.as_bytes-2.ensures.bytes c.spell_bytes-2.ensures in
    join c.args.out.now c.put.new.self last _ _ c.put.ensures
    (join c.put.new.self c.spell_bytes.new.out last _ _ actual
    (join c.spell_bytes.new.out c.put-2.new.self last _ _ c.put-2.ensures
    (join c.put-2.new.self c.put-3.new.self last _ _ c.put-3.ensures
    (join c.put-3.new.self c.put-4.new.self last _ _ c.put-4.ensures
    (join c.put-4.new.self c.spell_bytes-2.new.out last _ _ valid c.put-5.ensures)))))
