use Rattle.rb_json.proofs.Spelling.{each_more}
use Rattle.rb_json.proofs.spell.put_each.Goals as goal

pub loop-byte-preserved : goal.loop-byte-preserved
loop-byte-preserved g c =
    let l = c.loop-byte in
    each_more g.O.Outlet.takes g.met.O.Outlet.joined c.args.out.now l.out c.put_character.new.out c.args.bytes.now l.byte-index c.from.result 0
    l.invariant c.put_character.ensures c.from.ensures c.loop-byte-test.true
