use Rattle.std.proofs.Common.{◌≡◌, ◌-◌, take, drop, length, arith}
use Rattle.std.proofs.lemmas.List.{take_all, length-drop}
use Rattle.rb_json.proofs.Spelling.{front_more}
use Rattle.rb_json.proofs.spell.put_escaped.Goals as goal

pub loop-at-preserved : goal.loop-at-preserved
loop-at-preserved g c =
    let bytes = c.args.bytes.now in
    let at = c.loop-at.at in
    let rest : take (length bytes - at) (drop at bytes) ≡ drop at bytes = take_all (length bytes - at) (drop at bytes) (omega (arith, length-drop at bytes)) in
    front_more g.O.Outlet.takes g.met.O.Outlet.joined c.args.out.now c.loop-at.out c.put_front-at.new.out bytes at c.put_front-at.result
    c.loop-at.invariant (rw rest at c.put_front-at.ensures.taken)
