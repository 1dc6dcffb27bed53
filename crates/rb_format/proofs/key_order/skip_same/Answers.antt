use Rattle.std.proofs.Common.{◌≡◌, ◌+◌, ◌-◌, ◌≤◌, take, drop, length, arith, IsTrue}
use Rattle.std.proofs.lemmas.List.{length-take, length-drop}
use Rattle.rb_format.proofs.KeyOrder.{SameFirst, same_more}
use Rattle.rb_format.proofs.key_order.skip_same.Goals as goal

pub loop-at-preserved : goal.loop-at-preserved
loop-at-preserved c =
    let key = c.args.key.now in
    let run = c.args.run.now in
    let at = c.loop-at.at in
    let k : at + 8 ≤ length key = omega arith in
    let r : at + 8 ≤ length run = omega arith in
    let width : at + 8 - at ≡ 8 = omega arith in
    let found : IsTrue c.is_same.result = c.if-is_same.true in
    let alike = rw width at (c.is_same.ensures found) in
    let block : SameFirst (take 8 (drop at key)) (take 8 (drop at run)) 8 = λ i h. alike i (omega (arith, length-take 8 (drop at key), length-drop at key)) in
    record { key = k; run = r; same = same_more key run at 8 c.loop-at.invariant.same block }
