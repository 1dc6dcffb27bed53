use Rattle.std.proofs.Common.{◌≤◌, arith, inr}
use Rattle.rb_format.specs.Geometry.{key_offset as offset_in}
use Rattle.rb_validator.proofs.Pairs.{good_all}
use Rattle.rb_validator.proofs.keys.checker.KeyChecker.check_keys.Goals as goal

pub returns-then-reached-count-clause-fault : goal.returns-then-reached-count-clause-fault
returns-then-reached-count-clause-fault c =
    let low : c.args.count ≤ c.in_ok-reached.reached = omega arith in
    inr (good_all c.args.body.layout.now c.args.body.bytes.now (offset_in c.args.body.bytes.now c.args.places) c.args.count c.in_ok-reached.reached low c.in_ok-reached.ensures.good)

pub returns-then-reached-count-2-clause-fault : goal.returns-then-reached-count-2-clause-fault
returns-then-reached-count-2-clause-fault c =
    let good = c.in_ok-reached-2.ensures.good in
    let low : c.args.count ≤ c.in_ok-reached-2.reached = omega arith in
    inr (good_all c.args.body.layout.now c.args.body.bytes.now (offset_in c.args.body.bytes.now c.args.places) c.args.count c.in_ok-reached-2.reached low good)
