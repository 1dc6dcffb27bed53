use Rattle.std.proofs.Common.{refl}
use Rattle.std.specs.Prelude.{length}
use Rattle.rb_format.proofs.KeyOrder.{has_nul, inside, at_end, key_is_longer, difference_decides, agree_first, byte_agrees, key_ends, key_is_shorter}
use Rattle.rb_format.proofs.key_order.compare_before_nul.Goals as goal

pub loop-i-init : goal.loop-i-init
loop-i-init c =
    agree_first c.args.key.now c.args.run.now c.skip_same-i.result (has_nul c.args.run.now c.requires) c.skip_same-i.ensures.within c.skip_same-i.ensures.same

pub bounds-run-i : goal.bounds-run-i
bounds-run-i c = inside c.args.run.now c.loop-i.i c.loop-i.invariant.ends

pub returns-then-stored-eq0 : goal.returns-then-stored-eq0
returns-then-stored-eq0 c = key_is_longer c.args.key.now c.args.run.now c.loop-i.i c.loop-i.invariant c.loop-i-test.true c.if-stored-eq0.true

pub returns-then-key-i : goal.returns-then-key-i
returns-then-key-i c =
    difference_decides c.args.key.now c.args.run.now c.loop-i.i c.cmp-then-key-i.result c.loop-i.invariant c.loop-i-test.true c.if-key-i.true c.cmp-then-key-i.ensures

pub loop-i-preserved : goal.loop-i-preserved
loop-i-preserved c =
    byte_agrees c.args.key.now c.args.run.now c.loop-i.i c.loop-i.invariant c.loop-i-test.true c.if-stored-eq0.false c.if-key-i.false

pub bounds-run-key : goal.bounds-run-key
bounds-run-key c =
    let a = at_end c.args.key.now c.args.run.now c.loop-i.i c.loop-i.invariant (c.loop-i.auto.i-end c.skip_same-i.ensures.within) c.loop-i-test.false in
    inside c.args.run.now (length c.args.key.now) a.ends

pub returns-then-run-key-eq0 : goal.returns-then-run-key-eq0
returns-then-run-key-eq0 c =
    let a = at_end c.args.key.now c.args.run.now c.loop-i.i c.loop-i.invariant (c.loop-i.auto.i-end c.skip_same-i.ensures.within) c.loop-i-test.false in
    key_ends c.args.key.now c.args.run.now a c.if-run-key-eq0.true

pub returns-else-run-key-eq0 : goal.returns-else-run-key-eq0
returns-else-run-key-eq0 c =
    let a = at_end c.args.key.now c.args.run.now c.loop-i.i c.loop-i.invariant (c.loop-i.auto.i-end c.skip_same-i.ensures.within) c.loop-i-test.false in
    key_is_shorter c.args.key.now c.args.run.now a c.if-run-key-eq0.false
