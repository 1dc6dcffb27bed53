use Rattle.std.proofs.Common.{◌≤◌, ◌+◌, arith}
use Rattle.std.proofs.Math.Nat.{mul-le-mul}
use Rattle.rb_fallback.proofs.steps.left_after.Goals as goal

pub overflow_add-steps : goal.overflow_add-steps
overflow_add-steps c = omega arith

pub overflow_mul-steps : goal.overflow_mul-steps
overflow_mul-steps c =
    let few : c.args.names ≤ 255 = omega arith in
    let short : 1 + c.segment_count.result ≤ 1026 = omega arith in
    omega (arith, mul-le-mul few short)
