use Rattle.std.proofs.Common.{◌≡◌, ℕ, ◌+◌, ◌-◌, ◌≤◌, ◌<◌, Some, sym, ap, ◌∙◌, take, drop, arith}
use Rattle.rb_validator.specs.inner.Lengths.{length_at}
use Rattle.rb_validator.proofs.Measuring.{measured_none, measured_some}
use Rattle.rb_validator.proofs.keys.lengths.measured_key.Goals as goal

pub returns-then-long-lt2 : goal.returns-then-long-lt2
returns-then-long-lt2 c =
    let l : length_at c.args.body.layout.now c.args.lengths.now c.args.offset < 2 = omega arith in
    sym (measured_none c.args.body.layout.now c.args.body.bytes.now c.args.lengths.now c.args.offset c.requires.counted l)

pub slice_bounds-result-end : goal.slice_bounds-result-end
slice_bounds-result-end c =
    let l : 2 ≤ length_at c.args.body.layout.now c.args.lengths.now c.args.offset = omega arith in
    let m = measured_some c.args.body.layout.now c.args.body.bytes.now c.args.lengths.now c.args.offset c.requires.keys c.requires.counted l in
    let low = m.low in
    omega arith

pub returns : goal.returns
returns c =
    let l : 2 ≤ length_at c.args.body.layout.now c.args.lengths.now c.args.offset = omega arith in
    let m = measured_some c.args.body.layout.now c.args.body.bytes.now c.args.lengths.now c.args.offset c.requires.keys c.requires.counted l in
    let n : length_at c.args.body.layout.now c.args.lengths.now c.args.offset - 1 ≡ c.args.offset + c.length_at-long.result - 1 - c.args.offset = omega arith in
    sym (m.is ∙ ap (λ (x : ℕ). Some (take x (drop c.args.offset c.args.body.bytes.now))) n)
