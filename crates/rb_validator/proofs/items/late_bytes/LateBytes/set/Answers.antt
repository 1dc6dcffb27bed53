use Rattle.std.proofs.Common.{◌≡◌, ℕ, ◌-◌, ◌<◌, List, length, set, sym, ap, ◌∙◌, arith}
use Rattle.rb_validator.proofs.Upwards.{length_upwards, upwards_set}
use Rattle.rb_validator.proofs.items.late_bytes.LateBytes.set.Goals as goal

pub overflow_sub-place-2 : goal.overflow_sub-place-2
overflow_sub-place-2 c =
    let long : length c.args.self.now ≡ c.self.inside.len = ap length (sym c.self.view_is) ∙ length_upwards c.self.inside.kept.items c.self.inside.len in
    let h = c.requires in
    omega arith

pub returns : goal.returns
returns c =
    let kept = c.self.inside.kept.items in let later = c.extend.new.list.items in let n = c.self.inside.len in let i = c.args.i in
    let long : length c.args.self.now ≡ n = ap length (sym c.self.view_is) ∙ length_upwards kept n in
    let h = c.requires in
    let small : i < n = omega arith in
    let more = c.extend.ensures.long in
    let inside : n - 1 - i < length later = omega arith in
    upwards_set kept later n i c.args.byte small c.extend.ensures.same inside ∙ ap (λ (x : List ℕ). set x i c.args.byte) c.self.view_is
