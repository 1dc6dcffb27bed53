use Rattle.std.proofs.Common.{◌≡◌, ℕ, ◌-◌, ◌<◌, List, length, get_or, refl, sym, ap, ◌∙◌, arith}
use Rattle.rb_validator.proofs.Upwards.{length_upwards, upwards_at}
use Rattle.rb_validator.proofs.items.late_bytes.LateBytes.get.Goals as goal

pub overflow_sub-self-inside-2 : goal.overflow_sub-self-inside-2
overflow_sub-self-inside-2 c =
    let long : length c.args.self.now ≡ c.self.inside.len = ap length (sym c.self.view_is) ∙ length_upwards c.self.inside.kept.items c.self.inside.len in
    let h = c.requires in
    omega arith

pub returns : goal.returns
returns c =
    let kept = c.self.inside.kept.items in let n = c.self.inside.len in let i = c.args.i in
    let long : length c.args.self.now ≡ n = ap length (sym c.self.view_is) ∙ length_upwards kept n in
    let h = c.requires in
    let small : i < n = omega arith in
    let byte : c.byte_at.result ≡ get_or kept (n - 1 - i) 0 = rw (c.byte_at.ensures, c.deref.ensures.value) refl in
    byte ∙ sym (upwards_at kept n i small) ∙ ap (λ (x : List ℕ). get_or x i 0) c.self.view_is
