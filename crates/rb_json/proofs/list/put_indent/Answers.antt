use Rattle.std.proofs.Common.{◌≡◌, ◌+◌, ◌*◌, ℕ, List, replicate, ap, ◌∙◌, subst, arith}
use Rattle.std.proofs.lemmas.List.{replicate-append-replicate}
use Rattle.rb_json.proofs.list.put_indent.Goals as goal

pub loop-step-preserved : goal.loop-step-preserved
loop-step-preserved g c =
    let i = c.loop-step._step in
    let n : 2 * i + 2 ≡ 2 * (i + 1) = omega arith in
    subst (λ (bytes : List ℕ). g.O.Outlet.takes c.args.out.now c.put.new.self bytes) (replicate-append-replicate (2 * i) 2 32 ∙ ap (λ (m : ℕ). replicate m 32) n)
    (g.met.O.Outlet.joined c.args.out.now c.loop-step.out c.put.new.self (replicate (2 * i) 32) (replicate 2 32) c.loop-step.invariant c.put.ensures)
