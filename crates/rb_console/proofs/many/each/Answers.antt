use Rattle.std.proofs.Common.{◌∙◌, ap, sym, nat_eq}
use Rattle.std.specs.Process.{exit_status}
use Rattle.rb_console.proofs.Running.{step_back}
use Rattle.rb_console.proofs.many.each.Goals as goal

pub loop-name-preserved : goal.loop-name-preserved
loop-name-preserved g c = λ end rest.
    let more = sym c.if-eq.false ∙ c.eq.ensures ∙ ap (λ n. nat_eq (exit_status c.after-status.result) n) c.from.ensures in
    c.loop-name.invariant end
    (step_back _ c.args.names.now c.loop-name.name-index _ (exit_status c.loop-name.status)
    (exit_status c.after-status.result) end
    c.run.result c.loop-name-test.true c.run.ensures c.after-status.ensures more rest)
