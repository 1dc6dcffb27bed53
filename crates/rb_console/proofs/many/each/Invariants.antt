use Rattle.std.proofs.Common.{ℕ, drop}
use Rattle.std.specs.Process.{exit_status}
use Rattle.rb_console.specs.Each.{AreRun}
use Rattle.rb_console.proofs.many.each.Given as goal

abbrev pub invariant-loop-name : goal.invariant-loop-name
invariant-loop-name g l =
    (end : ℕ) → AreRun (λ name one. goal.F-post g l.run name one) (drop l.name-index l.names) (exit_status l.status) end
    → AreRun (λ name one. goal.F-post g l.fn.run name one) l.fn.names 0 end
