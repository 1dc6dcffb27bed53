use Rattle.rb_inspect.proofs.Reaching.{IsReachWithin}
use Rattle.rb_inspect.proofs.trace_steps.reach.Given as goal

abbrev pub invariant-loop-at : goal.invariant-loop-at
invariant-loop-at g l = IsReachWithin (g.N.Node.tree l.root) l.path l.at l.reached
