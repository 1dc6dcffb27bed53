use Rattle.rb_tree.specs.Parts.{units_of}
use Rattle.rb_json.specs.inner.Run.{IsRun}
use Rattle.rb_json.proofs.units.ascii_run.Given as goal

abbrev pub invariant-loop-i : goal.invariant-loop-i
invariant-loop-i g l = IsRun l.block (units_of (g.N.Node.tree l.node)) l.at l.i
