use Rattle.std.proofs.Common.{arith}
use Rattle.rb_tree.specs.Parts.{units_of}
use Rattle.rb_json.proofs.OfKinds.{units_len}
use Rattle.rb_json.proofs.Runs.{no_run, run_more}
use Rattle.rb_json.proofs.units.ascii_run.Goals as goal

pub loop-i-init : goal.loop-i-init
loop-i-init g c = no_run _ _ _

pub loop-i-preserved : goal.loop-i-preserved
loop-i-preserved g c =
    let t = g.N.Node.tree c.args.node in
    run_more _ (units_of t) c.args.at c.loop-i.i c.unit-unit.result c.loop-i.invariant (omega arith) (omega (arith, units_len t c.requires.units))
    c.unit-unit.ensures (omega arith)
