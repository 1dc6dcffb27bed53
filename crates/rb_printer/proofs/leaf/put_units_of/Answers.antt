use Rattle.std.proofs.Common.{◌+◌, drop, refl, arith}
use Rattle.rb_tree.specs.Parts.{units_of}
use Rattle.rb_printer.specs.Sign.{first_unit}
use Rattle.rb_printer.proofs.Loops.{units_put, units_len}
use Rattle.rb_printer.proofs.Runs.{run_put}
use Rattle.rb_printer.proofs.leaf.put_units_of.Goals as goal

pub loop-at-preserved-then-run-gt0 : goal.loop-at-preserved-then-run-gt0
loop-at-preserved-then-run-gt0 g c =
    let us = units_of (g.N.Node.tree c.args.node) in
    run_put _ _ _ us c.plain_run-run.new.block c.loop-at.at c.plain_run-run.result c.loop-at.after_high c.loop-at.invariant c.plain_run-run.ensures.run
    (omega arith) (omega arith) c.in_ok-extend_from_slice.ensures.items

pub loop-at-preserved : goal.loop-at-preserved
loop-at-preserved g c =
    let tree = g.N.Node.tree c.args.node in
    units_put _ _ _ (units_of tree) c.loop-at.at c.unit-unit.result (first_unit (drop (c.loop-at.at + 1) (units_of tree))) c.loop-at.after_high _ c.loop-at.invariant
    (omega (arith, units_len tree c.requires)) c.unit-unit.ensures (omega arith) refl c.is_high-after_high.ensures c.in_ok-put_unit_of.ensures
