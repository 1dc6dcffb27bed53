use Rattle.std.proofs.Common.{◌+◌, drop, refl, arith}
use Rattle.rb_tree.specs.Parts.{units_of}
use Rattle.rb_printer.specs.Sign.{first_unit}
use Rattle.rb_printer.proofs.Loops.{units_len}
use Rattle.rb_printer.proofs.Widths.{measure_more}
use Rattle.rb_printer.proofs.line.text_width.Goals as goal

pub loop-i-preserved : goal.loop-i-preserved
loop-i-preserved g c =
    let tree = g.N.Node.tree c.args.node in
    measure_more (units_of tree) c.loop-i.width c.loop-i.i c.unit-unit.result c.width_of-width.result (first_unit (drop (c.loop-i.i + 1) (units_of tree))) c.loop-i.after_high
    c.is_high-after_high.result c.loop-i.invariant (omega (arith, units_len tree c.requires)) c.unit-unit.ensures refl
    c.is_high-after_high.ensures c.width_of-width.ensures.width (omega arith)
