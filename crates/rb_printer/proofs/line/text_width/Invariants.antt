use Rattle.rb_tree.specs.Parts.{units_of}
use Rattle.rb_printer.proofs.Widths.{Measured}
use Rattle.rb_printer.proofs.line.text_width.Given as goal

abbrev pub invariant-loop-i : goal.invariant-loop-i
invariant-loop-i g l = Measured (units_of (g.N.Node.tree l.node)) l.width l.i l.after_high
