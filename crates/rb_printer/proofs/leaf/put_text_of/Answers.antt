use Rattle.std.proofs.Common.{arith}
use Rattle.rb_tree.specs.Parts.{units_of}
use Rattle.rb_printer.proofs.Least.{text_exceeds}
use Rattle.rb_printer.proofs.Loops.{units_len}
use Rattle.rb_printer.proofs.leaf.put_text_of.Goals as goal

pub returns-then-not-fits_limit-clause-error : goal.returns-then-not-fits_limit-clause-error
returns-then-not-fits_limit-clause-error g c =
    let tree = g.N.Node.tree c.args.node in
    text_exceeds c.args.out.now.items (units_of tree) _
    (omega (arith, c.if-not-fits_limit.ensures.exceeds, units_len tree c.requires, c.len.ensures, c.as_slice.ensures.len))
