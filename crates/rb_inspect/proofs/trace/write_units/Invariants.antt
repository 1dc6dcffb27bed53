use Rattle.std.proofs.Common.{◌-◌}
use Rattle.rb_tree.specs.Parts.{len_of}
use Rattle.rb_inspect.proofs.trace.write_units.Given as goal

abbrev pub decreases-pieces : goal.decreases-pieces
decreases-pieces g l = len_of (g.N.Node.tree l.node) - l.from
