use Rattle.std.proofs.Common.{◌≡◌, map, slice_range}
use Rattle.rb_tree.specs.Parts.{units_of}
use Rattle.rb_inspect.specs.inner.ShownUnits.{shown_unit}
use Rattle.rb_inspect.proofs.trace.shown_units.Given as goal

abbrev pub invariant-loop-i : goal.invariant-loop-i
invariant-loop-i g l = l.text.items ≡ map shown_unit (slice_range (units_of (g.N.Node.tree l.node)) l.from l.i)
