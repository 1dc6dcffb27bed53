use Rattle.rb_tree.specs.Parts.{units_of}
use Rattle.rb_fallback.specs.inner.Stretches.{ArePlain}
use Rattle.rb_fallback.proofs.alias.are_plain.Given as goal

abbrev pub invariant-loop-i : goal.invariant-loop-i
invariant-loop-i g l = ArePlain (units_of (g.N.Node.tree l.node)) l.from l.i
