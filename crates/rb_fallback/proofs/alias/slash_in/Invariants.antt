use Rattle.rb_tree.specs.Parts.{units_of}
use Rattle.rb_fallback.specs.inner.Stretches.{HasNoSlash}
use Rattle.rb_fallback.proofs.alias.slash_in.Given as goal

abbrev pub invariant-loop-i : goal.invariant-loop-i
invariant-loop-i g l = HasNoSlash (units_of (g.N.Node.tree l.node)) l.from l.i
