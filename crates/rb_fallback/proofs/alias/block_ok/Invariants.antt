use Rattle.std.proofs.Common.{◌≡◌, ◌↔◌, ◌+◌, true}
use Rattle.rb_tree.specs.Parts.{units_of}
use Rattle.rb_fallback.specs.inner.PathScan.{AreFollowed}
use Rattle.rb_fallback.proofs.alias.block_ok.Given as goal

abbrev pub invariant-loop-i : goal.invariant-loop-i
invariant-loop-i g l = (l.good ≡ true) ↔ AreFollowed (units_of (g.N.Node.tree l.node)) l.at (l.at + l.i)
