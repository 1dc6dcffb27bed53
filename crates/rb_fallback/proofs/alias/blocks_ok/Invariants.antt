use Rattle.std.proofs.Common.{◌≡◌, ◌≤◌, ◌+◌, ◌-◌}
use Rattle.rb_tree.specs.Parts.{len_of, units_of}
use Rattle.rb_fallback.specs.inner.PathScan.{AreFollowed}
use Rattle.rb_fallback.proofs.alias.blocks_ok.Given as goal

abbrev pub invariant-loop-at : goal.invariant-loop-at
invariant-loop-at g l =
    (l.last + 17 ≡ len_of (g.N.Node.tree l.node)) × (l.from ≤ l.at) × AreFollowed (units_of (g.N.Node.tree l.node)) l.from l.at

abbrev pub decreases-loop-at : goal.decreases-loop-at
decreases-loop-at g l = l.last - l.at
