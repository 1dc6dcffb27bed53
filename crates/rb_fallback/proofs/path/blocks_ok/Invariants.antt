use Rattle.std.proofs.Common.{◌≡◌, ◌+◌, ◌-◌, length}
use Rattle.rb_fallback.specs.inner.PathScan.{AreFollowed}
use Rattle.rb_fallback.proofs.path.blocks_ok.Given as goal

abbrev pub invariant-loop-at : goal.invariant-loop-at
invariant-loop-at g l = (l.last + g.row.N + 1 ≡ length l.path) × AreFollowed l.path 0 l.at

abbrev pub decreases-loop-at : goal.decreases-loop-at
decreases-loop-at g l = l.last - l.at
