use Rattle.std.proofs.Common.{◌≡◌, ◌↔◌, ◌+◌, true}
use Rattle.rb_fallback.specs.inner.PathScan.{AreFollowed}
use Rattle.rb_fallback.proofs.path.block_ok.Given as goal

abbrev pub invariant-loop-i : goal.invariant-loop-i
invariant-loop-i g l = (l.good ≡ true) ↔ AreFollowed l.path l.at (l.at + l.i)
