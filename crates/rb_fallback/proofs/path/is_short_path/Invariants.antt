use Rattle.std.proofs.Common.{◌≡◌, ◌&&◌, drop}
use Rattle.rb_fallback.specs.inner.PathScan.{may_end}
use Rattle.rb_fallback.proofs.path.is_short_path.Given as goal

abbrev pub invariant-loop-byte : goal.invariant-loop-byte
invariant-loop-byte l = (may_end 47 l.path ≡ l.good && may_end l.before (drop l.byte-index l.path))
