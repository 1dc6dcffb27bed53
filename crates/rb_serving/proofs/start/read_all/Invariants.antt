use Rattle.std.proofs.Common.{◌≡◌, vec_len}
use Rattle.rb_serving.proofs.start.read_all.Given as goal

abbrev pub invariant-loop-bundle : goal.invariant-loop-bundle
invariant-loop-bundle g l = vec_len l.entries ≡ l.bundle-index
