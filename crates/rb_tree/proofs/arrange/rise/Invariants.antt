use Rattle.std.proofs.Common.{◌≡◌, ◌<◌, ℕ, suc, get_or, nat_cmp, Less}
use Rattle.std.specs.Cmp.Lexicographic.{slice_cmp}
use Rattle.rb_tree.specs.declared.arrange.Numbered.{Numbered}
use Rattle.rb_tree.proofs.arrange.rise.Given as goal

abbrev pub invariant-loop-i : goal.invariant-loop-i
invariant-loop-i l = (k : ℕ) (d : Numbered) → suc k < l.i → slice_cmp nat_cmp (get_or l.keys k d).key.now (get_or l.keys (suc k) d).key.now ≡ Less
