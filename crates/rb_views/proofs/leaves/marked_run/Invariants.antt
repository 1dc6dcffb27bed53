use Rattle.std.proofs.Common.{◌≡◌, ◌*◌, ◌/◌, ◌≤◌, ◌<◌, ℕ, Some, true}
use Rattle.std.specs.Prelude.{slice_get}
use Rattle.rb_views.proofs.leaves.marked_run.Given as goal

abbrev pub invariant-loop-block : goal.invariant-loop-block
invariant-loop-block l = (h : ℕ) → l.at ≤ h → h < l.block * 1024 → slice_get l.blocks (h / 1024) ≡ Some true
