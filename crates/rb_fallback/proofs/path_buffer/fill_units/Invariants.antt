use Rattle.std.proofs.Common.{◌≡◌, ◌+◌, ◌<◌, ℕ, length, get_or, slice_index}
use Rattle.rb_tree.specs.Parts.{units_of}
use Rattle.rb_fallback.proofs.path_buffer.fill_units.Given as goal

abbrev pub invariant-loop-i : goal.invariant-loop-i
invariant-loop-i g l =
    (length l.field ≡ length l.initial.field) × ((k : ℕ) → k < l.i → get_or l.field k 0 ≡ slice_index (units_of (g.N.Node.tree l.node)) (l.at + k))
