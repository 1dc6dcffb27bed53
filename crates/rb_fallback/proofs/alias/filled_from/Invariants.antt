use Rattle.std.proofs.Common.{◌≡◌, ◌≤◌, ◌-◌}
use Rattle.rb_tree.specs.Parts.{units_of, len_of}
use Rattle.rb_fallback.specs.AliasPaths.{are_filled, segments_from}
use Rattle.rb_fallback.proofs.alias.filled_from.Given as goal

abbrev pub invariant-segments : goal.invariant-segments
invariant-segments g l =
    let us = units_of (g.N.Node.tree l.node) in
    (l.at ≤ len_of (g.N.Node.tree l.node)) × (are_filled (segments_from us l.at) ≡ are_filled (segments_from us l.from))

abbrev pub decreases-segments : goal.decreases-segments
decreases-segments g l = len_of (g.N.Node.tree l.node) - l.at
