use Rattle.std.proofs.Common.{◌≡◌, ◌-◌, drop}
use Rattle.std.specs.Char.Utf16.{has_unpaired_surrogate}
use Rattle.rb_tree.specs.Parts.{units_of}
use Rattle.rb_json.proofs.spell.is_well_formed.Given as goal

abbrev pub invariant-loop-at : goal.invariant-loop-at
invariant-loop-at g l = let us = units_of (g.N.Node.tree l.node) in has_unpaired_surrogate (drop l.at us) ≡ has_unpaired_surrogate us

abbrev pub decreases-loop-at : goal.decreases-loop-at
decreases-loop-at g l = l.len - l.at
