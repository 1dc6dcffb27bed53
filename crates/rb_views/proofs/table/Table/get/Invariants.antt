use Rattle.std.proofs.Common.{◌-◌, ◌<◌, ◌≤◌}
use Rattle.rb_format.specs.Geometry.{key_offset}
use Rattle.rb_views.specs.Trees.{key_from}
use Rattle.rb_views.proofs.Halving.{IsHalved}
use Rattle.rb_views.proofs.table.Table.get.Given as goal

abbrev pub invariant-loop-low : goal.invariant-loop-low
invariant-loop-low l =
    record {
      halved : IsHalved (λ j. key_from l.self.body.now (key_offset l.self.body.now l.self.parts.keys j)) l.self.parts.count l.key l.low l.high;
      inside : l.low < l.high → (l.low ≤ l.middle) × (l.middle < l.high);
    }

abbrev pub decreases-loop-low : goal.decreases-loop-low
decreases-loop-low l = l.high - l.low
