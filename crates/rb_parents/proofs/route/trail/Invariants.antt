use Rattle.std.proofs.Common.{◌≡◌, ◌-◌, ◌≤◌, length}
use Rattle.rb_parents.specs.Family.{parent_of}
use Rattle.rb_parents.specs.Trail.{is_stop, trail, trail_within, places}
use Rattle.rb_parents.specs.declared.limits.TheConstants.{TRAIL_LIMIT}
use Rattle.rb_parents.proofs.Trails.{all_begin}
use Rattle.rb_parents.proofs.route.trail.Given as goal

abbrev pub invariant-loop-i : goal.invariant-loop-i
invariant-loop-i g l =
    let bundles = g.S.Shelf.bundles l.shelf in
    record {
      many : length l.route.names.items ≡ l.i;
      few : length l.route.stops.items ≤ l.i;
      same : all_begin l.route.names.items (trail_within (TRAIL_LIMIT - l.i) bundles (parent_of l.parents) l.here) ≡ trail bundles (parent_of l.parents) l.name;
      stops : l.route.stops.items ≡ places (is_stop bundles) 0 l.route.names.items;
    }
