use Rattle.std.proofs.Common.{◌+◌, ◌*◌, ◌-◌, drop}
use Rattle.rb_tree.specs.Parts.{children_of, pairs_of}
use Rattle.rb_tree.specs.Resource.{height, weight}
use Rattle.rb_json.proofs.Rooms.{IsLeft, entry_height, entry_weight, item_weight, most, total}
use Rattle.rb_json.proofs.limit.+room.Given as goal

abbrev pub decreases-room_after : goal.decreases-room_after
decreases-room_after g l = 2 * l.levels

abbrev pub decreases-room_after_entries : goal.decreases-room_after_entries
decreases-room_after_entries g l = 2 * l.levels + 1

abbrev pub invariant-room_after-loop-i : goal.invariant-room_after-loop-i
invariant-room_after-loop-i g l =
    let t = g.N.Node.tree l.node in
    IsLeft (height t) (weight t) (most height (drop l.i (children_of t))) (total item_weight (drop l.i (children_of t))) (l.levels - 1) l.room l.left

abbrev pub invariant-room_after_entries-loop-i : goal.invariant-room_after_entries-loop-i
invariant-room_after_entries-loop-i g l =
    let t = g.N.Node.tree l.node in
    IsLeft (height t) (weight t) (most entry_height (drop l.i (pairs_of t))) (total entry_weight (drop l.i (pairs_of t))) l.levels l.room l.left
