use Rattle.std.proofs.Common.{◌≤◌, ◌-◌, sym, arith}
use Rattle.rb_tree.specs.Resource.{height, weight}
use Rattle.rb_tree.specs.Parts.{children_of, pairs_of}
use Rattle.rb_json.proofs.Growth.{entry_at}
use Rattle.rb_json.proofs.Rooms.{items_begin, entries_begin, left_more, left_less, height_above, item_weight, entry_height, entry_weight}
use Rattle.rb_json.proofs.limit.+room.Goals as goal

pub room_after-returns-then-levels-eq0 : goal.room_after-returns-then-levels-eq0
room_after-returns-then-levels-eq0 g t c = λ low light. omega (arith, height_above (g.N.Node.tree c.args.node), low, c.if-levels-eq0.true)

pub room_after-loop-i-init : goal.room_after-loop-i-init
room_after-loop-i-init g t c =
    items_begin (g.N.Node.tree c.args.node) (c.args.levels - 1) c.args.room c.in_ok-left-in-Array.left (sym c.in-Array.ensures)
    (omega (arith, c.in_ok-left-in-Array.ensures.0, c.in_ok-left-in-Array.ensures.1))

pub room_after-returns-in_err-checked_sub-in-Array : goal.room_after-returns-in_err-checked_sub-in-Array
room_after-returns-in_err-checked_sub-in-Array g t c =
    let tree = g.N.Node.tree c.args.node in
    let out = left_less height item_weight (children_of tree) c.loop-i.i (g.N.Node.tree c.at.result) (height tree) (weight tree) (c.args.levels - 1)
    c.args.room c.loop-i.left c.loop-i.invariant c.at.ensures (λ low light. c.in_err-checked_sub-in-Array.ensures (omega (arith, light))) in
    rw c.from_residual-in_err-checked_sub-in-Array.ensures (λ low light. out (omega (arith, low)) light)

pub room_after-room_after-requires : goal.room_after-room_after-requires
room_after-room_after-requires g t c κs within = (
  omega (arith, c.decreases, c.if-levels-eq0.false),
  (
    within,
    (
      omega (arith, c.requires.levels),
      omega (arith, c.requires.room, c.in_ok-checked_sub-in-Array.ensures.1, c.loop-i.invariant.room_is, c.loop-i.invariant.light),
    ),
  ),
)

pub room_after-returns-in_err-left-in-Array-2 : goal.room_after-returns-in_err-left-in-Array-2
room_after-returns-in_err-left-in-Array-2 g t c =
    let tree = g.N.Node.tree c.args.node in
    let taken = c.in_ok-checked_sub-in-Array.ensures in
    let out = left_less height item_weight (children_of tree) c.loop-i.i (g.N.Node.tree c.at.result) (height tree) (weight tree) (c.args.levels - 1)
    c.args.room c.loop-i.left c.loop-i.invariant c.at.ensures
    (λ low light. c.in_err-left-in-Array-2.ensures low (omega (arith, light, taken.0, taken.1))) in
    rw c.from_residual-in_err-left-in-Array-2.ensures (λ low light. out (omega (arith, low)) light)

pub room_after-loop-i-preserved : goal.room_after-loop-i-preserved
room_after-loop-i-preserved g t c =
    let tree = g.N.Node.tree c.args.node in
    let taken = c.in_ok-checked_sub-in-Array.ensures in
    let fits = c.in_ok-left-in-Array-2.ensures in
    left_more height item_weight (children_of tree) c.loop-i.i (g.N.Node.tree c.at.result) (height tree) (weight tree) (c.args.levels - 1) c.args.room
    c.loop-i.left c.in_ok-left-in-Array-2.left c.loop-i.invariant c.at.ensures fits.0 (omega (arith, fits.1, taken.0, taken.1))

pub room_after_entries-loop-i-init : goal.room_after_entries-loop-i-init
room_after_entries-loop-i-init g t c =
    entries_begin (g.N.Node.tree c.args.node) c.args.levels c.args.room c.in_ok-left.left c.requires.table
    (omega (arith, c.in_ok-left.ensures.0, c.in_ok-left.ensures.1))

pub room_after_entries-returns-in_err-checked_sub : goal.room_after_entries-returns-in_err-checked_sub
room_after_entries-returns-in_err-checked_sub g t c =
    let tree = g.N.Node.tree c.args.node in
    let k = c.key_at.result.now in
    let u = g.N.Node.tree c.at.result in
    let at = entry_at tree c.loop-i.i k u c.requires.table c.key_at.ensures c.at.ensures in
    let out = left_less entry_height entry_weight (pairs_of tree) c.loop-i.i (k, u) (height tree) (weight tree) c.args.levels c.args.room
    c.loop-i.left c.loop-i.invariant at (λ low light. c.in_err-checked_sub.ensures (omega (arith, light, c.saturating_add.ensures))) in
    rw c.from_residual-in_err-checked_sub.ensures out

pub room_after_entries-room_after-requires : goal.room_after_entries-room_after-requires
room_after_entries-room_after-requires g t c κs within = (
  omega (arith, c.decreases),
  (
    within,
    (
      omega (arith, c.requires.levels),
      omega (arith, c.requires.room, c.in_ok-checked_sub.ensures.1, c.loop-i.invariant.room_is, c.loop-i.invariant.light),
    ),
  ),
)

pub room_after_entries-returns-in_err-left-2 : goal.room_after_entries-returns-in_err-left-2
room_after_entries-returns-in_err-left-2 g t c =
    let tree = g.N.Node.tree c.args.node in
    let k = c.key_at.result.now in
    let u = g.N.Node.tree c.at.result in
    let taken = c.in_ok-checked_sub.ensures in
    let at = entry_at tree c.loop-i.i k u c.requires.table c.key_at.ensures c.at.ensures in
    let held = c.loop-i.invariant in
    let room : c.loop-i.left ≤ 33554432 = omega (arith, c.requires.room, held.room_is, held.light) in
    let out = left_less entry_height entry_weight (pairs_of tree) c.loop-i.i (k, u) (height tree) (weight tree) c.args.levels c.args.room
    c.loop-i.left held at (λ low light. c.in_err-left-2.ensures low (omega (arith, light, taken.0, taken.1, room, c.saturating_add.ensures))) in
    rw c.from_residual-in_err-left-2.ensures out

pub room_after_entries-loop-i-preserved : goal.room_after_entries-loop-i-preserved
room_after_entries-loop-i-preserved g t c =
    let tree = g.N.Node.tree c.args.node in
    let k = c.key_at.result.now in
    let u = g.N.Node.tree c.at.result in
    let taken = c.in_ok-checked_sub.ensures in
    let fits = c.in_ok-left-2.ensures in
    let at = entry_at tree c.loop-i.i k u c.requires.table c.key_at.ensures c.at.ensures in
    let held = c.loop-i.invariant in
    let room : c.loop-i.left ≤ 33554432 = omega (arith, c.requires.room, held.room_is, held.light) in
    left_more entry_height entry_weight (pairs_of tree) c.loop-i.i (k, u) (height tree) (weight tree) c.args.levels c.args.room
    c.loop-i.left c.in_ok-left-2.left held at fits.0 (omega (arith, fits.1, taken.0, taken.1, room, c.saturating_add.ensures))
