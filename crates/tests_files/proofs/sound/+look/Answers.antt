use Rattle.std.proofs.Common.{◌≤◌, arith, length}
use Rattle.std.specs.Map.{values_of}
use Rattle.rb_tree.specs.Keys.{items, pairs}
use Rattle.rb_tree.specs.Resource.{height, trees_height, entries_height}
use Rattle.rb_tree.specs.View.{view_of}
use Rattle.rb_tree.specs.inner.Lower.{item_low, value_low}
use Rattle.rb_printer.specs.Sound.{IsSound}
use Rattle.tests_files.proofs.Looks.{all_start, all_more, items_sound, entries_sound}
use Rattle.tests_files.proofs.sound.+look.Goals as goal

pub look_at_entries-loop-i-init : goal.look_at_entries-loop-i-init
look_at_entries-loop-i-init t c = all_start IsSound (values_of (pairs c.args.entries.now))

pub look_at_entries-look_at-requires : goal.look_at_entries-look_at-requires
look_at_entries-look_at-requires t c =
    let low : height (view_of c.at.result.now) ≤ entries_height c.args.entries.now =
    value_low c.args.entries.now c.loop-i.i (view_of c.at.result.now) c.at.ensures in
    (omega (arith, low, c.decreases), tt)

pub look_at_entries-loop-i-preserved : goal.look_at_entries-loop-i-preserved
look_at_entries-loop-i-preserved t c =
    all_more IsSound (values_of (pairs c.args.entries.now)) c.loop-i.i (view_of c.at.result.now) c.loop-i.invariant c.at.ensures c.look_at.ensures

pub look_at_entries-returns-clause-trees : goal.look_at_entries-returns-clause-trees
look_at_entries-returns-clause-trees t c =
    let past : length (pairs c.args.entries.now) ≤ c.loop-i.i = omega (arith, c.len-i-end.ensures.value, c.loop-i-test.false) in
    entries_sound c.args.entries.now c.loop-i.i past c.loop-i.invariant

pub look_at_items-loop-i-init : goal.look_at_items-loop-i-init
look_at_items-loop-i-init t c = all_start IsSound (items c.args.trees.now)

pub look_at_items-look_at-requires : goal.look_at_items-look_at-requires
look_at_items-look_at-requires t c =
    let low : height (view_of c.at.result.now) ≤ trees_height c.args.trees.now =
    item_low c.args.trees.now c.loop-i.i (view_of c.at.result.now) c.at.ensures in
    (omega (arith, low, c.decreases), tt)

pub look_at_items-loop-i-preserved : goal.look_at_items-loop-i-preserved
look_at_items-loop-i-preserved t c =
    all_more IsSound (items c.args.trees.now) c.loop-i.i (view_of c.at.result.now) c.loop-i.invariant c.at.ensures c.look_at.ensures

pub look_at_items-returns : goal.look_at_items-returns
look_at_items-returns t c =
    let past : length (items c.args.trees.now) ≤ c.loop-i.i = omega (arith, c.len-i-end.ensures, c.loop-i-test.false) in
    items_sound c.args.trees.now c.loop-i.i past c.loop-i.invariant
