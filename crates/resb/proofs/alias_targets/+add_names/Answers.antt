use Rattle.std.proofs.Common.{◌<◌, ◌≤◌, arith, length}
use Rattle.rb_tree.specs.Parts.{children_of}
use Rattle.rb_tree.specs.Resource.{height}
use Rattle.rb_tree.specs.inner.Lower.{child_lower}
use Rattle.rb_views.specs.Seen.{tree_seen}
use Rattle.resb.proofs.AliasNames.{adds_all, adds_more}
use Rattle.resb.proofs.alias_targets.+add_names.Goals as goal

pub add_names-requires : goal.add_names-requires
add_names-requires t c =
    let lower : height (tree_seen c.at.result) < height (tree_seen c.args.item) =
    child_lower (tree_seen c.args.item) (tree_seen c.at.result) c.loop-i.i c.at.ensures in
    (omega (arith, lower, c.decreases), tt)

pub loop-i-preserved : goal.loop-i-preserved
loop-i-preserved t c =
    adds_more (tree_seen c.args.item) (tree_seen c.at.result) c.loop-i.i c.args.found.now c.loop-i.found c.add_names.new.found
    c.at.ensures c.loop-i.invariant c.in_ok-add_names.ensures

pub returns : goal.returns
returns t c =
    let past : length (children_of (tree_seen c.args.item)) ≤ c.loop-i.i = omega (arith, c.child_count-i-end.ensures.count, c.loop-i-test.false) in
    adds_all (tree_seen c.args.item) c.loop-i.i c.args.found.now c.loop-i.found past c.loop-i.invariant
