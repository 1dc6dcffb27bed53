use Rattle.std.proofs.Common.{◌<◌, ◌≤◌, arith, length}
use Rattle.rb_tree.specs.Parts.{children_of}
use Rattle.rb_tree.specs.Resource.{height}
use Rattle.rb_tree.specs.inner.Lower.{child_lower}
use Rattle.rb_views.specs.Seen.{tree_seen}
use Rattle.resb.proofs.LooksBelow.{left_all, left_more}
use Rattle.resb.proofs.OpenAliases.{all_closed, closed_more, error_below}
use Rattle.resb.proofs.icu.+search.Goals as goal

pub search-requires : goal.search-requires
search-requires t c =
    let lower : height (tree_seen c.at.result) < height (tree_seen c.args.item) =
    child_lower (tree_seen c.args.item) (tree_seen c.at.result) c.loop-i.i c.at.ensures in
    (omega (arith, lower, c.decreases), tt)

pub returns-in-Err-clause-open : goal.returns-in-Err-clause-open
returns-in-Err-clause-open t c =
    error_below (tree_seen c.args.item) (tree_seen c.at.result) c.loop-i.i c.loop-i.left c.args.limit c.in-Err.number c.at.ensures
    c.loop-i.invariant.1 c.in-Err.ensures.open

pub returns-clause-closed : goal.returns-clause-closed
returns-clause-closed t c =
    let past : length (children_of (tree_seen c.args.item)) ≤ c.loop-i.i = omega (arith, c.child_count-i-end.ensures.count, c.loop-i-test.false) in
    all_closed (tree_seen c.args.item) c.loop-i.i past c.loop-i.invariant.0 (c.is_open_alias.ensures.closed c.if-is_open_alias.false)

pub returns-clause-cost : goal.returns-clause-cost
returns-clause-cost t c =
    let past : length (children_of (tree_seen c.args.item)) ≤ c.loop-i.i = omega (arith, c.child_count-i-end.ensures.count, c.loop-i-test.false) in
    left_all (tree_seen c.args.item) c.loop-i.i c.loop-i.left c.args.limit past c.loop-i.invariant.1

pub loop-i-preserved : goal.loop-i-preserved
loop-i-preserved t c =
    let tree = tree_seen c.args.item in
    let child = tree_seen c.at.result in (
      closed_more tree child c.loop-i.i c.at.ensures c.in-Ok.ensures.closed c.loop-i.invariant.0,
      left_more tree child c.loop-i.i c.loop-i.left c.in-Ok.remaining c.args.limit c.at.ensures c.in-Ok.ensures.cost c.loop-i.invariant.1,
    )
