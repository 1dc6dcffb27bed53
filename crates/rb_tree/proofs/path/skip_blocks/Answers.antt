use Rattle.std.proofs.Common.{◌≡◌, ◌+◌, ◌-◌, ◌≤◌, false, take, drop, length, arith, sym, ◌∙◌}
use Rattle.std.specs.List.{list_any}
use Rattle.rb_tree.specs.Path.{is_slash}
use Rattle.rb_tree.proofs.Slashes.{none_more}
use Rattle.rb_tree.proofs.path.skip_blocks.Goals as goal

pub loop-at-preserved : goal.loop-at-preserved
loop-at-preserved c =
    let path = c.args.path.now in
    let at = c.loop-at.at in
    let inside : at + 8 ≤ length path = omega arith in
    let width : at + 8 - at ≡ 8 = omega arith in
    let clear : list_any is_slash (take 8 (drop at path)) ≡ false = rw width at (sym c.has_slash.ensures ∙ c.if-not-has_slash.true) in
    (inside, none_more is_slash path at 8 inside c.loop-at.invariant.1 clear)
