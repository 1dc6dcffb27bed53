use Rattle.rb_tree.specs.Resource.{height}
use Rattle.rb_views.specs.Seen.{tree_seen}
use Rattle.resb.proofs.AliasNames.{AddsFirst}
use Rattle.resb.proofs.alias_targets.+add_names.Given as goal

abbrev pub decreases-add_names : goal.decreases-add_names
decreases-add_names l = height (tree_seen l.item)

abbrev pub invariant-loop-i : goal.invariant-loop-i
invariant-loop-i l = AddsFirst (tree_seen l.item) l.i l.fn.found l.found
