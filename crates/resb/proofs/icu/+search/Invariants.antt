use Rattle.std.proofs.Common.{◌≡◌, ◌+◌, take}
use Rattle.std.specs.Prelude.{sum_by}
use Rattle.rb_tree.specs.Parts.{children_of}
use Rattle.rb_tree.specs.Resource.{height}
use Rattle.rb_views.specs.Seen.{tree_seen}
use Rattle.resb.specs.Icu.{cost_of, looks}
use Rattle.resb.proofs.OpenAliases.{AreClosed}
use Rattle.resb.proofs.icu.+search.Given as goal

abbrev pub decreases-search : goal.decreases-search
decreases-search l = height (tree_seen l.item)

abbrev pub invariant-loop-i : goal.invariant-loop-i
invariant-loop-i l = AreClosed (tree_seen l.item) l.i
    × (l.left + cost_of (tree_seen l.item) + sum_by looks (take l.i (children_of (tree_seen l.item))) ≡ l.limit)
