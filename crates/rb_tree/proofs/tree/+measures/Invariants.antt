use Rattle.std.proofs.Common.{◌≡◌, ◌+◌, ◌-◌, ◌^◌, ◌≤◌, min, max, drop}
use Rattle.rb_tree.specs.Resource.{trees_height, entries_height, trees_weight, entries_weight}
use Rattle.rb_tree.specs.View.{views_of, entries_of}
use Rattle.rb_tree.proofs.tree.+measures.Given as goal

abbrev pub invariant-Entries::measures-loop-entry : goal.invariant-Entries::measures-loop-entry
invariant-Entries::measures-loop-entry l = record {
  high : l.highest ≤ 2 ^ 64 - 1;
  height : min (max l.highest (entries_height (entries_of (drop l.entry-index l.entry-items)))) (2 ^ 64 - 1)
      ≡ min (entries_height (entries_of l.entry-items)) (2 ^ 64 - 1);
  heavy : l.sum ≤ 2 ^ 64 - 1;
  weight : min (l.sum + entries_weight (entries_of (drop l.entry-index l.entry-items))) (2 ^ 64 - 1)
      ≡ min (entries_weight (entries_of l.entry-items)) (2 ^ 64 - 1);
}

abbrev pub invariant-TreeList::measures-loop-tree : goal.invariant-TreeList::measures-loop-tree
invariant-TreeList::measures-loop-tree l = record {
  high : l.highest ≤ 2 ^ 64 - 1;
  height : min (max l.highest (trees_height (views_of (drop l.tree-index l.tree-items)))) (2 ^ 64 - 1)
      ≡ min (trees_height (views_of l.tree-items)) (2 ^ 64 - 1);
  heavy : l.sum ≤ 2 ^ 64 - 1;
  weight : min (l.sum + trees_weight (views_of (drop l.tree-index l.tree-items))) (2 ^ 64 - 1)
      ≡ min (trees_weight (views_of l.tree-items)) (2 ^ 64 - 1);
}
