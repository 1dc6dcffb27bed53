use Rattle.std.proofs.Common.{◌≡◌, ◌+◌, ◌-◌, ◌^◌, ◌≤◌, max, min, length, drop}
use Rattle.std.specs.Map.{values_of}
use Rattle.rb_tree.specs.Resource.{height, weight, table, trees_weight, entries_weight}
use Rattle.rb_tree.specs.Keys.{items, pairs}
use Rattle.rb_tree.specs.View.{view_of}
use Rattle.rb_writer.specs.Longest.{longest_of_trees, longest_of_entries}
use Rattle.rb_writer.specs.Containers.{containers, containers_of_trees, containers_of_entries, one_if_any}
use Rattle.rb_writer.proofs.Longer.{longest_in}
use Rattle.rb_writer.proofs.Counting.{containers_in}
use Rattle.rb_writer.proofs.Weighing.{weight_in, weight_of_pairs}
use Rattle.rb_writer.proofs.Collecting.{Values, Owned}
use Rattle.rb_writer.proofs.gather.+collect_keys.Given as goal

abbrev pub decreases-collect_keys : goal.decreases-collect_keys
decreases-collect_keys l = height (view_of l.tree.now)

abbrev pub invariant-loop-i : goal.invariant-loop-i
invariant-loop-i l = record {
  keys : Values l.fn.gathered.keys.items l.gathered.keys.items (items l.trees) l.i;
  longest : max l.gathered.longest (longest_in (drop l.i (items l.trees))) ≡ max l.fn.gathered.longest (longest_of_trees l.trees);
  few : l.gathered.containers ≤ 2 ^ 64 - 1;
  containers : min (l.gathered.containers + containers_in (drop l.i (items l.trees))) (2 ^ 64 - 1)
      ≡ min (l.fn.gathered.containers + (one_if_any (items l.trees) + containers_of_trees l.trees)) (2 ^ 64 - 1);
  high : l.gathered.weight ≤ 2 ^ 64 - 1;
  weight : min (l.gathered.weight + weight_in (drop l.i (items l.trees))) (2 ^ 64 - 1) ≡ min (l.fn.gathered.weight + (4 + trees_weight l.trees)) (2 ^ 64 - 1);
}

abbrev pub invariant-loop-i-2 : goal.invariant-loop-i-2
invariant-loop-i-2 l = record {
  keys : Values l.fn.gathered.keys.items l.gathered.keys.items (values_of (pairs l.entries)) l.i;
  longest : max l.gathered.longest (longest_in (drop l.i (values_of (pairs l.entries))))
      ≡ max l.fn.gathered.longest (max (length (pairs l.entries)) (longest_of_entries l.entries));
  few : l.gathered.containers ≤ 2 ^ 64 - 1;
  containers : min (l.gathered.containers + containers_in (drop l.i (values_of (pairs l.entries)))) (2 ^ 64 - 1)
      ≡ min (l.fn.gathered.containers + (one_if_any (pairs l.entries) + containers_of_entries l.entries)) (2 ^ 64 - 1);
  high : l.gathered.weight ≤ 2 ^ 64 - 1;
  weight : min (l.gathered.weight + weight_of_pairs (drop l.i (pairs l.entries))) (2 ^ 64 - 1)
      ≡ min (l.fn.gathered.weight + (8 + entries_weight l.entries)) (2 ^ 64 - 1);
}

abbrev pub invariant-loop-j : goal.invariant-loop-j
invariant-loop-j l = record {
  keys : Owned l.fn.gathered.keys.items l.gathered.keys.items l.entries l.j;
  longest : l.gathered.longest ≡ max l.fn.gathered.longest (max (length (pairs l.entries)) (longest_of_entries l.entries));
  containers : l.gathered.containers ≡ min (l.fn.gathered.containers + containers (table l.entries)) (2 ^ 64 - 1);
  weight : l.gathered.weight ≡ min (l.fn.gathered.weight + weight (table l.entries)) (2 ^ 64 - 1);
}
