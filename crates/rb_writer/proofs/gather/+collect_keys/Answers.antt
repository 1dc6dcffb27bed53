use Rattle.std.proofs.Common.{rules, arith, ◌∙◌}
use Rattle.std.proofs.lemmas.List.{length-map}
use Rattle.std.specs.Map.{values_of}
use Rattle.rb_tree.specs.View.{view_of}
use Rattle.rb_tree.specs.Keys.{items, pairs}
use Rattle.rb_writer.proofs.Collecting.{values_more, owned_none, owned_more, array_gathered, table_gathered}
use Rattle.rb_writer.proofs.Gathered.{entry_key}
use Rattle.rb_writer.proofs.Counting.{count_items, count_values, count_turned, count_end, one_of_items, one_of_pairs}
use Rattle.rb_writer.proofs.Longer.{longest_turned, longest_end, longest_items, longest_values}
use Rattle.rb_writer.proofs.Weighing.{weight_items, weight_turned, weight_pairs, pair_turned, pair_end}
use Rattle.rb_writer.proofs.gather.+collect_keys.Goals as goal

pub loop-i-init : goal.loop-i-init
loop-i-init t c = record {
  keys = search rules;
  longest = omega (arith, longest_items c.in-Array.trees);
  few = search rules;
  containers = omega (arith, count_items c.in-Array.trees, one_of_items c.in-Array.trees, c.count.ensures.containers, c.len.ensures);
  high = search rules;
  weight = omega (arith, weight_items c.in-Array.trees, c.weigh.ensures.weight);
}

pub loop-i-2-init : goal.loop-i-2-init
loop-i-2-init t c = record {
  keys = search rules;
  longest = omega (arith, longest_values c.in-Table.entries, c.len-in-Table.ensures.value, c.max-gathered.ensures);
  few = search rules;
  containers = omega (arith, count_values c.in-Table.entries, one_of_pairs c.in-Table.entries, c.count-in-Table.ensures.containers, c.len-in-Table-2.ensures.value);
  high = search rules;
  weight = omega (arith, weight_pairs c.in-Table.entries);
}

pub loop-i-preserved : goal.loop-i-preserved
loop-i-preserved t c = record {
  keys = values_more _ _ _ (items c.in-Array.trees) c.loop-i.i (view_of c.at.result.now) c.loop-i.invariant.keys c.at.ensures
      (rw c.weigh-in-loop-i.ensures.keys at c.in_ok-collect_keys-in-Array.ensures.keys);
  longest = longest_turned (items c.in-Array.trees) c.loop-i.i c.loop-i.gathered.longest _ (view_of c.at.result.now) _
      (rw c.weigh-in-loop-i.ensures.longest at c.in_ok-collect_keys-in-Array.ensures.longest) c.at.ensures c.loop-i.invariant.longest;
  few = omega (arith, c.in_ok-collect_keys-in-Array.ensures.containers);
  containers = count_turned (items c.in-Array.trees) c.loop-i.i c.loop-i.gathered.containers _ (view_of c.at.result.now) _
      (rw c.weigh-in-loop-i.ensures.containers at c.in_ok-collect_keys-in-Array.ensures.containers) c.at.ensures c.loop-i.invariant.containers;
  high = omega (arith, c.in_ok-collect_keys-in-Array.ensures.weight);
  weight = weight_turned (items c.in-Array.trees) c.loop-i.i c.loop-i.gathered.weight _ _ (view_of c.at.result.now) _ (search rules)
      c.in_ok-collect_keys-in-Array.ensures.weight c.at.ensures c.loop-i.invariant.weight;
}

pub loop-i-2-preserved : goal.loop-i-2-preserved
loop-i-2-preserved t c = record {
  keys = values_more _ _ _ (values_of (pairs c.in-Table.entries)) c.loop-i-2.i (view_of c.at-in-loop-i-2.result.now) c.loop-i-2.invariant.keys
      c.at-in-loop-i-2.ensures (rw c.weigh_key.ensures.keys at c.in_ok-collect_keys-in-Table.ensures.keys);
  longest = longest_turned (values_of (pairs c.in-Table.entries)) c.loop-i-2.i c.loop-i-2.gathered.longest _ (view_of c.at-in-loop-i-2.result.now) _
      (rw c.weigh_key.ensures.longest at c.in_ok-collect_keys-in-Table.ensures.longest) c.at-in-loop-i-2.ensures c.loop-i-2.invariant.longest;
  few = omega (arith, c.in_ok-collect_keys-in-Table.ensures.containers);
  containers = count_turned (values_of (pairs c.in-Table.entries)) c.loop-i-2.i c.loop-i-2.gathered.containers _ (view_of c.at-in-loop-i-2.result.now) _
      (rw c.weigh_key.ensures.containers at c.in_ok-collect_keys-in-Table.ensures.containers) c.at-in-loop-i-2.ensures c.loop-i-2.invariant.containers;
  high = omega (arith, c.in_ok-collect_keys-in-Table.ensures.weight);
  weight = pair_turned (pairs c.in-Table.entries) c.loop-i-2.i c.loop-i-2.gathered.weight _ _ c.key_at.result.now (view_of c.at-in-loop-i-2.result.now) _
      c.weigh_key.ensures.weight c.in_ok-collect_keys-in-Table.ensures.weight c.key_at.ensures c.at-in-loop-i-2.ensures c.loop-i-2.invariant.weight;
}

pub loop-j-init : goal.loop-j-init
loop-j-init t c = record {
  keys = owned_none _ _ c.in-Table.entries c.loop-i-2.i c.loop-i-2.invariant.keys (search rules);
  longest = longest_end (values_of (pairs c.in-Table.entries)) c.loop-i-2.i c.loop-i-2.gathered.longest _ c.loop-i-2.invariant.longest
      (omega (arith, length-map (pairs c.in-Table.entries) (λ e. e.1), c.loop-i-2-test.false, c.len-i-end-in-Table.ensures.value));
  containers = count_end (values_of (pairs c.in-Table.entries)) c.loop-i-2.i c.loop-i-2.gathered.containers _ c.loop-i-2.invariant.few
      c.loop-i-2.invariant.containers (omega (arith, length-map (pairs c.in-Table.entries) (λ e. e.1), c.loop-i-2-test.false, c.len-i-end-in-Table.ensures.value));
  weight = pair_end (pairs c.in-Table.entries) c.loop-i-2.i c.loop-i-2.gathered.weight _ c.loop-i-2.invariant.high c.loop-i-2.invariant.weight
      (search rules);
}

pub loop-j-preserved : goal.loop-j-preserved
loop-j-preserved t c = record {
  keys = owned_more _ _ _ c.in-Table.entries c.loop-j.j c.key_at-in-loop-j.result.now c.loop-j.invariant.keys c.key_at-in-loop-j.ensures
      (entry_key c.in-Table.entries c.loop-j.j c.key_at-in-loop-j.result.now c.len-j-end.ensures.ordered c.key_at-in-loop-j.ensures) c.in_ok-add-in-Table.ensures.keys;
  longest = c.in_ok-add-in-Table.ensures.longest ∙ c.loop-j.invariant.longest;
  containers = c.in_ok-add-in-Table.ensures.containers ∙ c.loop-j.invariant.containers;
  weight = c.in_ok-add-in-Table.ensures.weight ∙ c.loop-j.invariant.weight;
}

pub returns-after-loop-i-clause-keys : goal.returns-after-loop-i-clause-keys
returns-after-loop-i-clause-keys t c = array_gathered _ _ c.in-Array.trees c.loop-i.i c.args.tree.now c.in-Array.is c.loop-i.invariant.keys (search rules)

pub returns-after-loop-j-clause-keys : goal.returns-after-loop-j-clause-keys
returns-after-loop-j-clause-keys t c = table_gathered _ _ c.in-Table.entries c.loop-j.j c.args.tree.now c.in-Table.is c.loop-j.invariant.keys (search rules)
