use Rattle.std.proofs.Common.{◌≡◌, ◌∙◌, map, refl, rules, sym}
use Rattle.std.proofs.lemmas.Iterator.Adapters.{YieldsList-from_vec}
use Rattle.std.proofs.lemmas.Iterator.Consumers.{YieldsList-end}
use Rattle.std.proofs.lemmas.List.{map-id}
use Rattle.rb_tree.specs.View.{entries_of}
use Rattle.rb_tree.proofs.Filled.{entry_pair, table_of_pairs, children_of_pairs}
use Rattle.rb_tree.proofs.table.in_order.Goals as goal

pub invariant_of-result : goal.invariant_of-result
invariant_of-result c =
    let gives = c.into_iter-key-iterator.ensures.into_iter_gives in
    let road = YieldsList-from_vec {s = c.into_iter-key-iterator.result} c.args.pairs.items gives.0 (gives.1 ∙ c.args.pairs.ok.0) in
    let all = YieldsList-end road c.loop-key.yielded c.loop-key.key-iterator c.loop-key.yielded_by c.next.result c.next.new.self (search rules)
    c.next.ensures.steps in
    table_of_pairs c.loop-key.entries.items c.args.pairs.items (c.loop-key.invariant.2 ∙ sym (map-id c.loop-key.yielded) ∙ all.0) c.requires.order c.requires.keys

pub returns-clause-table : goal.returns-clause-table
returns-clause-table c =
    let gives = c.into_iter-key-iterator.ensures.into_iter_gives in
    let road = YieldsList-from_vec {s = c.into_iter-key-iterator.result} c.args.pairs.items gives.0 (gives.1 ∙ c.args.pairs.ok.0) in
    let all = YieldsList-end road c.loop-key.yielded c.loop-key.key-iterator c.loop-key.yielded_by c.next.result c.next.new.self (search rules)
    c.next.ensures.steps in
    let filled : map entry_pair c.loop-key.entries.items ≡ c.args.pairs.items = c.loop-key.invariant.2 ∙ sym (map-id c.loop-key.yielded) ∙ all.0 in
    record {
      entries = entries_of c.loop-key.entries.items;
      is = refl;
      ordered = table_of_pairs c.loop-key.entries.items c.args.pairs.items filled c.requires.order c.requires.keys;
      same = children_of_pairs c.loop-key.entries.items c.args.pairs.items filled;
    }
