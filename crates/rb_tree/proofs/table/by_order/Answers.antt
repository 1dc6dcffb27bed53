use Rattle.std.proofs.Common.{refl}
use Rattle.rb_tree.specs.View.{entries_of}
use Rattle.rb_tree.proofs.Arranging.{arranged_table, arranged_same, apart_pairs}
use Rattle.rb_tree.proofs.table.by_order.Goals as goal

pub invariant_of-result : goal.invariant_of-result
invariant_of-result c = arranged_table c.args.pairs.items c.args.order.now c.in-Ok.entries.items c.requires.order c.in-Ok.ensures c.requires.keys

pub returns-in-Ok-clause-table : goal.returns-in-Ok-clause-table
returns-in-Ok-clause-table c = record {
  entries = entries_of c.in-Ok.entries.items;
  is = refl;
  ordered = arranged_table c.args.pairs.items c.args.order.now c.in-Ok.entries.items c.requires.order c.in-Ok.ensures c.requires.keys;
  same = arranged_same c.args.pairs.items c.args.order.now c.in-Ok.entries.items c.requires.order c.in-Ok.ensures;
}

pub returns-in-Ok-clause-no_repeat : goal.returns-in-Ok-clause-no_repeat
returns-in-Ok-clause-no_repeat c = apart_pairs c.args.pairs.items c.args.order.now c.in-Ok.entries.items c.requires.order c.in-Ok.ensures
