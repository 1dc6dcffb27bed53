use Rattle.std.proofs.Common.{inl, inr, refl, sym, ◌∙◌}
use Rattle.rb_writer.proofs.Halves.{fits}
use Rattle.rb_writer.proofs.table.put_table.Goals as goal

pub returns-in_ok-write_short_table-clause-written : goal.returns-in_ok-write_short_table-clause-written
returns-in_ok-write_short_table-clause-written c = inl (record {
  kind_is = c.item.ensures.kind;
  puts = rw c.item.ensures.offset c.in_ok-write_short_table.ensures.table;
  fitting = fits c.is_short.result c.args.items.now c.args.offsets.now c.args.offsets.now c.is_short.ensures refl (sym c.requires.offsets) ∙ c.if-is_short.true;
  word = rw c.item.ensures.offset c.item.ensures.word;
})

pub returns-in_ok-write_long_table-clause-written : goal.returns-in_ok-write_long_table-clause-written
returns-in_ok-write_long_table-clause-written c = inr (record {
  kind_is = c.item-else-is_short.ensures.kind;
  puts = rw c.item-else-is_short.ensures.offset c.in_ok-write_long_table.ensures.table;
  fitting = fits c.is_short.result c.args.items.now c.args.offsets.now c.args.offsets.now c.is_short.ensures refl (sym c.requires.offsets) ∙ c.if-is_short.false;
  word = rw c.item-else-is_short.ensures.offset c.item-else-is_short.ensures.word;
})
