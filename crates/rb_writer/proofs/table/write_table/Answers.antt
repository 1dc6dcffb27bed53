use Rattle.rb_writer.proofs.table.write_table.Goals as goal

pub returns : goal.returns
returns c = record {
  offsets = c.in_ok-offsets.offsets.items;
  places = c.in_ok-offsets.ensures.places;
  ordered = c.key_offsets.ensures.ordered;
  small = c.in_ok-written.ensures.small;
  written = rw c.deref.ensures.value at c.in_ok-written.ensures.written;
}
