use Rattle.std.proofs.Common.{◌≡◌, length}
use Rattle.rb_inherit.proofs.Asked.{Asked}
use Rattle.rb_inherit.proofs.tree.found_at.Given as goal

abbrev pub invariant-loop-i : goal.invariant-loop-i
invariant-loop-i g l = record {
  asked : Asked g.T.N.Node.tree (length l.fn.place.keys.items) l.key l.from l.fn.place.layers.items l.i l.found l.place.layers.items;
  keys : l.place.keys.items ≡ l.fn.place.keys.items;
}
