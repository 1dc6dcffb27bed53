use Rattle.std.proofs.Common.{◌≡◌, ◌+◌, ◌*◌, length}
use Rattle.rb_tree.specs.Parts.{children_of}
use Rattle.rb_inherit.specs.Merged.{IsTree}
use Rattle.rb_inherit.proofs.Entries.{Entered, ItemsSoFar}
use Rattle.rb_inherit.proofs.tree.+tree.Given as goal

abbrev pub decreases-put_found : goal.decreases-put_found
decreases-put_found g l = 3 * l.levels

abbrev pub decreases-put_entries : goal.decreases-put_entries
decreases-put_entries g l = 3 * l.levels + 2

abbrev pub decreases-put_at : goal.decreases-put_at
decreases-put_at g l = 3 * l.levels + 1

abbrev pub decreases-put_items : goal.decreases-put_items
decreases-put_items g l = 3 * l.levels + 2

abbrev pub decreases-put_element : goal.decreases-put_element
decreases-put_element g l = 3 * l.levels + 1

abbrev pub invariant-put_entries-loop-i : goal.invariant-put_entries-loop-i
invariant-put_entries-loop-i g l = record {
  entered : Entered g.T.N.Node.tree (g.O.Outlet.takes l.fn.out l.out) (IsTree l.levels) (length l.fn.place.keys.items) l.from
      l.fn.place.layers.items l.place.layers.items l.i;
  keys : l.place.keys.items ≡ l.fn.place.keys.items;
}

abbrev pub invariant-put_items-loop-i : goal.invariant-put_items-loop-i
invariant-put_items-loop-i g l = record {
  items : ItemsSoFar (g.O.Outlet.takes l.fn.out l.out) (IsTree l.levels) (length l.fn.place.keys.items) l.level.keys_most
      (children_of (g.T.N.Node.tree l.node)) l.i;
  layers : l.place.layers.items ≡ l.fn.place.layers.items;
  keys : l.place.keys.items ≡ l.fn.place.keys.items;
}
