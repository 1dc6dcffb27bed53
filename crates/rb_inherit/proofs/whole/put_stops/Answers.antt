use Rattle.std.proofs.Common.{false}
use Rattle.rb_tree.specs.Parts.{kind_of}
use Rattle.rb_inherit.specs.Leaves.{IsLeaf}
use Rattle.rb_inherit.proofs.Roots.{tree_written}
use Rattle.rb_inherit.proofs.whole.put_stops.Goals as goal

pub returns-else-is_leaf-clause-other : goal.returns-else-is_leaf-clause-other
returns-else-is_leaf-clause-other g c = λ new path parts.
    tree_written g.T.N.Node.tree (g.O.Outlet.takes c.args.out.now c.put_found.new.out) (g.T.Stops.bundles c.args.shelves false)
    (g.T.Stops.parents c.args.shelves) c.args.name.now c.args.path.now parts c.in_ok-found.found c.add_root.new.place.keys.items c.args.place.now.keys.items
    c.add_root.new.place.layers.items c.put_found.result (IsLeaf (kind_of (g.T.N.Node.tree c.args.item)) → ⊥) c.in_ok-found.ensures.keys new.keys
    (c.in_ok-found.ensures.decides new path parts) c.put_found.ensures.writes
