use Rattle.std.proofs.Common.{arith}
use Rattle.rb_inherit.proofs.Trails.{stop_count, trees_all, trees_next, trees_skip}
use Rattle.rb_inherit.proofs.stops.roots_of.Goals as goal
use Rattle.rb_inherit.proofs.stops.roots_of.Goals.{in-Some+in-Ok, in_default}

pub loop-i-preserved : goal.loop-i-preserved
loop-i-preserved g c = λ ns e.
    let bundles = g.T.Stops.bundles c.args.shelves c.args.icudata in
    elim c.match-root_at.branch [
      | in-Some+in-Ok w ↦
          rw w.roots-is (rw w.in-Ok.ensures.items
          (trees_next g.T.N.Node.tree bundles ns c.loop-i.i c.loop-i.roots.items w.in-Some.root (c.loop-i.invariant ns e) (w.in-Some.ensures ns e)))
      | in_default w ↦
          rw w.roots-is (trees_skip g.T.N.Node.tree bundles ns c.loop-i.i c.loop-i.roots.items (c.loop-i.invariant ns e) (w.in_default.ensures ns e))
    ]

pub returns : goal.returns
returns g c = λ ns e.
    let count = stop_count c.args.route.now.names.items ns c.args.route.now.stops.items e in
    trees_all g.T.N.Node.tree (g.T.Stops.bundles c.args.shelves c.args.icudata) ns c.loop-i.i c.loop-i.roots.items (omega arith) (c.loop-i.invariant ns e)
