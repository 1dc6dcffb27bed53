use Rattle.std.proofs.Common.{◌∙◌, sym, arith}
use Rattle.rb_inherit.specs.inner.Merging.{key_in}
use Rattle.rb_inherit.proofs.Merges.{least_all, least_next, least_one, least_same}
use Rattle.rb_inherit.proofs.place.Place.least.Goals as goal
use Rattle.rb_inherit.proofs.place.Place.least.Goals.{then-precedes, else-precedes}

pub loop-i-init : goal.loop-i-init
loop-i-init g c = least_one _ c.args.from _ (omega arith)

pub loop-i-preserved : goal.loop-i-preserved
loop-i-preserved g c =
    let key = key_in g.N.Node.tree c.args.self.now.layers.items in
    let i = c.loop-i.i in
    elim c.if-precedes.branch [
      | then-precedes w ↦ rw w.least-is (least_next key c.args.from i c.loop-i.least c.loop-i.invariant (omega arith) (sym c.precedes.ensures ∙ w.if-precedes.true))
      | else-precedes w ↦ rw w.least-is (least_same key c.args.from i c.loop-i.least c.loop-i.invariant (sym c.precedes.ensures ∙ w.if-precedes.false))
    ]

pub returns : goal.returns
returns g c = least_all _ c.args.from c.args.to c.loop-i.i c.loop-i.least c.loop-i.invariant (omega arith)
