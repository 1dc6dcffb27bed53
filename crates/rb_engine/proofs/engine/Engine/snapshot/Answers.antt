use Rattle.rb_engine.proofs.LastChanges.{first_up_to}
use Rattle.rb_engine.proofs.engine.Engine.snapshot.Goals as goal

pub invariant_of-result : goal.invariant_of-result
invariant_of-result c =
    let x = c.first.result in
    (c.none.ensures _ _ x.groups x.latest, c.none-2.ensures _ _ x.groups x.latest, first_up_to x.groups x.latest c.first.ensures)
