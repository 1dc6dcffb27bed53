use Rattle.std.proofs.Common.{arith}
use Rattle.rb_views.proofs.Readings.{laid_room}
use Rattle.rb_views.proofs.item.Item.entries.Goals as goal

pub invariant_of-result : goal.invariant_of-result
invariant_of-result c =
    let s = c.args.self in
    let e = c.parts.ensures.entries in
    let b = e.below in
    let r = laid_room s.body.now s.laid in
    record { laid = s.laid; marked = s.marked; keys = omega arith; stands = e.stand }

pub returns-clause-entries : goal.returns-clause-entries
returns-clause-entries c = c.parts.ensures.entries.are
