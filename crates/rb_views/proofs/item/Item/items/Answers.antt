use Rattle.std.proofs.Common.{arith}
use Rattle.rb_views.proofs.Readings.{laid_room}
use Rattle.rb_views.proofs.Containers.{items_there, items_none, none_stand}
use Rattle.rb_views.proofs.item.Item.items.Goals as goal

pub invariant_of-result : goal.invariant_of-result
invariant_of-result c = let s = c.args.self in record { laid = s.laid; marked = s.marked; stands = none_stand s.body.now }

pub returns-then-offset-eq0-clause-items : goal.returns-then-offset-eq0-clause-items
returns-then-offset-eq0-clause-items c =
    let s = c.args.self in
    items_none s.body.now s.word c.item_offset-offset.result c.item_offset-offset.ensures s.stands c.requires c.if-offset-eq0.true

pub word_at-requires : goal.word_at-requires
word_at-requires c =
    let s = c.args.self in
    let a = items_there s.body.now s.word c.item_offset-offset.result c.item_offset-offset.ensures s.stands c.requires (omega arith) in
    let r = laid_room s.body.now s.laid in
    omega arith

pub invariant_of-result-2 : goal.invariant_of-result-2
invariant_of-result-2 c =
    let s = c.args.self in
    let a = items_there s.body.now s.word c.item_offset-offset.result c.item_offset-offset.ensures s.stands c.requires (omega arith) in
    record { laid = s.laid; marked = s.marked; stands = rw c.word_at.ensures a.stand }

pub returns-clause-items : goal.returns-clause-items
returns-clause-items c =
    let s = c.args.self in
    let a = items_there s.body.now s.word c.item_offset-offset.result c.item_offset-offset.ensures s.stands c.requires (omega arith) in
    rw c.word_at.ensures a.are
