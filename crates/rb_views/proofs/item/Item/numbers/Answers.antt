use Rattle.std.proofs.Common.{arith}
use Rattle.rb_views.proofs.Readings.{laid_room}
use Rattle.rb_views.proofs.Contents.{numbers_there}
use Rattle.rb_views.proofs.item.Item.numbers.Goals as goal

pub word_at-requires : goal.word_at-requires
word_at-requires c =
    let s = c.args.self in
    let a = numbers_there s.body.now s.word c.item_offset-offset.result c.item_offset-offset.ensures s.stands c.requires (omega arith) in
    let r = laid_room s.body.now s.laid in
    omega arith

pub invariant_of-result-2 : goal.invariant_of-result-2
invariant_of-result-2 c =
    let s = c.args.self in
    let a = numbers_there s.body.now s.word c.item_offset-offset.result c.item_offset-offset.ensures s.stands c.requires (omega arith) in
    let r = laid_room s.body.now s.laid in
    let n = c.word_at.ensures in
    record { room = omega arith }
