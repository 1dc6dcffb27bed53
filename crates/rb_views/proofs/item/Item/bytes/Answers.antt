use Rattle.std.proofs.Common.{◌∙◌, arith}
use Rattle.rb_views.proofs.Readings.{laid_room}
use Rattle.rb_views.proofs.Contents.{bytes_there, bytes_none}
use Rattle.rb_views.proofs.item.Item.bytes.Goals as goal

pub returns-then-offset-eq0-clause-contents : goal.returns-then-offset-eq0-clause-contents
returns-then-offset-eq0-clause-contents c =
    let s = c.args.self in
    bytes_none s.body.now s.word c.item_offset-offset.result c.item_offset-offset.ensures s.stands c.requires c.if-offset-eq0.true

pub word_at-requires : goal.word_at-requires
word_at-requires c =
    let s = c.args.self in
    let a = bytes_there s.body.now s.word c.item_offset-offset.result c.item_offset-offset.ensures s.stands c.requires (omega arith) in
    let r = laid_room s.body.now s.laid in
    omega arith

pub part-requires : goal.part-requires
part-requires c =
    let s = c.args.self in
    let a = bytes_there s.body.now s.word c.item_offset-offset.result c.item_offset-offset.ensures s.stands c.requires (omega arith) in
    let r = laid_room s.body.now s.laid in
    let n = c.word_at.ensures in
    omega arith

pub returns-clause-contents : goal.returns-clause-contents
returns-clause-contents c =
    let s = c.args.self in
    let a = bytes_there s.body.now s.word c.item_offset-offset.result c.item_offset-offset.ensures s.stands c.requires (omega arith) in
    c.part.ensures ∙ rw c.word_at.ensures a.are
