use Rattle.std.proofs.Common.{◌≡◌, ◌∙◌, ap, refl, false}
use Rattle.rb_writer.specs.inner.Whole.{IsIndexed}
use Rattle.rb_writer.specs.Written.{index_count}
use Rattle.rb_writer.proofs.Patches.{plain_indexed, flagged_indexed, five_or_six}
use Rattle.rb_writer.proofs.file.set_indexes.Goals as goal

pub returns-then-no_fallback : goal.returns-then-no_fallback
returns-then-no_fallback c =
    let five = five_or_six c.args.no_fallback c.args.area.indexes c.requires.indexes in
    let six : c.args.area.indexes ≡ 6 = c.requires.indexes ∙ ap index_count c.if-no_fallback.true in
    let plain : IsIndexed false c.args.body.now c.args.root c.args.area c.args.longest c.set_word-6.new.bytes =
    plain_indexed false c.args.body.now c.set_word.new.bytes c.set_word-2.new.bytes c.set_word-3.new.bytes c.set_word-4.new.bytes c.set_word-5.new.bytes
    c.set_word-6.new.bytes c.args.root c.args.longest c.args.area refl five.0 c.set_word.ensures c.set_word-2.ensures c.set_word-3.ensures
    c.set_word-4.ensures c.set_word-5.ensures c.set_word-6.ensures in
    flagged_indexed c.args.no_fallback c.args.body.now c.set_word-6.new.bytes c.set_word-then-no_fallback.new.bytes c.args.root c.args.longest c.args.area
    c.if-no_fallback.true six plain c.set_word-then-no_fallback.ensures

pub returns-else-no_fallback : goal.returns-else-no_fallback
returns-else-no_fallback c =
    let five = five_or_six c.args.no_fallback c.args.area.indexes c.requires.indexes in
    plain_indexed c.args.no_fallback c.args.body.now c.set_word.new.bytes c.set_word-2.new.bytes c.set_word-3.new.bytes c.set_word-4.new.bytes
    c.set_word-5.new.bytes c.set_word-6.new.bytes c.args.root c.args.longest c.args.area c.if-no_fallback.false five.0 c.set_word.ensures
    c.set_word-2.ensures c.set_word-3.ensures c.set_word-4.ensures c.set_word-5.ensures c.set_word-6.ensures
