use Rattle.std.proofs.Common.{◌<◌, arith, get_or, length, refl}
use Rattle.resb.proofs.Releasing.{one_more, refuses, same_locales}
use Rattle.resb.proofs.releases.draft_all.Goals as goal

pub loop-i-preserved : goal.loop-i-preserved
loop-i-preserved c =
    let inside : c.loop-i.i < length c.loop-i.edits = omega arith in
    let told = c.draft_edit-number.ensures in
    let taken = c.if-number-ne0.false in
    one_more c.args.draft.now c.args.edits.now c.loop-i.i c.loop-i.draft c.draft_edit-number.new.draft c.loop-i.edits c.index-edits-i.result
    (get_or c.loop-i.edits c.loop-i.i c.index-edits-i.result)
    c.draft_edit-number.new.edit c.loop-i.invariant inside refl (told.taken taken) (told.draft taken) told.app told.bundle told.locale

pub returns-then-number-ne0-clause-refused : goal.returns-then-number-ne0-clause-refused
returns-then-number-ne0-clause-refused c some more =
    let inside : c.loop-i.i < length c.loop-i.edits = omega arith in
    refuses c.args.draft.now c.args.edits.now c.loop-i.i c.loop-i.draft c.loop-i.edits c.index-edits-i.result
    (get_or c.loop-i.edits c.loop-i.i c.index-edits-i.result) c.draft_edit-number.result
    c.loop-i.invariant inside refl (c.draft_edit-number.ensures.refused some more)

pub returns-then-number-ne0-clause-locales : goal.returns-then-number-ne0-clause-locales
returns-then-number-ne0-clause-locales c =
    let inside : c.loop-i.i < length c.loop-i.edits = omega arith in
    same_locales c.args.draft.now c.args.edits.now c.loop-i.i c.loop-i.draft c.loop-i.edits c.index-edits-i.result
    (get_or c.loop-i.edits c.loop-i.i c.index-edits-i.result) c.draft_edit-number.new.edit
    c.loop-i.invariant inside refl c.draft_edit-number.ensures.locale
