use Rattle.std.proofs.Common.{refl, subst}
use Rattle.rb_engine.specs.Answer.{Response}
use Rattle.resb.specs.Looks.{Describes, answer_in}
use Rattle.resb.proofs.Nodes.{fault_told, item_told}
use Rattle.resb.proofs.open_locales.look_at.Goals as goal

pub returns-in-Ok-Ok-Ok-clause-within : goal.returns-in-Ok-Ok-Ok-clause-within
returns-in-Ok-Ok-Ok-clause-within c current few app locale a n =
    rw c.in-Ok-Ok-Ok.field-0-is at (c.in-Ok-Ok-Ok.ensures.within app locale a n)

pub returns-in-Ok-Ok-Ok-clause-answer : goal.returns-in-Ok-Ok-Ok-clause-answer
returns-in-Ok-Ok-Ok-clause-answer c current few app locale a n =
    let found = c.of.result in
    let told = rw (c.in-Ok-Ok-Ok.field-0-is, c.in-Ok-Ok-Ok.field-0-0-is) at (c.in-Ok-Ok-Ok.ensures.found app locale a n) in
    item_told c.in-Ok-Ok-Ok.item (answer_in c.args.engine.now app locale c.args.path.now) found.kind found.count found.number told
    (λ actual valid. (refl, c.of.ensures.kind, c.of.ensures.count, c.of.ensures.number))

pub returns-in-Ok-Ok-Err-clause-within : goal.returns-in-Ok-Ok-Err-clause-within
returns-in-Ok-Ok-Err-clause-within c current few app locale a n =
    rw c.in-Ok-Ok-Err.field-0-is at (c.in-Ok-Ok-Err.ensures.within app locale a n)

pub returns-in-Ok-Ok-Err-clause-answer : goal.returns-in-Ok-Ok-Err-clause-answer
returns-in-Ok-Ok-Err-clause-answer c current few app locale a n =
    let found = c.args.found.now in
    let told = rw (c.in-Ok-Ok-Err.field-0-is, c.in-Ok-Ok-Err.field-0-0-is) at (c.in-Ok-Ok-Err.ensures.found app locale a n) in
    subst (λ (r : Response). Describes r c.look_number.result found.kind found.count found.number)
    (fault_told c.in-Ok-Ok-Err.fault (answer_in c.args.engine.now app locale c.args.path.now) told) c.look_number.ensures.number

pub returns-in-Ok-Err-clause-more : goal.returns-in-Ok-Err-clause-more
returns-in-Ok-Err-clause-more c is app locale a n = rw c.in-Ok-Err.field-0-is at (c.in-Ok-Err.ensures.more app locale a n)
