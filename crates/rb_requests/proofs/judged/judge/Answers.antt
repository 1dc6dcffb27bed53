use Rattle.std.proofs.Common.{◌∙◌, sym}
use Rattle.rb_engine.specs.Source.{payload_of}
use Rattle.rb_requests.proofs.Changing.{judges_unread}
use Rattle.rb_requests.proofs.judged.judge.Goals as goal

pub returns-in-Err : goal.returns-in-Err
returns-in-Err c =
    let payload = payload_of c.args.source in
    let none = sym (rw c.in-None.is at c.names_error.ensures) in
    let over = rw c.source_len.ensures at c.is_over.ensures in
    judges_unread c.args.limits.now c.args.app.now c.args.locale.now payload c.unread.result none (sym over ∙ c.if-is_over.false)
    (c.unread.ensures payload c.in-Err.ensures.first)
