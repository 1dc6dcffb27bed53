use Rattle.std.proofs.Common.{inr, Some, refl}
use Rattle.rb_engine.specs.Answer.{Replies}
use Rattle.rb_engine.specs.declared.request.Reply.TheVariants.{Done}
use Rattle.rb_replies.specs.Replied.{reply_line}
use Rattle.rb_requests.proofs.Releasing.{release_untold}
use Rattle.rb_requests.proofs.extended.answer_release.Goals as goal

pub returns-in-Err-tell_reply-clause-fault : goal.returns-in-Err-tell_reply-clause-fault
returns-in-Err-tell_reply-clause-fault c = λ cs e. inr (reply_line (Some (Replies Done)), inr (c.in-Ok.ensures.released cs e, refl))

pub returns-in-Err-clause-reply : goal.returns-in-Err-clause-reply
returns-in-Err-clause-reply c =
    release_untold c.tell_unmade.result c.args.limits.now c.args.engine.now c.release.new.engine c.args.app.now c.args.changes.now c.in-Err.unmade
    c.tell_unmade.new.reply c.tell_unmade.ensures.line c.in-Err.ensures.refused c.in-Err.ensures.unchanged
