use Rattle.std.proofs.Common.{◌∙◌, Some, sym}
use Rattle.std.proofs.lemmas.Bool.{false≢true}
use Rattle.std.proofs.lemmas.Result.{on_ok_weaker}
use Rattle.rb_engine.specs.Answer.{Replies}
use Rattle.rb_replies.specs.Replied.{reply_line}
use Rattle.rb_requests.proofs.ReplyLimits.{limited_above, limited_within}
use Rattle.rb_requests.proofs.answer.tell_answer.Goals as goal

pub returns-then-reply_is_above : goal.returns-then-reply_is_above
returns-then-reply_is_above c =
    let long = limited_above _ (reply_line (Some (Replies c.args.answer.now))) (c.reply_is_above.ensures.0 c.if-reply_is_above.true) in
    on_ok_weaker c.tell_line_error.result (λ told. told ∙ long) c.tell_line_error.ensures

pub returns : goal.returns
returns c =
    let whole = limited_within _ (reply_line (Some (Replies c.args.answer.now))) (λ long. false≢true (sym c.if-reply_is_above.false ∙ c.reply_is_above.ensures.1 long)) in
    on_ok_weaker c.tell_reply.result (λ told. told ∙ whole) c.tell_reply.ensures
