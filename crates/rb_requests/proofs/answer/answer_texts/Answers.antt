use Rattle.std.proofs.Common.{Some, ap, ◌∙◌}
use Rattle.std.proofs.lemmas.Result.{err_from_is_err_and}
use Rattle.rb_engine.specs.Ask.{Requests}
use Rattle.rb_requests.specs.Asked.{call_in}
use Rattle.rb_requests.specs.Requested.{request_of}
use Rattle.rb_requests.specs.declared.ask.Line.{Line}
use Rattle.rb_requests.specs.declared.ask.Line.TheVariants as lines
use Rattle.rb_requests.specs.Within.{CallReply}
use Rattle.rb_requests.specs.inner.Starving.{DataReply}
use Rattle.rb_requests.proofs.Stepping.{call_read, asked_reply, leaves_more}
use Rattle.rb_requests.proofs.answer.answer_texts.Goals as goal

pub returns-in_err-answer_request-in-Some-Request-clause-fault : goal.returns-in_err-answer_request-in-Some-Request-clause-fault
returns-in_err-answer_request-in-Some-Request-clause-fault g c =
    let read = c.in-Some-Request in
    let line = lines.Request read.request in
    let asks = call_read c.args.texts.now line c.in_ok-line_of.ensures (read.is ∙ ap (λ (l : Line). Some l) read.field-0-is) in
    let limits = c.args.limits.now in
    let old = c.args.engine.now in
    let new = c.answer_request.new.engine in
    let failed = c.in_err-answer_request-in-Some-Request in
    let residual = c.from_residual-in_err-answer_request-in-Some-Request in
    let p = err_from_is_err_and residual.result residual.ensures.1 in
    rw (p.1, p.2) (λ d h. leaves_more (CallReply limits old (Requests (request_of read.request))) (DataReply limits old d) failed.field-0.0 old new
    (λ text r. asked_reply limits old (call_in d) _ (Requests (request_of read.request)) text new (asks d h) r) failed.ensures.fault)
