use Rattle.std.proofs.lemmas.Result.{on_ok_weaker, IfErr-weaker}
use Rattle.rb_engine.specs.Ask.{Requests}
use Rattle.rb_requests.specs.Outcomes.{reply_outcome}
use Rattle.rb_requests.specs.Requested.{request_of}
use Rattle.rb_requests.proofs.Stepping.{judged, left_by}
use Rattle.rb_requests.proofs.answer.answer_request.Goals as goal

pub returns-clause-reply : goal.returns-clause-reply
returns-clause-reply c =
    let outcome = reply_outcome c.handle-answer.result in
    let call = Requests (request_of c.args.request) in
    on_ok_weaker c.tell_limited.result
    (λ told. (outcome, judged c.args.limits.now c.args.engine.now call outcome c.handle-answer.new.engine told.0 c.handle-answer.ensures, told.1))
    c.tell_limited.ensures.line

pub returns-clause-fault : goal.returns-clause-fault
returns-clause-fault c =
    let call = Requests (request_of c.args.request) in
    let left = left_by c.args.limits.now c.args.engine.now call c.handle-answer.result c.handle-answer.new.engine c.handle-answer.ensures in
    IfErr-weaker c.tell_limited.result _ _ (λ s is. rw is left) c.tell_limited.ensures.fault
