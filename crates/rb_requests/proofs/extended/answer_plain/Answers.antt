use Rattle.rb_engine.specs.Ask.{Requests}
use Rattle.rb_requests.specs.ExtendedReply.{CalledReply}
use Rattle.rb_requests.specs.Requested.{request_of}
use Rattle.rb_requests.proofs.Extending.{held_reply}
use Rattle.rb_requests.proofs.Placing.{places_weaker}
use Rattle.rb_requests.proofs.extended.answer_plain.Goals as goal

pub returns-in-Request-clause-reply : goal.returns-in-Request-clause-reply
returns-in-Request-clause-reply g c =
    let asked = c.in-Request in
    let line = c.answer_plain_request.new.reply in
    places_weaker c.held.result line _ _ _ _ (λ text told. rw asked.is told) (held_reply c.answer_plain_request.result c.held.result line _
    (λ text. CalledReply c.args.limits.now c.args.engine.now (Requests (request_of asked.request)) text c.answer_plain_request.new.engine)
    c.held.ensures c.answer_plain_request.ensures.reply)
