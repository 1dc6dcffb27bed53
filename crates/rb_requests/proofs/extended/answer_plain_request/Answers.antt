use Rattle.rb_engine.specs.Source.{payload_of}
use Rattle.rb_requests.proofs.Changing.{called_left}
use Rattle.rb_requests.proofs.extended.answer_plain_request.Goals as goal

pub returns-in-Change-clause-fault : goal.returns-in-Change-clause-fault
returns-in-Change-clause-fault c =
    let asked = c.in-Change in
    let fault = rw (c.as_bytes-app.ensures.value, c.as_bytes-locale.ensures.value) at c.answer_change.ensures.fault in
    rw asked.is (called_left c.answer_change.result c.args.limits.now c.args.engine.now c.answer_change.new.engine asked.change asked.app.now
    asked.locale.now (payload_of asked.source) fault)

pub returns-in-Remove-clause-fault : goal.returns-in-Remove-clause-fault
returns-in-Remove-clause-fault c = rw c.in-Remove.is c.answer_request.ensures.fault
