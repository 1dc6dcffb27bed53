use Rattle.rb_requests.proofs.CallSteps.{removed, listed}
use Rattle.rb_requests.proofs.changes.handle.Goals as goal

pub returns-in-Remove : goal.returns-in-Remove
returns-in-Remove c =
    let e = c.remove in
    let step = rw (c.as_bytes.ensures.value, c.as_bytes-in-Remove.ensures.value) at e.ensures.step in
    let files = rw (c.as_bytes.ensures.value, c.as_bytes-in-Remove.ensures.value) at e.ensures.removed in
    rw c.in-Remove.is (removed c.args.limits.now c.args.engine.now e.new.self c.in-Remove.app.now c.in-Remove.locale.now e.result step files
    e.ensures.parents e.ensures.unchanged e.ensures.memory)

pub returns-in-List : goal.returns-in-List
returns-in-List c =
    let step = rw c.as_bytes-in-List.ensures.value at c.list.ensures in
    rw c.in-List.is (listed c.args.limits.now c.args.engine.now c.in-List.app.now c.list.result step)
