use Rattle.rb_requests.proofs.lines.end_after.Goals as goal

pub returns-in-Ok-Some-clause-end : goal.returns-in-Ok-Some-clause-end
returns-in-Ok-Some-clause-end g c = (c.in-Ok-Some.field-0-0, rw c.in-Ok-Some.field-0-is at c.in-Ok-Some.ensures.bytes)

pub returns-in-Ok-Some-clause-reads : goal.returns-in-Ok-Some-clause-reads
returns-in-Ok-Some-clause-reads g c = c.in-Ok-Some.ensures.count
