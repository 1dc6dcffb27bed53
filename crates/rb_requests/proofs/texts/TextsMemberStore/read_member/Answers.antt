use Rattle.rb_requests.proofs.texts.TextsMemberStore.read_member.Goals as goal

pub returns-clause-ok : goal.returns-clause-ok
returns-clause-ok c =
    let read = c.in-Ok.ensures.ok in
    (read.0, read.2, λ found h. c.put.ensures found read.0 read.1 h)
