use Rattle.rb_requests.proofs.change_list.ChangeTextsMemberStore.read_member.Goals as goal

pub returns-clause-ok : goal.returns-clause-ok
returns-clause-ok c =
    let read = c.in-Ok.ensures.ok in
    (read.0, read.2, λ found h. c.with.ensures found read.0 read.1 h)
