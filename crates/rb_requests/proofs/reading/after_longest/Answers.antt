use Rattle.rb_requests.proofs.reading.after_longest.Goals as goal

pub returns-in-Ok-None-clause-line : goal.returns-in-Ok-None-clause-line
returns-in-Ok-None-clause-line g c first line held part far room =
    let end = rw c.in-Ok-None.field-0-is at c.in-Ok-None.ensures.bytes in
    c.last_line.ensures first (g.F.Feed.left c.args.feed.now) (g.F.Feed.left c.pull.new.self) line held part far end.0 end.1
