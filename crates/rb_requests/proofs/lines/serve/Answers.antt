use Rattle.std.proofs.lemmas.Result.{IfOk-weaker, IfErr-weaker}
use Rattle.rb_engine.specs.Kept.{state_of}
use Rattle.rb_requests.specs.Lines.{LineReply}
use Rattle.rb_requests.specs.Served.{at}
use Rattle.rb_requests.specs.Within.{LineReplyWithin}
use Rattle.rb_requests.proofs.NoLimits.{no_limits, line_seen}
use Rattle.rb_requests.proofs.Unlimited.{all_seen, fault_seen}
use Rattle.rb_requests.proofs.lines.serve.Goals as goal

pub returns-clause-all : goal.returns-clause-all
returns-clause-all g c =
    let before = at c.args.engine.now (g.F.Feed.left c.args.feed.now) (g.S.Sink.written c.args.sink.now) (g.S.Sink.settled c.args.sink.now) in
    let then = c.serve_limited.new in
    let after = at then.engine (g.F.Feed.left then.feed) (g.S.Sink.written then.sink) (g.S.Sink.settled then.sink) in
    IfOk-weaker c.serve_limited.result _ _
    (λ served h. all_seen state_of (LineReplyWithin no_limits) LineReply 268435456 line_seen before after served.lines h) c.serve_limited.ensures.all

pub returns-clause-fault : goal.returns-clause-fault
returns-clause-fault g c =
    let before = at c.args.engine.now (g.F.Feed.left c.args.feed.now) (g.S.Sink.written c.args.sink.now) (g.S.Sink.settled c.args.sink.now) in
    let then = c.serve_limited.new in
    let after = at then.engine (g.F.Feed.left then.feed) (g.S.Sink.written then.sink) (g.S.Sink.settled then.sink) in
    IfErr-weaker c.serve_limited.result _ _
    (λ fault h. fault_seen state_of (LineReplyWithin no_limits) LineReply 268435456 line_seen fault before after c.args.max_lines h)
    c.serve_limited.ensures.fault
