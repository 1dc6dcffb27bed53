use Rattle.std.proofs.Common.{subst}
use Rattle.std.specs.Prelude.{IfErr}
use Rattle.rb_requests.specs.ExtendedReply.{ExtendedWithin}
use Rattle.rb_requests.specs.Served.{AfterFaultWithin, at}
use Rattle.rb_requests.specs.Within.{longest_read}
use Rattle.rb_requests.specs.declared.limits.Limits.{Limits}
use Rattle.rb_serving.specs.inner.Limits.{most_lines}
use Rattle.rb_serving.proofs.server.Server.serve_extended.Goals as goal

pub returns-clause-fault : goal.returns-clause-fault
returns-clause-fault g c =
    let old = c.args in
    let new = c.serve_extended.new in
    let before = at old.self.now.engine (g.F.Feed.left old.feed.now) (g.S.Sink.written old.sink.now) (g.S.Sink.settled old.sink.now) in
    let after = at new.engine (g.F.Feed.left new.feed) (g.S.Sink.written new.sink) (g.S.Sink.settled new.sink) in
    subst
    (λ (limits : Limits).
    IfErr c.serve_extended.result (λ fault. AfterFaultWithin (ExtendedWithin limits) (longest_read limits) fault before after most_lines))
    c.unwrap_or-limits.ensures c.serve_extended.ensures.fault
