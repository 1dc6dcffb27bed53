use Rattle.std.proofs.Common.{◌≡◌, ◌∙◌, sym, arith}
use Rattle.std.proofs.lemmas.Result.{err_from_is_err_and}
use Rattle.rb_requests.specs.Served.{at}
use Rattle.rb_requests.specs.Within.{longest_kept}
use Rattle.rb_requests.specs.inner.Longest.{longest}
use Rattle.rb_requests.specs.inner.Protocols.{LineReplyBy}
use Rattle.rb_requests.proofs.Serving.{next, all_read, all_answered, not_read, no_memory, too_long, not_answered, last_not_answered, fails_reads, all_at_end, fault_at_end}
use Rattle.rb_requests.proofs.lines.serve_by.Goals as goal

pub returns-in_err-serve_line-in-Ok-Ended-clause-fault : goal.returns-in_err-serve_line-in-Ok-Ended-clause-fault
returns-in_err-serve_line-in-Ok-Ended-clause-fault g c =
    let Reply = LineReplyBy c.args.protocol (longest_kept c.args.limits.now) c.args.limits.now in
    let sink = c.serve_line.new.sink in
    let after = at c.serve_line.new.engine (g.F.Feed.left c.read_line.new.feed) (g.S.Sink.written sink) (g.S.Sink.settled sink) in
    let p = err_from_is_err_and c.from_residual.result c.from_residual.ensures.1 in
    let line = rw (c.in-Ok-Ended.field-0-is, c.longest_of-longest.ensures, ← c.deref.ensures.value) at c.in-Ok-Ended.ensures.line in
    let failed = c.in_err-serve_line-in-Ok-Ended in
    rw (p.1, p.2) (not_answered Reply _ failed.field-0.0 _ _ after _ _ _ (rw (← c.fetch.ensures) at c.lines.invariant.0) (omega arith) line.1
    (failed.ensures.fault (longest c.args.limits.now) line.0 (line.2, λ e. e)) failed.ensures.settled)

pub returns-in_err-serve_line-in-Ok-Last-clause-fault : goal.returns-in_err-serve_line-in-Ok-Last-clause-fault
returns-in_err-serve_line-in-Ok-Last-clause-fault g c =
    let Reply = LineReplyBy c.args.protocol (longest_kept c.args.limits.now) c.args.limits.now in
    let served = c.serve_line-in-Ok-Last.new in
    let after = at served.engine (g.F.Feed.left c.read_line.new.feed) (g.S.Sink.written served.sink) (g.S.Sink.settled served.sink) in
    let residual = c.from_residual-in_err-serve_line-in-Ok-Last in
    let p = err_from_is_err_and residual.result residual.ensures.1 in
    let line = rw (c.in-Ok-Last.field-0-is, c.longest_of-longest.ensures, ← c.deref-in-Ok-Last.ensures.value) at c.in-Ok-Last.ensures.line in
    let failed = c.in_err-serve_line-in-Ok-Last in
    rw (p.1, p.2) (last_not_answered Reply _ failed.field-0.0 _ _ after _ _ _ (rw (← c.fetch.ensures) at c.lines.invariant.0) (omega arith) line.1
    (failed.ensures.fault (longest c.args.limits.now) line.0 (line.2, λ e. e)) failed.ensures.settled)

pub returns-in-Ok-Last-clause-all : goal.returns-in-Ok-Last-clause-all
returns-in-Ok-Last-clause-all g c =
    let Reply = LineReplyBy c.args.protocol (longest_kept c.args.limits.now) c.args.limits.now in
    let served = c.serve_line-in-Ok-Last.new in
    let after = at served.engine (g.F.Feed.left c.read_line.new.feed) (g.S.Sink.written served.sink) (g.S.Sink.settled served.sink) in
    let line = rw (c.in-Ok-Last.field-0-is, c.longest_of-longest.ensures, ← c.deref-in-Ok-Last.ensures.value) at c.in-Ok-Last.ensures.line in
    all_answered Reply _ _ _ after _ _ (rw (← c.fetch.ensures) at c.lines.invariant.0) line.1
    (c.in_ok-serve_line-in-Ok-Last.ensures.line (longest c.args.limits.now) line.0 (line.2, λ e. e))

pub returns-in-Ok-End-clause-all : goal.returns-in-Ok-End-clause-all
returns-in-Ok-End-clause-all g c =
    let Reply = LineReplyBy c.args.protocol (longest_kept c.args.limits.now) c.args.limits.now in
    all_read Reply _ _ _ (g.F.Feed.left c.read_line.new.feed) _ (rw (← c.fetch.ensures) at c.lines.invariant.0) (rw c.in-Ok-End.field-0-is at c.in-Ok-End.ensures.line)

pub returns-in-Ok-TooLong-clause-fault : goal.returns-in-Ok-TooLong-clause-fault
returns-in-Ok-TooLong-clause-fault g c =
    let Reply = LineReplyBy c.args.protocol (longest_kept c.args.limits.now) c.args.limits.now in
    too_long Reply _ _ _ (g.F.Feed.left c.read_line.new.feed) _ _ (rw (← c.fetch.ensures) at c.lines.invariant.0) (omega arith)
    (rw (c.in-Ok-TooLong.field-0-is, c.longest_of-longest.ensures) at c.in-Ok-TooLong.ensures.line)

pub returns-in-Ok-Memory-clause-fault : goal.returns-in-Ok-Memory-clause-fault
returns-in-Ok-Memory-clause-fault g c =
    let Reply = LineReplyBy c.args.protocol (longest_kept c.args.limits.now) c.args.limits.now in
    no_memory Reply _ _ _ (g.F.Feed.left c.read_line.new.feed) _ _ (rw (← c.fetch.ensures) at c.lines.invariant.0) (omega arith)
    (rw (c.in-Ok-Memory.field-0-is, c.longest_of-longest.ensures) at c.in-Ok-Memory.ensures.line)

pub returns-in-Err-clause-fault : goal.returns-in-Err-clause-fault
returns-in-Err-clause-fault g c =
    let Reply = LineReplyBy c.args.protocol (longest_kept c.args.limits.now) c.args.limits.now in
    not_read Reply _ _ _ (g.F.Feed.left c.read_line.new.feed) _ _ (rw (← c.fetch.ensures) at c.lines.invariant.0) (omega arith)
    (rw c.longest_of-longest.ensures at c.in-Err.ensures.line)

pub lines-preserved : goal.lines-preserved
lines-preserved g c =
    let Reply = LineReplyBy c.args.protocol (longest_kept c.args.limits.now) c.args.limits.now in
    let sink = c.serve_line.new.sink in
    let then = at c.serve_line.new.engine (g.F.Feed.left c.read_line.new.feed) (g.S.Sink.written sink) (g.S.Sink.settled sink) in
    let line = rw (c.in-Ok-Ended.field-0-is, c.longest_of-longest.ensures, ← c.deref.ensures.value) at c.in-Ok-Ended.ensures.line in
    let answered = c.in_ok-serve_line-in-Ok-Ended.ensures in (
      next Reply _ _ _ then _ _ (rw (← c.fetch.ensures) at c.lines.invariant.0) line.1 (answered.line (longest c.args.limits.now) line.0 (line.2, λ e. e)) answered.settled,
      ◌∙◌ {b = g.F.Feed.faults c.lines.feed} c.in-Ok-Ended.ensures.count c.lines.invariant.1,
      ◌∙◌ {b = g.S.Sink.faults c.lines.sink} answered.count c.lines.invariant.2,
    )

pub returns-in_err-serve_line-in-Ok-Ended-clause-reads : goal.returns-in_err-serve_line-in-Ok-Ended-clause-reads
returns-in_err-serve_line-in-Ok-Ended-clause-reads g c =
    let Reply = LineReplyBy c.args.protocol (longest_kept c.args.limits.now) c.args.limits.now in
    let p = err_from_is_err_and c.from_residual.result c.from_residual.ensures.1 in
    let line = rw (c.in-Ok-Ended.field-0-is, c.longest_of-longest.ensures, ← c.deref.ensures.value) at c.in-Ok-Ended.ensures.line in
    let failed = c.in_err-serve_line-in-Ok-Ended in
    let quiet = fails_reads Reply failed.field-0.0 _ _ _ _ _ (g.F.Feed.faults c.args.feed.now)
    (failed.ensures.fault (longest c.args.limits.now) line.0 (line.2, λ e. e)) in
    rw (p.1, p.2) (◌∙◌ {b = g.F.Feed.faults c.lines.feed} c.in-Ok-Ended.ensures.count c.lines.invariant.1 ∙ sym quiet)

pub returns-in_err-serve_line-in-Ok-Last-clause-reads : goal.returns-in_err-serve_line-in-Ok-Last-clause-reads
returns-in_err-serve_line-in-Ok-Last-clause-reads g c =
    let Reply = LineReplyBy c.args.protocol (longest_kept c.args.limits.now) c.args.limits.now in
    let residual = c.from_residual-in_err-serve_line-in-Ok-Last in
    let p = err_from_is_err_and residual.result residual.ensures.1 in
    let line = rw (c.in-Ok-Last.field-0-is, c.longest_of-longest.ensures, ← c.deref-in-Ok-Last.ensures.value) at c.in-Ok-Last.ensures.line in
    let failed = c.in_err-serve_line-in-Ok-Last in
    let quiet = fails_reads Reply failed.field-0.0 _ _ _ _ _ (g.F.Feed.faults c.args.feed.now)
    (failed.ensures.fault (longest c.args.limits.now) line.0 (line.2, λ e. e)) in
    rw (p.1, p.2) (◌∙◌ {b = g.F.Feed.faults c.lines.feed} c.in-Ok-Last.ensures.count c.lines.invariant.1 ∙ sym quiet)

-- ---- if no line may follow

pub returns-clause-all : goal.returns-clause-all
returns-clause-all g c =
    let Reply = LineReplyBy c.args.protocol (longest_kept c.args.limits.now) c.args.limits.now in
    let all : c.lines.lines ≡ c.args.max_lines = omega arith in
    let served = rw all at c.lines.invariant.0 in
    all_at_end Reply _ _ _ (g.F.Feed.left c.end_after.new.feed) _ c.end_after.result served c.end_after.ensures.end

pub returns-clause-fault : goal.returns-clause-fault
returns-clause-fault g c =
    let Reply = LineReplyBy c.args.protocol (longest_kept c.args.limits.now) c.args.limits.now in
    let all : c.lines.lines ≡ c.args.max_lines = omega arith in
    let served = rw all at c.lines.invariant.0 in
    fault_at_end Reply _ _ _ (g.F.Feed.left c.end_after.new.feed) _ c.end_after.result served c.end_after.ensures.end
