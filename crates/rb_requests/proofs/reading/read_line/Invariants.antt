use Rattle.std.proofs.Common.{◌-◌, ◌*◌, ◌+◌, cond}
use Rattle.rb_requests.proofs.LinesRead.{ReadSoFar, reader}
use Rattle.rb_requests.proofs.reading.read_line.Given as goal

abbrev pub invariant-runs : goal.invariant-runs
invariant-runs g l =
    ReadSoFar l.longest (reader (g.F.Feed.left l.fn.feed) (g.F.Feed.faults l.fn.feed)) (reader (g.F.Feed.left l.feed) (g.F.Feed.faults l.feed))
    l.progress l.line.items

abbrev pub decreases-runs : goal.decreases-runs
decreases-runs g l = 2 * (l.longest.limit - l.progress.count) + cond l.progress.starved 0 1
