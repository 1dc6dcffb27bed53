use Rattle.std.proofs.Common.{◌∙◌, arith}
use Rattle.rb_requests.proofs.LinesRead.{reader, run_sum, run_ended, run_more, far_kept, far_full}
use Rattle.rb_requests.proofs.reading.read_line.Goals as goal

pub returns-in-Feed-clause-line : goal.returns-in-Feed-clause-line
returns-in-Feed-clause-line g c =
    let before = reader (g.F.Feed.left c.args.feed.now) (g.F.Feed.faults c.args.feed.now) in
    let now = reader (g.F.Feed.left c.runs.feed) (g.F.Feed.faults c.runs.feed) in
    let moved = rw c.in-Feed.is at c.in_ok-run.ensures.bytes in
    let held = c.let_go.new.line.items in
    let held' = c.pull_run.new.line.items in
    let sum = run_sum c.after_run-read.result c.runs.progress c.saturating_sub.result c.len.result c.len-before.result held held'
    c.after_run-read.ensures c.saturating_sub.ensures
    (c.len.ensures ∙ c.pull_run.new.line.ok.0) (c.len-before.ensures ∙ c.let_go.new.line.ok.0) in
    run_ended c.args.longest before now c.runs.progress c.after_run-read.result c.run_len-most.result c.runs.line.items held held'
    c.runs.invariant c.let_go.ensures c.run_len-most.ensures.few c.runs-test.true (omega arith) sum
    (g.F.Feed.left c.pull_run.new.self) c.held_of.result moved c.held_of.ensures

pub runs-preserved-in-Part : goal.runs-preserved-in-Part
runs-preserved-in-Part g c =
    let before = reader (g.F.Feed.left c.args.feed.now) (g.F.Feed.faults c.args.feed.now) in
    let now = reader (g.F.Feed.left c.runs.feed) (g.F.Feed.faults c.runs.feed) in
    let then = reader (g.F.Feed.left c.pull_run.new.self) (g.F.Feed.faults c.pull_run.new.self) in
    let moved = rw c.in-Part.is at c.in_ok-run.ensures.bytes in
    let held = c.let_go.new.line.items in
    let held' = c.pull_run.new.line.items in
    let sum = run_sum c.after_run-read.result c.runs.progress c.saturating_sub.result c.len.result c.len-before.result held held'
    c.after_run-read.ensures c.saturating_sub.ensures
    (c.len.ensures ∙ c.pull_run.new.line.ok.0) (c.len-before.ensures ∙ c.let_go.new.line.ok.0) in
    run_more c.args.longest before now c.runs.progress c.after_run-read.result c.run_len-most.result c.runs.line.items held held'
    c.runs.invariant c.let_go.ensures c.run_len-most.ensures.few c.runs-test.true (omega arith) sum then moved.0 c.in_ok-run.ensures.count

pub returns-in-End-clause-line : goal.returns-in-End-clause-line
returns-in-End-clause-line g c =
    let all = c.runs.invariant in
    let end = rw c.in-End.is at c.in_ok-run.ensures.bytes in
    let far = far_kept c.args.longest c.runs.progress all.line c.runs.line.items c.let_go.new.line.items c.pull_run.new.line.items
    all.far c.let_go.ensures end.same in
    c.last_line.ensures (g.F.Feed.left c.args.feed.now) (g.F.Feed.left c.runs.feed) (g.F.Feed.left c.pull_run.new.self) all.line
    c.pull_run.new.line.items all.part far end.end end.kept

pub returns-clause-line : goal.returns-clause-line
returns-clause-line g c =
    let all = c.runs.invariant in
    c.after_longest.ensures.line (g.F.Feed.left c.args.feed.now) all.line c.runs.line.items all.part
    (far_full c.args.longest c.runs.progress all.line c.runs.line.items all.far c.runs-test.false) c.requires.room
