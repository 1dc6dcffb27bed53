use Rattle.std.proofs.Common.{◌≡◌, ◌<◌, ◌≤◌, ◌+◌, length, take, min, is_ok, true, subst, ◌∙◌, arith, rules, tests, refl, length-take-le}
use Rattle.std.specs.Io.BufRead.{FillKeeps, DropsConsumable}
use Rattle.std.proofs.BufReadLemmas.{Consumes_shown}
use Rattle.rb_requests.proofs.Moving.{moves_feed, moves_part}
use Rattle.rb_requests.proofs.device.ReadFeedFeed.pull_run.Goals as goal

pub returns-else-is_err-clause-bytes : goal.returns-else-is_err-clause-bytes
returns-else-is_err-clause-bytes g c =
    let held = c.in-Ok.held.now in
    let rested = c.fill_buf.follows.lender-at-none in
    let shown = g.R.BufRead.consumable_len rested in
    let filled = subst (FillKeeps _ (g.R.Read.remaining rested) shown) c.in-Ok.is c.fill_buf.follows.holds-at-none in
    let m = c.min.result in
    let end = c.in-Some.end in
    let least : m ≡ min (length held) c.args.most = search rules in
    let first = c.in-Some.ensures in
    let long : length (take m held) ≡ m = length-take-le m held (omega arith) in
    let bound : end + 1 ≤ length held = omega (arith, first.0.high, long) in
    let in_front = c.in-Ok.ensures in
    let read = Consumes_shown _ _ _ shown held (end + 1) bound in_front.front in_front.end filled.0 filled.1 c.consume.ensures.bytes in
    let done : is_ok c.extend_from_slice.result ≡ true = search (rules, tests) in
    moves_feed _ _ c.args.line.now.items c.extend_from_slice.new.self.items held m c.args.most end (omega arith) (omega arith)
    first.0 first.1 read.0 (c.extend_from_slice.ensures.items ∙ rw done refl)

pub returns-else-is_err-2-clause-bytes : goal.returns-else-is_err-2-clause-bytes
returns-else-is_err-2-clause-bytes g c =
    let held = c.in-Ok.held.now in
    let rested = c.fill_buf.follows.lender-at-none in
    let shown = g.R.BufRead.consumable_len rested in
    let filled = subst (FillKeeps _ (g.R.Read.remaining rested) shown) c.in-Ok.is c.fill_buf.follows.holds-at-none in
    let m = c.min.result in
    let least : m ≡ min (length held) c.args.most = search rules in
    let long : length (take m held) ≡ m = length-take-le m held (omega arith) in
    let new = g.R.Read.remaining c.consume-in-None.new.self in
    let drops = subst (λ n. DropsConsumable (g.R.Read.remaining rested) new shown n) long c.consume-in-None.ensures.bytes in
    let some : 0 < length held = grind arith in
    let in_front = c.in-Ok.ensures in
    let read = Consumes_shown _ _ _ shown held m (omega arith) in_front.front in_front.end filled.0 filled.1 drops in
    let done : is_ok c.extend_from_slice-in-None.result ≡ true = search (rules, tests) in
    moves_part _ _ c.args.line.now.items c.extend_from_slice-in-None.new.self.items held m c.args.most (omega arith) (omega arith)
    (omega (arith, some, least, c.requires)) c.in-None.ensures read.0 (c.extend_from_slice-in-None.ensures.items ∙ rw done refl)
