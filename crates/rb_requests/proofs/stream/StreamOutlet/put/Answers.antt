use Rattle.std.proofs.Common.{◌∙◌}
use Rattle.rb_requests.proofs.stream.StreamOutlet.put.Goals as goal

pub returns : goal.returns
returns g c =
    let first = c.if-hold_in_place.ensures in
    let grown = c.put_grown.ensures in
    (grown.same.0 ∙ first.same.0, grown.same.1 ∙ first.same.1, rw (first.failed, first.sink, first.held) at grown.takes)
