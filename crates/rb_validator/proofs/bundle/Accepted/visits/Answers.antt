use Rattle.std.proofs.Common.{◌*◌, drop}
use Rattle.rb_format.specs.Place.{word_at, half_at}
use Rattle.rb_validator.specs.Visits.{IsPlaceAt}
use Rattle.rb_validator.proofs.Counts.{count_le}
use Rattle.rb_validator.proofs.bundle.Accepted.visits.Goals as goal

pub returns-clause-few : goal.returns-clause-few
returns-clause-few c =
    let bytes = c.self.inside.bytes.items in
    let body = drop (half_at bytes 0) bytes in
    let few = count_le (IsPlaceAt body) (3 * word_at body 4) c.self.inside.visits c.self.invariant.counted in
    rw (← c.self.view_is) few
