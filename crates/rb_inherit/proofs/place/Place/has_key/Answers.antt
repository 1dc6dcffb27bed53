use Rattle.std.proofs.Common.{sym}
use Rattle.rb_inherit.proofs.place.Place.has_key.Goals as goal

pub returns-in-None : goal.returns-in-None
returns-in-None g c = λ h. (c.least.result, (c.least.ensures, sym c.in-None.ensures))
