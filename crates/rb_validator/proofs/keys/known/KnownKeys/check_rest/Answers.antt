use Rattle.std.proofs.Common.{inr}
use Rattle.rb_format.specs.Geometry.{key_offset as offset_in}
use Rattle.rb_validator.proofs.Pairs.{good_all}
use Rattle.rb_validator.proofs.keys.known.KnownKeys.check_rest.Goals as goal

pub returns-clause-fault : goal.returns-clause-fault
returns-clause-fault c = inr (good_all c.args.body.layout.now c.args.body.bytes.now (offset_in c.args.body.bytes.now c.args.places) c.args.count c.in_ok-good.good
    c.in_ok-good.ensures.all c.in_ok-good.ensures.good)
