use Rattle.std.proofs.Common.{◌-◌}
use Rattle.rb_validator.specs.inner.KnownKeys.{AreGood}
use Rattle.rb_format.specs.Geometry.{key_offset as offset_in}
use Rattle.rb_validator.proofs.keys.known.KnownKeys.check_from.Given as goal

abbrev pub invariant-loop-good : goal.invariant-loop-good
invariant-loop-good l =
    record {
      good : AreGood l.body.layout.now l.body.bytes.now (offset_in l.body.bytes.now l.places) l.good;
    }

abbrev pub decreases-loop-good : goal.decreases-loop-good
decreases-loop-good l = l.count - l.good
