use Rattle.std.proofs.Common.{◌≡◌}
use Rattle.rb_validator.specs.inner.KnownKeys.{AreGood, IsSound, last_key}
use Rattle.rb_format.specs.Geometry.{key_offset as offset_in}
use Rattle.rb_validator.proofs.keys.checker.KeyChecker.check_plainly.Given as goal

abbrev pub invariant-loop-i : goal.invariant-loop-i
invariant-loop-i l =
    record {
      good : AreGood l.body.layout.now l.body.bytes.now (offset_in l.body.bytes.now l.places) l.i;
      last : l.last ≡ last_key l.body.layout.now l.body.bytes.now (offset_in l.body.bytes.now l.places) l.i;
      sound : IsSound l.body.layout.now l.body.bytes.now l.self.known;
    }
