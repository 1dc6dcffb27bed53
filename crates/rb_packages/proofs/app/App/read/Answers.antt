use Rattle.std.proofs.Common.{arith, refl}
use Rattle.rb_locales.specs.inner.Padded.{IsPadded-front}
use Rattle.rb_packages.proofs.app.App.read.Goals as goal

pub invariant_of-result : goal.invariant_of-result
invariant_of-result c = rw c.put_front.ensures (IsPadded-front 64 _ c.args.bytes.now _ refl (omega arith) refl)
