use Rattle.std.proofs.Common.{drop, length, replicate, refl, arith, rules}
use Rattle.std.proofs.Math.Seq.{take-append_seam}
use Rattle.rb_locales.specs.inner.Padded.{IsPadded-front}
use Rattle.rb_engine.proofs.kept_path.KeptPath.of.Goals as goal

pub invariant_of-result : goal.invariant_of-result
invariant_of-result c =
    let bytes = c.args.path.now in
    let k = length bytes in
    record {
      padded = rw c.put_front.ensures (IsPadded-front 96 k bytes (drop k (replicate 96 0)) refl (omega arith) refl);
      path = rw c.put_front.ensures (rw (take-append_seam bytes (drop k (replicate 96 0))) (c.if-not-path_ok.ensures.path.0 (search rules)));
    }
