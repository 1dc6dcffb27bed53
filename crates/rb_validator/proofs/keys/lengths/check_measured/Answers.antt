use Rattle.std.proofs.Common.{◌≡◌, ◌+◌, suc, Ok, Err, below_more, sym, ap, ◌∙◌, arith}
use Rattle.std.proofs.lemmas.Result.{err_from_is_err_and}
use Rattle.rb_format.specs.inner.FirstFault.{next_key}
use Rattle.rb_validator.specs.inner.KnownKeys.{last_key, key_or_none}
use Rattle.rb_format.specs.Geometry.{key_offset as offset_in}
use Rattle.rb_format.specs.Place.{key}
use Rattle.rb_validator.proofs.Pairs.{good_stop, next_ok}
use Rattle.rb_validator.proofs.keys.lengths.check_measured.Goals as goal

pub returns-in_err-last-clause-fault : goal.returns-in_err-last-clause-fault
returns-in_err-last-clause-fault c =
    let y = c.args.body.layout.now in let body = c.args.body.bytes.now in let i = c.loop-i.i in
    let place = offset_in body c.args.places in
    let p = err_from_is_err_and c.from_residual.result c.from_residual.ensures.1 in
    let read : next_key y body (last_key y body place i) (place i) ≡ Err c.in_err-last.field-0.0 =
    rw (← c.offset.ensures, ← c.loop-i.invariant.last) (sym c.in_err-last.ensures.value) in
    rw (p.1, p.2) (good_stop y body place c.args.count i _ (omega arith) c.loop-i.invariant.good read)

pub loop-i-preserved : goal.loop-i-preserved
loop-i-preserved c =
    let y = c.args.body.layout.now in let body = c.args.body.bytes.now in let i = c.loop-i.i in
    let place = offset_in body c.args.places in
    let next : i + 1 ≡ suc i = omega arith in
    let read : next_key y body (last_key y body place i) (place i) ≡ Ok c.in_ok-last.last.now =
    rw (← c.offset.ensures, ← c.loop-i.invariant.last) (sym c.in_ok-last.ensures.value) in
    let is : c.in_ok-last.last.now ≡ key_or_none (key y body (place i)) = next_ok y body (last_key y body place i) c.in_ok-last.last.now (place i) read in
    record {
      good = below_more _ _ c.loop-i.invariant.good (read ∙ ap Ok is);
      last = rw next is;
      few = omega arith;
    }
