use Rattle.std.proofs.Common.{◌≡◌, None, below_more, sym, arith}
use Rattle.std.proofs.lemmas.Result.{err_from_is_err_and}
use Rattle.rb_format.specs.inner.FirstFault.{fault_of, next_key}
use Rattle.rb_validator.specs.inner.KnownKeys.{last_key}
use Rattle.rb_format.specs.Geometry.{key_offset as offset_in}
use Rattle.rb_validator.proofs.Pairs.{good_stop, next_err, next_good}
use Rattle.rb_validator.proofs.Refusals.{agreed, refused}
use Rattle.rb_validator.proofs.keys.known.KnownKeys.check_from.Goals as goal

pub returns-in_err-check_next-clause-fault : goal.returns-in_err-check_next-clause-fault
returns-in_err-check_next-clause-fault c =
    let y = c.args.body.layout.now in let body = c.args.body.bytes.now in let i = c.loop-good.good in
    let place = offset_in body c.args.places in
    let p = err_from_is_err_and c.from_residual.result c.from_residual.ensures.1 in
    rw (p.1, p.2) (refused _ (λ f. good_stop y body place c.args.count i _ (omega arith) c.loop-good.invariant.good
    (next_err y body (last_key y body place i) (place i) _ (sym f))) c.in_err-check_next.ensures)

pub loop-good-preserved : goal.loop-good-preserved
loop-good-preserved c =
    let y = c.args.body.layout.now in let body = c.args.body.bytes.now in let i = c.loop-good.good in
    let place = offset_in body c.args.places in
    let f : fault_of (next_key y body (last_key y body place i) (place i)) ≡ None = sym (agreed _ c.in_ok-check_next.ensures) in
    record { good = below_more _ _ c.loop-good.invariant.good (next_good y body (last_key y body place i) (place i) f) }
