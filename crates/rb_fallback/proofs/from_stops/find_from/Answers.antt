use Rattle.std.proofs.Common.{◌≡◌, Ok, Err, refl, ap}
use Rattle.rb_fallback.specs.declared.fault.BoundedError.TheVariants as bounded
use Rattle.rb_fallback.specs.declared.fault.LookError.TheVariants as fault
use Rattle.rb_fallback.specs.inner.Reached.{found_at, stop_name}
use Rattle.rb_fallback.proofs.Levels.{is_err}
use Rattle.rb_fallback.proofs.from_stops.find_from.Goals as goal

pub returns-in_err-found-clause-found : goal.returns-in_err-found-clause-found
returns-in_err-found-clause-found g c =
    let e = c.in_err-found.field-0.0 in
    let bad = c.in_err-found.ensures.bad_path in
    record {
      found = Err e;
      is = is_err c.from_residual.result _ c.from_residual.ensures.1;
      known = (
        (
          λ q. let same : e ≡ bounded.Search fault.BadPath = cc in bad.0 (ap Err same),
          λ p. let q = bad.1 p in let same : e ≡ bounded.Search fault.BadPath = cc in ap Err same,
        ),
        λ n a counted p. c.in_err-found.ensures.answer n a counted p,
        λ n a. tt,
      );
    }

pub returns-clause-found : goal.returns-clause-found
returns-clause-found g c =
    let stop = g.T.Stops.stop c.args.stops in
    let bad = c.in_ok-found.ensures.bad_path in
    record {
      found = Ok (found_at stop c.in_ok-found.found (stop_name stop 0));
      is = refl;
      known = (
        (λ q. cc, λ p. let q = bad.1 p in cc),
        λ n a counted p. c.in_ok-found.ensures.answer n a counted p,
        λ n a. c.in_ok-found.ensures.valid n a,
      );
    }
