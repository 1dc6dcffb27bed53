use Rattle.std.proofs.Common.{◌≡◌, ◌∷◌, ◌++◌, [], ap, sym, ◌∙◌, arith, length-append}
use Rattle.std.proofs.lemmas.Option.{IfSome_then}
use Rattle.rb_parents.specs.Family.{parent_of}
use Rattle.rb_parents.specs.Steps.{next_of}
use Rattle.rb_parents.specs.Trail.{next, goes_to, end, bad, is_stop, names, trail}
use Rattle.rb_fallback.specs.Search.{first_stop}
use Rattle.rb_fallback.specs.Steps.{trail_length}
use Rattle.rb_fallback.proofs.SameStops.{counts_from, from_less}
use Rattle.rb_parents.specs.declared.limits.TheConstants.{TRAIL_LIMIT}
use Rattle.rb_engine.proofs.Opening.{one_name, stop_seen}
use Rattle.rb_parents.proofs.Trails.{trail_goes, trail_end, trail_bad, trail_long}
use Rattle.rb_packages.specs.Lent.{bundles_lent}
use Rattle.rb_engine.proofs.open_locale.read_stops.Goals as goal

pub returns-in-End-clause-stops : goal.returns-in-End-clause-stops
returns-in-End-clause-stops c =
    let bundles = bundles_lent c.args.own in
    let parents = parent_of c.args.parents.now in
    let here = c.loop-i.here in
    let ns = c.loop-i.invariant.0 in
    let stop : c.is_some-is_stop.result ≡ is_stop bundles here = c.is_some-is_stop.ensures ∙ stop_seen c.visit-next.result.1 (bundles here) c.visit-next.ensures.stop in
    let on : next bundles parents here ≡ end = sym c.visit-next.ensures.next ∙ ap next_of c.in-End.is in (
      ns ++ here ∷ [],
      sym c.loop-i.invariant.1 ∙ trail_end bundles parents here ns TRAIL_LIMIT c.loop-i.i (omega arith) on,
      c.add_name.ensures.stops ns stop c.loop-i.invariant.2,
    )

pub returns-in-End-clause-names : goal.returns-in-End-clause-names
returns-in-End-clause-names c =
    let bundles = bundles_lent c.args.own in
    let parents = parent_of c.args.parents.now in
    let here = c.loop-i.here in
    let ns = c.loop-i.invariant.0 in
    let on : next bundles parents here ≡ end = sym c.visit-next.ensures.next ∙ ap next_of c.in-End.is in
    let stop : c.is_some-is_stop.result ≡ is_stop bundles here = c.is_some-is_stop.ensures ∙ stop_seen c.visit-next.result.1 (bundles here) c.visit-next.ensures.stop in
    let whole : trail bundles parents c.args.name.now ≡ names (ns ++ here ∷ []) =
    sym c.loop-i.invariant.1 ∙ trail_end bundles parents here ns TRAIL_LIMIT c.loop-i.i (omega arith) on in
    let counted = counts_from bundles parents c.args.name.now (ns ++ here ∷ []) whole in
    record {
      all = omega (arith, ap trail_length whole, length-append ns (here ∷ []), c.loop-i.invariant.3);
      from_valid = IfSome_then (first_stop bundles parents c.args.name.now) counted (λ v e. c.with_name.ensures ∙ one_name bundles ns here c.add_name.new.self.from_valid c.is_some-is_stop.result (c.add_name.ensures.from_valid ∙ c.loop-i.invariant.6) stop ∙ e);
    }

pub returns-in-Bad-clause-fault : goal.returns-in-Bad-clause-fault
returns-in-Bad-clause-fault c =
    let bundles = bundles_lent c.args.own in
    let parents = parent_of c.args.parents.now in
    let here = c.loop-i.here in
    let on : next bundles parents here ≡ bad = sym c.visit-next.ensures.next ∙ ap next_of c.in-Bad.is in
    sym c.loop-i.invariant.1 ∙ trail_bad bundles parents here c.loop-i.invariant.0 TRAIL_LIMIT c.loop-i.i (omega arith) on

pub loop-i-preserved : goal.loop-i-preserved
loop-i-preserved c =
    let bundles = bundles_lent c.args.own in
    let parents = parent_of c.args.parents.now in
    let here = c.loop-i.here in
    let ns = c.loop-i.invariant.0 in
    let stop : c.is_some-is_stop.result ≡ is_stop bundles here = c.is_some-is_stop.ensures ∙ stop_seen c.visit-next.result.1 (bundles here) c.visit-next.ensures.stop in
    let on : next bundles parents here ≡ goes_to c.in-Name.name = sym c.visit-next.ensures.next ∙ ap next_of c.in-Name.is in (
      ns ++ here ∷ [],
      sym (trail_goes bundles parents here c.in-Name.name ns TRAIL_LIMIT c.loop-i.i (omega arith) on) ∙ c.loop-i.invariant.1,
      c.add_name.ensures.stops ns stop c.loop-i.invariant.2,
      omega (arith, length-append ns (here ∷ []), c.loop-i.invariant.3),
      omega (arith, c.add_name.ensures.count, c.loop-i.invariant.4),
      c.add_name.ensures.version ∙ c.loop-i.invariant.5,
      c.with_name.ensures ∙ one_name bundles ns here c.add_name.new.self.from_valid c.is_some-is_stop.result (c.add_name.ensures.from_valid ∙ c.loop-i.invariant.6) stop,
    )

pub returns-clause-fault : goal.returns-clause-fault
returns-clause-fault c =
    let bundles = bundles_lent c.args.own in
    let parents = parent_of c.args.parents.now in
    sym c.loop-i.invariant.1 ∙ trail_long bundles parents c.loop-i.here c.loop-i.invariant.0 TRAIL_LIMIT c.loop-i.i (omega arith)

pub with_name-requires : goal.with_name-requires
with_name-requires c = omega (arith, c.add_name.ensures.from_valid, c.loop-i.invariant.6, c.loop-i.invariant.3, from_less (bundles_lent c.args.own) c.loop-i.invariant.0)
