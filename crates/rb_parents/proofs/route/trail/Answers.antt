use Rattle.std.proofs.Common.{◌≡◌, ◌-◌, ◌+◌, ◌++◌, ◌∷◌, [], cond, ap, sym, ◌∙◌, arith}
use Rattle.rb_parents.specs.Family.{parent_of}
use Rattle.rb_parents.specs.Trail.{is_stop, next, goes_to, trail_within, places}
use Rattle.rb_parents.specs.Steps.{next_of}
use Rattle.rb_parents.specs.declared.limits.TheConstants.{TRAIL_LIMIT}
use Rattle.rb_parents.proofs.Trails.{trail_goes, places_push, few_push, all_begin}
use Rattle.rb_parents.proofs.route.trail.Goals as goal

pub loop-i-preserved : goal.loop-i-preserved
loop-i-preserved g c =
    let bundles = g.S.Shelf.bundles c.args.shelf in
    let parents = parent_of c.args.parents.now in
    let ns = c.loop-i.route.names.items in
    let i = c.loop-i.i in
    let here = c.loop-i.here in
    let b = c.next_step-next.result.1 in
    let onto = c.push.ensures.items in
    let on : next bundles parents here ≡ goes_to c.in-Name.name = sym c.next_step-next.ensures.next ∙ ap next_of c.in-Name.is in
    record {
      many = omega (arith, c.push.ensures.len);
      few = few_push c.loop-i.route.stops.items c.note_stop.new.stops.items b i i c.note_stop.ensures c.loop-i.invariant.few;
      same =
          ap (λ l. all_begin l (trail_within (TRAIL_LIMIT - (i + 1)) bundles parents c.in-Name.name)) onto
          ∙ sym (trail_goes bundles parents here c.in-Name.name ns TRAIL_LIMIT i (omega arith) on)
          ∙ c.loop-i.invariant.same;
      stops =
          c.note_stop.ensures
          ∙ ap (λ l. l ++ cond b (i ∷ []) []) c.loop-i.invariant.stops
          ∙ sym (ap (places (is_stop bundles) 0) onto ∙ places_push (is_stop bundles) b i ns here (sym c.next_step-next.ensures.stop) c.loop-i.invariant.many);
    }
