use Rattle.std.proofs.Common.{◌≡◌, ◌∷◌, ◌++◌, [], ap, sym, subst, ◌∙◌, arith, length-append}
use Rattle.rb_tree.specs.Path.{segments}
use Rattle.rb_parents.specs.Family.{parent_of}
use Rattle.rb_parents.specs.Steps.{next_of}
use Rattle.rb_parents.specs.Trail.{next, goes_to, end, bad, trail, Trail, names, stops}
use Rattle.rb_parents.specs.declared.limits.TheConstants.{TRAIL_LIMIT}
use Rattle.rb_parents.proofs.Trails.{trail_goes, trail_end, trail_bad, trail_long}
use Rattle.rb_fallback.specs.Search.{by_trail, first_in}
use Rattle.rb_fallback.specs.Steps.{trail_length}
use Rattle.rb_fallback.specs.inner.LevelResult.{IsLevel}
use Rattle.rb_fallback.proofs.level.level.Goals as goal

pub loop-i-preserved : goal.loop-i-preserved
loop-i-preserved g c =
    let bundles = g.S.Shelf.bundles c.args.shelf in
    let parents = parent_of c.args.parents.now in
    let here = c.loop-i.here in
    let ns = c.loop-i.invariant.0 in
    let on : next bundles parents here ≡ goes_to c.in-Name.name = sym c.visit-next.ensures.next ∙ ap next_of c.in-Name.is in (
      ns ++ here ∷ [],
      sym (trail_goes bundles parents here c.in-Name.name ns TRAIL_LIMIT c.loop-i.i (omega arith) on) ∙ c.loop-i.invariant.1,
      c.ask.ensures bundles ns c.visit-next.ensures.stop c.loop-i.invariant.2,
      omega (arith, length-append ns (here ∷ []), c.loop-i.invariant.3),
      c.loop-i.invariant.4,
    )

pub returns-in-End-clause-level : goal.returns-in-End-clause-level
returns-in-End-clause-level g c =
    let bundles = g.S.Shelf.bundles c.args.shelf in
    let parents = parent_of c.args.parents.now in
    let here = c.loop-i.here in
    let ns = c.loop-i.invariant.0 in
    let path = c.args.path.now in
    let on : next bundles parents here ≡ end = sym c.visit-next.ensures.next ∙ ap next_of c.in-End.is in
    let all : trail bundles parents c.args.name.now ≡ names (ns ++ here ∷ []) =
    sym c.loop-i.invariant.1 ∙ trail_end bundles parents here ns TRAIL_LIMIT c.loop-i.i (omega arith) on in
    subst (λ (t : Trail). IsLevel g.S.N.Node.tree c.decided.result path (by_trail bundles t (segments path)) (first_in bundles t)) (sym all)
    (c.decided.ensures bundles (stops bundles (ns ++ here ∷ [])) (c.ask.ensures bundles ns c.visit-next.ensures.stop c.loop-i.invariant.2))

pub returns-in-End-clause-names : goal.returns-in-End-clause-names
returns-in-End-clause-names g c =
    let bundles = g.S.Shelf.bundles c.args.shelf in
    let parents = parent_of c.args.parents.now in
    let here = c.loop-i.here in
    let ns = c.loop-i.invariant.0 in
    let on : next bundles parents here ≡ end = sym c.visit-next.ensures.next ∙ ap next_of c.in-End.is in
    let all : trail bundles parents c.args.name.now ≡ names (ns ++ here ∷ []) =
    sym c.loop-i.invariant.1 ∙ trail_end bundles parents here ns TRAIL_LIMIT c.loop-i.i (omega arith) on in
    omega (arith, ap trail_length all, length-append ns (here ∷ []), c.loop-i.invariant.3)

pub returns-in-Bad-clause-level : goal.returns-in-Bad-clause-level
returns-in-Bad-clause-level g c =
    let bundles = g.S.Shelf.bundles c.args.shelf in
    let parents = parent_of c.args.parents.now in
    let here = c.loop-i.here in
    let on : next bundles parents here ≡ bad = sym c.visit-next.ensures.next ∙ ap next_of c.in-Bad.is in
    let all = sym c.loop-i.invariant.1 ∙ trail_bad bundles parents here c.loop-i.invariant.0 TRAIL_LIMIT c.loop-i.i (omega arith) on in
    ap (λ t. by_trail bundles t (segments c.args.path.now)) all

pub returns-clause-level : goal.returns-clause-level
returns-clause-level g c =
    let bundles = g.S.Shelf.bundles c.args.shelf in
    let parents = parent_of c.args.parents.now in
    let all = sym c.loop-i.invariant.1 ∙ trail_long bundles parents c.loop-i.here c.loop-i.invariant.0 TRAIL_LIMIT c.loop-i.i (omega arith) in
    ap (λ t. by_trail bundles t (segments c.args.path.now)) all

pub returns-in-Bad-clause-names : goal.returns-in-Bad-clause-names
returns-in-Bad-clause-names g c =
    let bundles = g.S.Shelf.bundles c.args.shelf in
    let parents = parent_of c.args.parents.now in
    let here = c.loop-i.here in
    let on : next bundles parents here ≡ bad = sym c.visit-next.ensures.next ∙ ap next_of c.in-Bad.is in
    let all = sym c.loop-i.invariant.1 ∙ trail_bad bundles parents here c.loop-i.invariant.0 TRAIL_LIMIT c.loop-i.i (omega arith) on in
    c.loop-i.invariant.4 ∙ sym (ap trail_length all)

pub returns-clause-names : goal.returns-clause-names
returns-clause-names g c =
    let bundles = g.S.Shelf.bundles c.args.shelf in
    let parents = parent_of c.args.parents.now in
    let all = sym c.loop-i.invariant.1 ∙ trail_long bundles parents c.loop-i.here c.loop-i.invariant.0 TRAIL_LIMIT c.loop-i.i (omega arith) in
    c.loop-i.invariant.4 ∙ sym (ap trail_length all)
