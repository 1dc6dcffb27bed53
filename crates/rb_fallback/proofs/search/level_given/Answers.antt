use Rattle.std.proofs.Common.{◌≡◌, List, ℕ, Bool, Err, IfOk, IfSome, false, ap, sym, subst, rules, ◌∙◌}
use Rattle.rb_tree.specs.Path.{segments}
use Rattle.rb_parents.specs.Family.{parent_of}
use Rattle.rb_parents.specs.Trail.{trail}
use Rattle.rb_fallback.specs.Search.{bundles_of, first_stop, level}
use Rattle.rb_fallback.specs.Stops.{AreStopsOf}
use Rattle.rb_fallback.specs.inner.Reached.{Decides, IsReached, IsReachedLevel, IsSomeReached, given_stop}
use Rattle.rb_fallback.specs.declared.fault.LookError.TheVariants as fault
use Rattle.rb_fallback.proofs.GivenStops as given
use Rattle.rb_fallback.proofs.GivenStops.{decided_never, decided_walk, level_reached}
use Rattle.rb_fallback.proofs.Levels.{is_err}
use Rattle.rb_fallback.proofs.NeverBadPath.{trail_never}
use Rattle.rb_fallback.proofs.search.level_given.Goals as goal

pub returns-in-Some-clause-level : goal.returns-in-Some-clause-level
returns-in-Some-clause-level g c = λ a.
    let tree = g.T.N.Node.tree in
    let x = c.first_ending.result in
    let p = c.args.state.now in
    let stop = g.T.Stops.stop c.in-Some.stops in
    let k : Decides tree stop p.path x = subst (λ q. Decides tree stop q x) c.as_slice-path.ensures.path c.first_ending.ensures in
    let own = g.S.Shelf.bundles c.args.own in
    let icu = g.I.Shelf.bundles c.args.icu in
    let ps = parent_of c.args.parents.now in
    let valid = c.args.valid.now in
    let same : p.name ≡ valid = search rules in
    let here : p.icudata ≡ false = search rules in
    let b : AreStopsOf stop own ps valid = subst (λ o. IfSome o (λ t. AreStopsOf (g.T.Stops.stop t) own ps valid)) c.in-Some.is a in
    let h = level_reached tree x p.path stop (level own ps valid (segments p.path)) (first_stop own ps valid) (given.level_given tree x p.path stop own ps valid b k) in
    subst (λ o. IsReachedLevel tree (given_stop g.T.Stops.stop o) x p.path (level (bundles_of own icu p.icudata) ps p.name (segments p.path))) (sym c.in-Some.is)
    (subst (λ (n : List ℕ). IsReachedLevel tree stop x p.path (level (bundles_of own icu p.icudata) ps n (segments p.path))) (sym same)
    (subst (λ (i : Bool). IsReachedLevel tree stop x p.path (level (bundles_of own icu i) ps valid (segments p.path))) (sym here) h))

pub returns-in-Some-clause-walk : goal.returns-in-Some-clause-walk
returns-in-Some-clause-walk g c =
    let tree = g.T.N.Node.tree in
    let x = c.first_ending.result in
    let p = c.args.state.now in
    let stop = g.T.Stops.stop c.in-Some.stops in
    let k : Decides tree stop p.path x = subst (λ q. Decides tree stop q x) c.as_slice-path.ensures.path c.first_ending.ensures in
    subst (λ o. IfOk x (λ d. IsSomeReached tree (given_stop g.T.Stops.stop o) d p.path)) (sym c.in-Some.is) (decided_walk tree x p.path stop k)

pub returns-in-Some-clause-never : goal.returns-in-Some-clause-never
returns-in-Some-clause-never g c =
    let tree = g.T.N.Node.tree in
    let x = c.first_ending.result in
    let p = c.args.state.now in
    let stop = g.T.Stops.stop c.in-Some.stops in
    let k : Decides tree stop p.path x = subst (λ q. Decides tree stop q x) c.as_slice-path.ensures.path c.first_ending.ensures in
    decided_never tree x p.path stop k

pub returns-in_err-decided-clause-level : goal.returns-in_err-decided-clause-level
returns-in_err-decided-clause-level g c = λ a.
    let p = c.args.state.now in
    let b = bundles_of (g.S.Shelf.bundles c.args.own) (g.I.Shelf.bundles c.args.icu) p.icudata in
    let ps = parent_of c.args.parents.now in
    let stop = given_stop g.T.Stops.stop c.args.given in
    subst (λ x. IsReachedLevel g.T.N.Node.tree stop x p.path (level b ps p.name (segments p.path))) (sym (is_err c.from_residual.result _ c.from_residual.ensures.1))
    c.in_err-decided.ensures.level

pub returns-in_err-decided-clause-never : goal.returns-in_err-decided-clause-never
returns-in_err-decided-clause-never g c = λ e.
    let p = c.args.state.now in
    let b = bundles_of (g.S.Shelf.bundles c.args.own) (g.I.Shelf.bundles c.args.icu) p.icudata in
    let ps = parent_of c.args.parents.now in
    let is = sym (is_err c.from_residual.result _ c.from_residual.ensures.1) ∙ e in
    let same : c.in_err-decided.field-0.0 ≡ fault.BadPath = cc in
    trail_never b (trail b ps p.name) (segments p.path) (c.in_err-decided.ensures.level ∙ ap Err same)

pub returns-clause-level : goal.returns-clause-level
returns-clause-level g c = λ a.
    let p = c.args.state.now in
    let b = bundles_of (g.S.Shelf.bundles c.args.own) (g.I.Shelf.bundles c.args.icu) p.icudata in
    let ps = parent_of c.args.parents.now in
    let stop = given_stop g.T.Stops.stop c.args.given in
    subst (λ x. IsReached g.T.N.Node.tree stop x p.path (level b ps p.name (segments p.path))) (sym c.reached.ensures)
    (record { first = c.in_ok-decided.decided.first; head = first_stop b ps p.name; level = c.in_ok-decided.ensures.level })

pub returns-clause-walk : goal.returns-clause-walk
returns-clause-walk g c =
    let p = c.args.state.now in
    let b = bundles_of (g.S.Shelf.bundles c.args.own) (g.I.Shelf.bundles c.args.icu) p.icudata in
    let ps = parent_of c.args.parents.now in
    let stop = given_stop g.T.Stops.stop c.args.given in (
      level b ps p.name (segments p.path),
      subst (λ x. IsReached g.T.N.Node.tree stop x p.path (level b ps p.name (segments p.path))) (sym c.reached.ensures)
          (record { first = c.in_ok-decided.decided.first; head = first_stop b ps p.name; level = c.in_ok-decided.ensures.level }),
    )
