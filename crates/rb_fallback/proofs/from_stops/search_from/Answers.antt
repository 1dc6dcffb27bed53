use Rattle.std.proofs.Common.{◌≡◌, ◌+◌, ◌*◌, length, ℕ, List, Ok, Err, Some, unwrap_or, refl, ap, sym, ◌∙◌, arith, false}
use Rattle.std.proofs.lemmas.Bool.{lt-ltb}
use Rattle.rb_tree.specs.Path.{segments}
use Rattle.rb_parents.specs.Family.{parent_of}
use Rattle.rb_fallback.specs.Search.{first_stop, level, setting, setting_of, step}
use Rattle.rb_fallback.specs.inner.Budget.{after_step}
use Rattle.rb_fallback.specs.inner.Reached.{answer_at, named, stop_name}
use Rattle.rb_fallback.proofs.Budgets.{spend_never, still}
use Rattle.rb_fallback.proofs.GivenStops.{counted_all, counted_valid, level_given, level_reached, ok_always}
use Rattle.rb_fallback.proofs.Levels.{err_answer, found_answer, is_err, level_less, rest_answer, start, within_long}
use Rattle.rb_fallback.proofs.Links.{found_step}
use Rattle.rb_fallback.proofs.NeverBadPath.{fault_never, searched_never}
use Rattle.rb_fallback.proofs.Paths.{long_is}
use Rattle.rb_fallback.proofs.SameStops.{same_stops}
use Rattle.rb_fallback.proofs.from_stops.search_from.Goals as goal

pub returns-then-path-gt-PATH_LIMIT-clause-answer : goal.returns-then-path-gt-PATH_LIMIT-clause-answer
returns-then-path-gt-PATH_LIMIT-clause-answer g c = λ n _ _ _.
    let path = c.args.path.now in
    let s = setting (g.S.Shelf.bundles c.args.own) (g.I.Shelf.bundles c.args.icu) (parent_of c.args.parents.now) n in
    sym (within_long c.args.left 256 255 s false n (segments path) (omega arith) (long_is path ∙ lt-ltb 1024 _ c.if-path-gt-PATH_LIMIT.true))

pub returns-in_err-left-clause-answer : goal.returns-in_err-left-clause-answer
returns-in_err-left-clause-answer g c = λ n a counted is_path.
    let tree = g.T.N.Node.tree in
    let stop = g.T.Stops.stop c.args.stops in
    let own = g.S.Shelf.bundles c.args.own in
    let icu = g.I.Shelf.bundles c.args.icu in
    let ps = parent_of c.args.parents.now in
    let path = c.args.path.now in
    let at = start c.args.left own icu ps n path is_path in
    ap (answer_at tree stop) (is_err c.from_residual.result c.in_err-left.field-0.0 c.from_residual.ensures.1)
    ∙ level_less at (omega arith) (omega (arith, c.if-path-gt-PATH_LIMIT.false)) c.args.names.all (counted_all c.args.names own ps n c.args.left counted) refl c.in_err-left.ensures

pub returns-in_err-left-clause-bad_path : goal.returns-in_err-left-clause-bad_path
returns-in_err-left-clause-bad_path g c = (
  λ e _.
      fault_never c.from_residual.result _ (is_err c.from_residual.result _ c.from_residual.ensures.1)
      (λ h.
      let is = sym (spend_never c.args.left (c.args.names.all * (1 + length (segments c.args.path.now))) _ c.in_err-left.ensures) ∙ h in cc) e,
  λ h. absurd (h (c.is_path.ensures.path.0 c.if-not-is_path.false)),
)

pub returns-in_err-reached-clause-answer : goal.returns-in_err-reached-clause-answer
returns-in_err-reached-clause-answer g c = λ n a counted is_path.
    let tree = g.T.N.Node.tree in
    let stop = g.T.Stops.stop c.args.stops in
    let own = g.S.Shelf.bundles c.args.own in
    let icu = g.I.Shelf.bundles c.args.icu in
    let ps = parent_of c.args.parents.now in
    let path = c.args.path.now in
    let at = start c.args.left own icu ps n path is_path in
    let f = c.in_err-reached.field-0.0 in
    ap (answer_at tree stop) (is_err c.from_residual-in_err-reached.result _ c.from_residual-in_err-reached.ensures.1)
    ∙ err_answer at (omega arith) (omega (arith, c.if-path-gt-PATH_LIMIT.false)) c.args.names.all (counted_all c.args.names own ps n c.args.left counted) refl c.in_ok-left.ensures
    (ap (step false (unwrap_or (first_stop own ps n) n)) (level_given tree (Err f) path stop own ps n a c.in_err-reached.ensures))

pub returns-in_err-reached-clause-bad_path : goal.returns-in_err-reached-clause-bad_path
returns-in_err-reached-clause-bad_path g c = (
  λ e _.
      fault_never c.from_residual-in_err-reached.result _ (is_err c.from_residual-in_err-reached.result _ c.from_residual-in_err-reached.ensures.1)
      (searched_never c.in_err-reached.field-0.0 c.in_err-reached.ensures.never) e,
  λ h. absurd (h (c.is_path.ensures.path.0 c.if-not-is_path.false)),
)

pub returns-in-End-clause-answer : goal.returns-in-End-clause-answer
returns-in-End-clause-answer g c = λ n a counted is_path.
    let tree = g.T.N.Node.tree in
    let stop = g.T.Stops.stop c.args.stops in
    let own = g.S.Shelf.bundles c.args.own in
    let icu = g.I.Shelf.bundles c.args.icu in
    let ps = parent_of c.args.parents.now in
    let path = c.args.path.now in
    let at = start c.args.left own icu ps n path is_path in
    let d = c.in_ok-reached.reached in
    found_answer at (omega arith) (omega (arith, c.if-path-gt-PATH_LIMIT.false)) c.args.names.all (counted_all c.args.names own ps n c.args.left counted) refl c.in_ok-left.ensures
    (found_step tree (named stop (stop_name stop 0) d) path (level own ps n (segments path)) (first_stop own ps n) c.in-End.node false
    (unwrap_or (first_stop own ps n) n) (level_given tree (Ok d) path stop own ps n a c.in_ok-reached.ensures) c.in-End.is)

pub returns-in-End-clause-valid : goal.returns-in-End-clause-valid
returns-in-End-clause-valid g c = λ n a.
    let own = g.S.Shelf.bundles c.args.own in
    let ps = parent_of c.args.parents.now in
    (level_given g.T.N.Node.tree (Ok c.in_ok-reached.reached) c.args.path.now (g.T.Stops.stop c.args.stops) own ps n a c.in_ok-reached.ensures).first

pub search_after-requires : goal.search_after-requires
search_after-requires g c = λ _.
    ((refl, tt), (c.is_path.ensures.path.0 c.if-not-is_path.false, (omega (arith, c.if-path-gt-PATH_LIMIT.false), c.in_ok-reached.ensures.walk)))

pub returns-clause-answer : goal.returns-clause-answer
returns-clause-answer g c = λ n a counted is_path.
    let tree = g.T.N.Node.tree in
    let stop = g.T.Stops.stop c.args.stops in
    let own = g.S.Shelf.bundles c.args.own in
    let icu = g.I.Shelf.bundles c.args.icu in
    let ps = parent_of c.args.parents.now in
    let path = c.args.path.now in
    let at = start c.args.left own icu ps n path is_path in
    let d = c.in_ok-reached.reached in
    let h = level_given tree (Ok d) path stop own ps n a c.in_ok-reached.ensures in
    let valid = c.stop_name-valid.result in
    let r = level own ps n (segments path) in
    let first : first_stop own ps n ≡ Some valid = h.first ∙ ap (λ (m : List ℕ). Some m) (sym c.stop_name-valid.ensures) in
    let same : unwrap_or (first_stop own ps n) n ≡ valid = ap (λ o. unwrap_or o n) first in
    c.search_after.ensures.answer r (level_reached tree (Ok d) path stop r (first_stop own ps n) h)
    (record { stops = same_stops stop own ps n valid a first; counted = still _ c.args.left c.in_ok-left.left _ c.in_ok-left.ensures (counted_valid c.args.names own ps n valid c.args.left first counted) })
    ∙ ap (λ (v : List ℕ). after_step c.in_ok-left.left (setting_of own icu ps v) (step false v r)) (sym same)
    ∙ rest_answer at (omega arith) (omega (arith, c.if-path-gt-PATH_LIMIT.false)) c.args.names.all (counted_all c.args.names own ps n c.args.left counted) refl c.in_ok-left.ensures refl

pub returns-clause-bad_path : goal.returns-clause-bad_path
returns-clause-bad_path g c = (λ e _. c.search_after.ensures.never e, λ h. absurd (h (c.is_path.ensures.path.0 c.if-not-is_path.false)))

pub returns-clause-valid : goal.returns-clause-valid
returns-clause-valid g c = λ n a.
    let own = g.S.Shelf.bundles c.args.own in
    let ps = parent_of c.args.parents.now in
    ok_always c.search_after.result
    (level_given g.T.N.Node.tree (Ok c.in_ok-reached.reached) c.args.path.now (g.T.Stops.stop c.args.stops) own ps n a c.in_ok-reached.ensures).first
