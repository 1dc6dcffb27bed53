use Rattle.std.proofs.Common.{◌≡◌, ℕ, List, Ok, Err, Some, None, unwrap_or, refl, ap, sym, ◌∙◌, subst, arith, false}
use Rattle.std.proofs.lemmas.Bool.{lt-ltb}
use Rattle.rb_tree.specs.Path.{segments}
use Rattle.rb_parents.specs.Family.{parent_of}
use Rattle.rb_fallback.specs.Answers.{bounded_answer_of, hit_of}
use Rattle.rb_fallback.specs.Search.{first_stop, level, setting, setting_of, step}
use Rattle.rb_fallback.specs.inner.Budget.{after_step}
use Rattle.rb_fallback.specs.inner.Reached.{IsReached}
use Rattle.rb_fallback.specs.declared.fault.BoundedError.TheVariants as bounded
use Rattle.rb_fallback.specs.declared.fault.LookError.TheVariants as fault
use Rattle.rb_fallback.proofs.Budgets.{always}
use Rattle.rb_fallback.proofs.Levels.{err_answer, found_answer, is_err, level_less, rest_answer, start, within_long}
use Rattle.rb_fallback.proofs.Links.{found_step}
use Rattle.rb_fallback.proofs.Paths.{long_is}
use Rattle.rb_fallback.proofs.search.search_from.Goals as goal

pub returns-then-path-gt-PATH_LIMIT-clause-answer : goal.returns-then-path-gt-PATH_LIMIT-clause-answer
returns-then-path-gt-PATH_LIMIT-clause-answer g c = λ _.
    let path = c.args.path.now in
    let n = c.args.name.now in
    let s = setting (g.S.Shelf.bundles c.args.own) (g.I.Shelf.bundles c.args.icu) (parent_of c.args.parents.now) n in
    sym (within_long c.args.left 256 255 s false n (segments path) (omega arith) (long_is path ∙ lt-ltb 1024 _ c.if-path-gt-PATH_LIMIT.true))

pub returns-in_err-left-clause-answer : goal.returns-in_err-left-clause-answer
returns-in_err-left-clause-answer g c = λ is_path.
    let own = g.S.Shelf.bundles c.args.own in
    let icu = g.I.Shelf.bundles c.args.icu in
    let ps = parent_of c.args.parents.now in
    let n = c.args.name.now in
    let at = start c.args.left own icu ps n c.args.path.now is_path in
    ap (bounded_answer_of g.S.N.Node.tree) (is_err c.from_residual.result c.in_err-left.field-0.0 c.from_residual.ensures.1)
    ∙ level_less at (omega arith) (omega (arith, c.if-path-gt-PATH_LIMIT.false)) c.level-reached.new.names (always c.args.left c.level-reached.ensures.names) refl c.in_err-left.ensures

pub returns-in_err-decided-clause-answer : goal.returns-in_err-decided-clause-answer
returns-in_err-decided-clause-answer g c = λ is_path.
    let own = g.S.Shelf.bundles c.args.own in
    let icu = g.I.Shelf.bundles c.args.icu in
    let ps = parent_of c.args.parents.now in
    let n = c.args.name.now in
    let at = start c.args.left own icu ps n c.args.path.now is_path in
    ap (bounded_answer_of g.S.N.Node.tree) (is_err c.from_residual-in_err-decided.result _ c.from_residual-in_err-decided.ensures.1)
    ∙ err_answer at (omega arith) (omega (arith, c.if-path-gt-PATH_LIMIT.false)) c.level-reached.new.names (always c.args.left c.level-reached.ensures.names) refl c.in_ok-left.ensures
    (ap (step false (unwrap_or (first_stop own ps n) n)) c.in_err-decided.ensures.level)

pub returns-in-End-clause-answer : goal.returns-in-End-clause-answer
returns-in-End-clause-answer g c = λ is_path.
    let own = g.S.Shelf.bundles c.args.own in
    let icu = g.I.Shelf.bundles c.args.icu in
    let ps = parent_of c.args.parents.now in
    let n = c.args.name.now in
    let at = start c.args.left own icu ps n c.args.path.now is_path in
    let d = c.in_ok-decided.decided in
    found_answer at (omega arith) (omega (arith, c.if-path-gt-PATH_LIMIT.false)) c.level-reached.new.names (always c.args.left c.level-reached.ensures.names) refl c.in_ok-left.ensures
    (found_step g.S.N.Node.tree d c.args.path.now (level own ps n (segments c.args.path.now)) (first_stop own ps n) c.in-End.node false
    (unwrap_or (first_stop own ps n) n) c.in_ok-decided.ensures.level c.in-End.is)

pub search_after-requires : goal.search_after-requires
search_after-requires g c = λ _.
    let tree = g.S.N.Node.tree in
    let own = g.S.Shelf.bundles c.args.own in
    let icu = g.I.Shelf.bundles c.args.icu in
    let ps = parent_of c.args.parents.now in
    let n = c.args.name.now in
    let r = level own ps n (segments c.args.path.now) in
    let d = c.in_ok-decided.decided in
    let known : IsReached tree (λ i. None) c.reached-reached.result c.args.path.now r =
    subst (λ x. IsReached tree (λ i. None) x c.args.path.now r) (sym c.reached-reached.ensures)
    (record { first = d.first; head = first_stop own ps n; level = c.in_ok-decided.ensures.level }) in
    ((refl, tt), (c.is_path.ensures.path.0 c.if-not-is_path.false, (omega (arith, c.if-path-gt-PATH_LIMIT.false), (r, known))))

pub returns-in_err-found-clause-answer : goal.returns-in_err-found-clause-answer
returns-in_err-found-clause-answer g c = λ is_path.
    let tree = g.S.N.Node.tree in
    let own = g.S.Shelf.bundles c.args.own in
    let icu = g.I.Shelf.bundles c.args.icu in
    let ps = parent_of c.args.parents.now in
    let n = c.args.name.now in
    let r = level own ps n (segments c.args.path.now) in
    let d = c.in_ok-decided.decided in
    let known : IsReached tree (λ i. None) c.reached-reached.result c.args.path.now r =
    subst (λ x. IsReached tree (λ i. None) x c.args.path.now r) (sym c.reached-reached.ensures)
    (record { first = d.first; head = first_stop own ps n; level = c.in_ok-decided.ensures.level }) in
    let at = start c.args.left own icu ps n c.args.path.now is_path in
    let same : unwrap_or (first_stop own ps n) n ≡ d.first = ap (λ o. unwrap_or o n) c.in_ok-decided.ensures.level.first in
    ap (bounded_answer_of tree) (is_err c.from_residual-in_err-found.result _ c.from_residual-in_err-found.ensures.1)
    ∙ c.in_err-found.ensures.answer r known (record { stops = tt; counted = always c.in_ok-left.left tt })
    ∙ ap (λ (v : List ℕ). after_step c.in_ok-left.left (setting_of own icu ps v) (step false v r)) (sym same)
    ∙ rest_answer at (omega arith) (omega (arith, c.if-path-gt-PATH_LIMIT.false)) c.level-reached.new.names (always c.args.left c.level-reached.ensures.names) refl c.in_ok-left.ensures refl

pub returns-in_err-found-clause-bad_path : goal.returns-in_err-found-clause-bad_path
returns-in_err-found-clause-bad_path g c = (
  λ e _.
      let is = sym (is_err c.from_residual-in_err-found.result _ c.from_residual-in_err-found.ensures.1) ∙ e in
      let same : c.in_err-found.field-0.0 ≡ bounded.Search fault.BadPath = cc in
      c.in_err-found.ensures.never (ap Err same),
  λ h. absurd (h (c.is_path.ensures.path.0 c.if-not-is_path.false)),
)

pub returns-clause-answer : goal.returns-clause-answer
returns-clause-answer g c = λ is_path.
    let tree = g.S.N.Node.tree in
    let own = g.S.Shelf.bundles c.args.own in
    let icu = g.I.Shelf.bundles c.args.icu in
    let ps = parent_of c.args.parents.now in
    let n = c.args.name.now in
    let r = level own ps n (segments c.args.path.now) in
    let d = c.in_ok-decided.decided in
    let known : IsReached tree (λ i. None) c.reached-reached.result c.args.path.now r =
    subst (λ x. IsReached tree (λ i. None) x c.args.path.now r) (sym c.reached-reached.ensures)
    (record { first = d.first; head = first_stop own ps n; level = c.in_ok-decided.ensures.level }) in
    let at = start c.args.left own icu ps n c.args.path.now is_path in
    let same : unwrap_or (first_stop own ps n) n ≡ d.first = ap (λ o. unwrap_or o n) c.in_ok-decided.ensures.level.first in
    ap (λ f. Ok (hit_of tree f)) c.named.ensures
    ∙ c.in_ok-found.ensures.answer r known (record { stops = tt; counted = always c.in_ok-left.left tt })
    ∙ ap (λ (v : List ℕ). after_step c.in_ok-left.left (setting_of own icu ps v) (step false v r)) (sym same)
    ∙ rest_answer at (omega arith) (omega (arith, c.if-path-gt-PATH_LIMIT.false)) c.level-reached.new.names (always c.args.left c.level-reached.ensures.names) refl c.in_ok-left.ensures refl

pub returns-clause-valid : goal.returns-clause-valid
returns-clause-valid g c = c.in_ok-decided.ensures.level.first ∙ ap (λ f. Some f.valid) (sym c.named.ensures)
