use Rattle.std.proofs.Common.{◌≡◌, ◌+◌, ◌*◌, ℕ, Option, None, length, Ok, Err, ap, sym, ◌∙◌, subst, arith}
use Rattle.std.proofs.lemmas.Option.{IfSome_then}
use Rattle.rb_tree.specs.Path.{segments}
use Rattle.rb_parents.specs.Family.{parent_of}
use Rattle.rb_fallback.specs.Search.{bundles_of, level, setting_of, step}
use Rattle.rb_fallback.specs.inner.Budget.{spend}
use Rattle.rb_fallback.specs.inner.Reached.{answer_at, given_stop, name_at}
use Rattle.rb_fallback.specs.inner.Steps.{IsOutcome, GoesOn, GoesLong}
use Rattle.rb_fallback.proofs.Budgets.{spend_never, step_at, still}
use Rattle.rb_fallback.proofs.Levels.{err_answer, found_answer, is_err, level_less, long_answer, next_level, within_end}
use Rattle.rb_fallback.proofs.NeverBadPath.{fault_never, outcome_never, searched_never}
use Rattle.rb_fallback.proofs.search.search_on.Goals as goal

pub returns-in_err-left-clause-answer : goal.returns-in_err-left-clause-answer
returns-in_err-left-clause-answer g c = λ a.
    ap (answer_at g.T.N.Node.tree (given_stop g.T.Stops.stop c.args.given)) (is_err c.from_residual.result c.in_err-left.field-0.0 c.from_residual.ensures.1)
    ∙ level_less (c.loop-level.invariant.comes a) (omega arith) c.as_slice-path.ensures.short c.level_given-reached.new.names (IfSome_then c.loop-level.left (c.loop-level.invariant.counted a) (λ _ h. c.level_given-reached.ensures.names h)) c.as_slice-path.ensures.path c.in_err-left.ensures

pub returns-in_err-left-clause-never : goal.returns-in_err-left-clause-never
returns-in_err-left-clause-never g c =
    fault_never c.from_residual.result _ (is_err c.from_residual.result _ c.from_residual.ensures.1)
    (λ e.
    let steps = c.level_given-reached.new.names * (1 + length (segments c.as_slice-path.result.now)) in
    let is = sym (spend_never c.loop-level.left steps _ c.in_err-left.ensures) ∙ e in cc)

pub returns-in_err-decided-clause-answer : goal.returns-in_err-decided-clause-answer
returns-in_err-decided-clause-answer g c = λ a.
    ap (answer_at g.T.N.Node.tree (given_stop g.T.Stops.stop c.args.given)) (is_err c.from_residual-in_err-decided.result _ c.from_residual-in_err-decided.ensures.1)
    ∙ err_answer (c.loop-level.invariant.comes a) (omega arith) c.as_slice-path.ensures.short c.level_given-reached.new.names (IfSome_then c.loop-level.left (c.loop-level.invariant.counted a) (λ _ h. c.level_given-reached.ensures.names h)) c.as_slice-path.ensures.path c.in_ok-left.ensures
    (ap (step c.loop-level.state.icudata c.args.valid.now) (c.in_err-decided.ensures.level a.stops))

pub returns-in_err-decided-clause-never : goal.returns-in_err-decided-clause-never
returns-in_err-decided-clause-never g c =
    fault_never c.from_residual-in_err-decided.result _ (is_err c.from_residual-in_err-decided.result _ c.from_residual-in_err-decided.ensures.1)
    (searched_never c.in_err-decided.field-0.0 (λ e. c.in_err-decided.ensures.never (ap Err e)))

pub returns-in_err-outcome-clause-answer : goal.returns-in_err-outcome-clause-answer
returns-in_err-outcome-clause-answer g c = λ a.
    let tree = g.T.N.Node.tree in
    let stop = given_stop g.T.Stops.stop c.args.given in
    let p = c.loop-level.state in
    ap (answer_at tree stop) (is_err c.from_residual-in_err-outcome.result _ c.from_residual-in_err-outcome.ensures.1)
    ∙ err_answer (c.loop-level.invariant.comes a) (omega arith) c.as_slice-path.ensures.short c.level_given-reached.new.names (IfSome_then c.loop-level.left (c.loop-level.invariant.counted a) (λ _ h. c.level_given-reached.ensures.names h)) c.as_slice-path.ensures.path c.in_ok-left.ensures
    (c.in_err-outcome.ensures stop (level (bundles_of (g.S.Shelf.bundles c.args.own) (g.I.Shelf.bundles c.args.icu) p.icudata) (parent_of c.args.parents.now) p.name (segments p.path)) (c.in_ok-decided.ensures.level a.stops))

pub returns-in_err-outcome-clause-never : goal.returns-in_err-outcome-clause-never
returns-in_err-outcome-clause-never g c =
    let tree = g.T.N.Node.tree in
    let stop = given_stop g.T.Stops.stop c.args.given in
    let p = c.loop-level.state in
    let some = c.in_ok-decided.ensures.walk in
    let met =
    subst (λ r. IsOutcome tree stop (Err c.in_err-outcome.field-0.0) c.end_level.new.state (step p.icudata c.args.valid.now r)) some.1.level.decides
    (c.in_err-outcome.ensures stop some.0 some.1) in
    fault_never c.from_residual-in_err-outcome.result _ (is_err c.from_residual-in_err-outcome.result _ c.from_residual-in_err-outcome.ensures.1)
    (searched_never c.in_err-outcome.field-0.0
    (λ e. outcome_never tree stop (Err c.in_err-outcome.field-0.0) c.end_level.new.state p.icudata c.args.valid.now
    (record { stop = name_at stop c.in_ok-decided.decided.at; walked = some.1.level.walked }) met (ap Err e)))

pub returns-in-Found-clause-answer : goal.returns-in-Found-clause-answer
returns-in-Found-clause-answer g c = λ a.
    let tree = g.T.N.Node.tree in
    let stop = given_stop g.T.Stops.stop c.args.given in
    let p = c.loop-level.state in
    let s = setting_of (g.S.Shelf.bundles c.args.own) (g.I.Shelf.bundles c.args.icu) (parent_of c.args.parents.now) c.args.valid.now in
    let met =
    subst (λ o. IsOutcome tree stop (Ok o) c.end_level.new.state (step_at s p.icudata p.name (segments p.path))) c.in-Found.is
    (c.in_ok-outcome.ensures stop (level (bundles_of (g.S.Shelf.bundles c.args.own) (g.I.Shelf.bundles c.args.icu) p.icudata) (parent_of c.args.parents.now) p.name (segments p.path)) (c.in_ok-decided.ensures.level a.stops)) in
    found_answer (c.loop-level.invariant.comes a) (omega arith) c.as_slice-path.ensures.short c.level_given-reached.new.names (IfSome_then c.loop-level.left (c.loop-level.invariant.counted a) (λ _ h. c.level_given-reached.ensures.names h)) c.as_slice-path.ensures.path c.in_ok-left.ensures met

pub returns-in-TooLong-clause-answer : goal.returns-in-TooLong-clause-answer
returns-in-TooLong-clause-answer g c = λ a.
    let tree = g.T.N.Node.tree in
    let stop = given_stop g.T.Stops.stop c.args.given in
    let p = c.loop-level.state in
    let s = setting_of (g.S.Shelf.bundles c.args.own) (g.I.Shelf.bundles c.args.icu) (parent_of c.args.parents.now) c.args.valid.now in
    let met : GoesLong (step_at s p.icudata p.name (segments p.path)) =
    subst (λ o. IsOutcome tree stop (Ok o) c.end_level.new.state (step_at s p.icudata p.name (segments p.path))) c.in-TooLong.is
    (c.in_ok-outcome.ensures stop (level (bundles_of (g.S.Shelf.bundles c.args.own) (g.I.Shelf.bundles c.args.icu) p.icudata) (parent_of c.args.parents.now) p.name (segments p.path)) (c.in_ok-decided.ensures.level a.stops)) in
    long_answer (c.loop-level.invariant.comes a) (omega arith) c.as_slice-path.ensures.short c.level_given-reached.new.names (IfSome_then c.loop-level.left (c.loop-level.invariant.counted a) (λ _ h. c.level_given-reached.ensures.names h)) c.as_slice-path.ensures.path c.in_ok-left.ensures met c.next_fault.ensures

pub loop-level-preserved : goal.loop-level-preserved
loop-level-preserved g c =
    let tree = g.T.N.Node.tree in
    let stop = given_stop g.T.Stops.stop c.args.given in
    let p = c.loop-level.state in
    let s = setting_of (g.S.Shelf.bundles c.args.own) (g.I.Shelf.bundles c.args.icu) (parent_of c.args.parents.now) c.args.valid.now in
    let some = c.in_ok-decided.ensures.walk in
    let on : GoesOn c.end_level.new.state (step p.icudata c.args.valid.now some.0) =
    subst (λ o. IsOutcome tree stop (Ok o) c.end_level.new.state (step p.icudata c.args.valid.now some.0)) c.in-Next.is
    (c.in_ok-outcome.ensures stop some.0 some.1) in
    record {
      path = on.path;
      none = λ n.
          let e : Ok c.in_ok-left.left ≡ Ok None = c.in_ok-left.ensures ∙ ap (λ (o : Option ℕ). spend o (c.level_given-reached.new.names * (1 + length (segments c.as_slice-path.result.now)))) (c.loop-level.invariant.none n) in cc;
      counted = λ a. still _ c.loop-level.left c.in_ok-left.left _ c.in_ok-left.ensures (c.loop-level.invariant.counted a);
      comes = λ a.
          let met : GoesOn c.end_level.new.state (step_at s p.icudata p.name (segments p.path)) =
          subst (λ o. IsOutcome tree stop (Ok o) c.end_level.new.state (step_at s p.icudata p.name (segments p.path))) c.in-Next.is
          (c.in_ok-outcome.ensures stop (level (bundles_of (g.S.Shelf.bundles c.args.own) (g.I.Shelf.bundles c.args.icu) p.icudata) (parent_of c.args.parents.now) p.name (segments p.path)) (c.in_ok-decided.ensures.level a.stops)) in
          next_level (c.loop-level.invariant.comes a) (omega arith) c.as_slice-path.ensures.short c.level_given-reached.new.names (IfSome_then c.loop-level.left (c.loop-level.invariant.counted a) (λ _ h. c.level_given-reached.ensures.names h)) c.as_slice-path.ensures.path c.in_ok-left.ensures c.end_level.new.state met;
    }

pub returns-clause-answer : goal.returns-clause-answer
returns-clause-answer g c = λ a.
    let s = setting_of (g.S.Shelf.bundles c.args.own) (g.I.Shelf.bundles c.args.icu) (parent_of c.args.parents.now) c.args.valid.now in
    let p = c.loop-level.state in
    sym (within_end c.loop-level.left _ s p.icudata p.name (segments p.path) (omega arith)) ∙ (c.loop-level.invariant.comes a).same

pub returns-in_err-left-clause-few : goal.returns-in_err-left-clause-few
returns-in_err-left-clause-few g c = λ n e.
    let no : Err c.in_err-left.field-0.0 ≡ Ok None =
    c.in_err-left.ensures ∙ ap (λ (o : Option ℕ). spend o (c.level_given-reached.new.names * (1 + length (segments c.as_slice-path.result.now)))) (c.loop-level.invariant.none n) in
    cc
