use Rattle.std.proofs.Common.{false, Ok, Err, refl, ap, subst, ◌∙◌}
use Rattle.rb_parents.specs.Family.{parent_of}
use Rattle.rb_fallback.specs.Search.{setting_of, step}
use Rattle.rb_fallback.specs.inner.Reached.{answer_at, given_stop, name_at}
use Rattle.rb_fallback.specs.inner.Steps.{IsOutcome, GoesOn, GoesLong}
use Rattle.rb_fallback.proofs.Levels.{after_err, after_found, after_long, after_next, is_err}
use Rattle.rb_fallback.proofs.Links.{outcome_at}
use Rattle.rb_fallback.proofs.NeverBadPath.{fault_never, outcome_never, searched_never}
use Rattle.rb_fallback.proofs.search.search_after.Goals as goal

pub returns-in_err-outcome-clause-answer : goal.returns-in_err-outcome-clause-answer
returns-in_err-outcome-clause-answer g c = λ r h a.
    let tree = g.T.N.Node.tree in
    let stop = given_stop g.T.Stops.stop c.args.given in
    let d = c.args.reached.now in
    let valid = c.args.valid.now in
    let s = setting_of (g.S.Shelf.bundles c.args.own) (g.I.Shelf.bundles c.args.icu) (parent_of c.args.parents.now) valid in
    ap (answer_at tree stop) (is_err c.from_residual.result _ c.from_residual.ensures.1)
    ∙ after_err c.args.left s (step false valid r) _
    (outcome_at tree stop d (Err c.in_err-outcome.field-0.0) c.end_level.new.state false valid r c.of.result c.args.path.now c.of.ensures c.in_err-outcome.ensures h)

pub returns-in_err-outcome-clause-never : goal.returns-in_err-outcome-clause-never
returns-in_err-outcome-clause-never g c =
    let tree = g.T.N.Node.tree in
    let stop = given_stop g.T.Stops.stop c.args.given in
    let d = c.args.reached.now in
    let valid = c.args.valid.now in
    let some = c.requires.walk in
    let to = c.end_level.new.state in
    let met = subst (λ r. IsOutcome tree stop (Err c.in_err-outcome.field-0.0) to (step false valid r)) some.1.level.decides
    (outcome_at tree stop d (Err c.in_err-outcome.field-0.0) c.end_level.new.state false valid some.0 c.of.result c.args.path.now c.of.ensures c.in_err-outcome.ensures some.1) in
    fault_never c.from_residual.result _ (is_err c.from_residual.result _ c.from_residual.ensures.1)
    (searched_never c.in_err-outcome.field-0.0
    (λ e. outcome_never tree stop (Err c.in_err-outcome.field-0.0) to false valid (record { stop = name_at stop d.at; walked = some.1.level.walked }) met (ap Err e)))

pub returns-in-Found-clause-answer : goal.returns-in-Found-clause-answer
returns-in-Found-clause-answer g c = λ r h a.
    let tree = g.T.N.Node.tree in
    let stop = given_stop g.T.Stops.stop c.args.given in
    let d = c.args.reached.now in
    let valid = c.args.valid.now in
    let s = setting_of (g.S.Shelf.bundles c.args.own) (g.I.Shelf.bundles c.args.icu) (parent_of c.args.parents.now) valid in
    let met =
    subst (λ o. IsOutcome tree stop (Ok o) c.end_level.new.state (step false valid r)) c.in-Found.is
    (outcome_at tree stop d (Ok c.in_ok-outcome.outcome) c.end_level.new.state false valid r c.of.result c.args.path.now c.of.ensures c.in_ok-outcome.ensures h) in
    after_found c.args.left s (step false valid r) _ met

pub returns-in-TooLong-clause-answer : goal.returns-in-TooLong-clause-answer
returns-in-TooLong-clause-answer g c = λ r h a.
    let tree = g.T.N.Node.tree in
    let stop = given_stop g.T.Stops.stop c.args.given in
    let d = c.args.reached.now in
    let valid = c.args.valid.now in
    let s = setting_of (g.S.Shelf.bundles c.args.own) (g.I.Shelf.bundles c.args.icu) (parent_of c.args.parents.now) valid in
    let met : GoesLong (step false valid r) =
    subst (λ o. IsOutcome tree stop (Ok o) c.end_level.new.state (step false valid r)) c.in-TooLong.is
    (outcome_at tree stop d (Ok c.in_ok-outcome.outcome) c.end_level.new.state false valid r c.of.result c.args.path.now c.of.ensures c.in_ok-outcome.ensures h) in
    after_long c.args.left s (step false valid r) met

pub search_on-requires : goal.search_on-requires
search_on-requires g c = λ _.
    let tree = g.T.N.Node.tree in
    let stop = given_stop g.T.Stops.stop c.args.given in
    let d = c.args.reached.now in
    let valid = c.args.valid.now in
    let some = c.requires.walk in
    let met : GoesOn c.end_level.new.state (step false valid some.0) =
    subst (λ o. IsOutcome tree stop (Ok o) c.end_level.new.state (step false valid some.0)) c.in-Next.is
    (outcome_at tree stop d (Ok c.in_ok-outcome.outcome) c.end_level.new.state false valid some.0 c.of.result c.args.path.now c.of.ensures c.in_ok-outcome.ensures some.1) in
    ((refl, tt), met.path)

pub returns-in-Next-clause-answer : goal.returns-in-Next-clause-answer
returns-in-Next-clause-answer g c = λ r h a.
    let tree = g.T.N.Node.tree in
    let stop = given_stop g.T.Stops.stop c.args.given in
    let d = c.args.reached.now in
    let valid = c.args.valid.now in
    let s = setting_of (g.S.Shelf.bundles c.args.own) (g.I.Shelf.bundles c.args.icu) (parent_of c.args.parents.now) valid in
    let met : GoesOn c.end_level.new.state (step false valid r) =
    subst (λ o. IsOutcome tree stop (Ok o) c.end_level.new.state (step false valid r)) c.in-Next.is
    (outcome_at tree stop d (Ok c.in_ok-outcome.outcome) c.end_level.new.state false valid r c.of.result c.args.path.now c.of.ensures c.in_ok-outcome.ensures h) in
    c.search_on.ensures.answer a ∙ after_next c.args.left s (step false valid r) _ _ _ met.onto
