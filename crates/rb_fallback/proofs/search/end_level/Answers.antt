use Rattle.std.proofs.Common.{Ok, Err, refl, subst}
use Rattle.rb_fallback.specs.Search.{step}
use Rattle.rb_fallback.specs.inner.LevelResult.{IsAliasAt}
use Rattle.rb_fallback.specs.inner.Steps.{IsFollowed}
use Rattle.rb_fallback.proofs.Levels.{outcome_err}
use Rattle.rb_fallback.proofs.Links.{follow_link}
use Rattle.rb_fallback.proofs.search.end_level.Goals as goal

pub tell_alias-requires : goal.tell_alias-requires
tell_alias-requires g c = subst (IsAliasAt g.N.Node.tree) c.in-Link.is c.requires.alias

pub follow_alias-requires-clause-alias : goal.follow_alias-requires-clause-alias
follow_alias-requires-clause-alias g c = subst (IsAliasAt g.N.Node.tree) c.in-Link.is c.requires.alias

pub returns-in_err-follow_alias-in-Link : goal.returns-in_err-follow_alias-in-Link
returns-in_err-follow_alias-in-Link g c = λ stop r h.
    let p = c.args.state.now in
    let new = c.follow_alias.new.state in
    let e = c.in_err-follow_alias-in-Link.field-0.0 in
    let met = follow_link h.level c.in-Link.is p.icudata c.args.valid.now (Err e) new refl c.in_err-follow_alias-in-Link.ensures in
    outcome_err g.N.Node.tree stop c.from_residual.result e new (step p.icudata c.args.valid.now r) c.from_residual.ensures.1 met

pub returns-then-branch : goal.returns-then-branch
returns-then-branch g c = λ stop r h.
    let p = c.args.state.now in
    let new = c.follow_alias.new.state in
    let fits = c.in_ok-follow_alias-in-Link.field-0 in
    subst (λ v. IsFollowed (Ok v) new (step p.icudata c.args.valid.now r)) c.if-branch.true
    (follow_link h.level c.in-Link.is p.icudata c.args.valid.now (Ok fits) new refl c.in_ok-follow_alias-in-Link.ensures)

pub returns-else-branch : goal.returns-else-branch
returns-else-branch g c = λ stop r h.
    let p = c.args.state.now in
    let new = c.follow_alias.new.state in
    let fits = c.in_ok-follow_alias-in-Link.field-0 in
    subst (λ v. IsFollowed (Ok v) new (step p.icudata c.args.valid.now r)) c.if-branch.false
    (follow_link h.level c.in-Link.is p.icudata c.args.valid.now (Ok fits) new refl c.in_ok-follow_alias-in-Link.ensures)
