use Rattle.std.proofs.Common.{sym, ◌∙◌, Some}
use Rattle.std.proofs.lemmas.Result.{on_ok_weaker, on_err_weaker, IfOk-weaker}
use Rattle.rb_parents.specs.Family.{family_pairs, parent_of}
use Rattle.rb_engine.specs.Answer.{Start}
use Rattle.rb_engine.specs.Kept.{state_of}
use Rattle.rb_engine.proofs.Lookups.{lookup_at_place, takes_at_place}
use Rattle.rb_engine.proofs.engine.Engine.look_within.Goals as goal

pub returns-in-Some-clause-found : goal.returns-in-Some-clause-found
returns-in-Some-clause-found c =
    let e = c.self.inside in
    let start : Start = (state_of (record { packages = e.packages; parents = family_pairs e.parents; version = e.versions.latest })).start in
    let a = c.in-Some.ensures.found (parent_of e.parents) e.versions.groups e.versions.latest c.of-version.ensures c.self.invariant.1 in
    rw (← c.self.view_is) (a.answer ∙ lookup_at_place start c.args.app.now c.args.locale.now c.args.path.now a.place e.packages a.read)

pub returns-in-Some-clause-within : goal.returns-in-Some-clause-within
returns-in-Some-clause-within c =
    let e = c.self.inside in
    let start : Start = (state_of (record { packages = e.packages; parents = family_pairs e.parents; version = e.versions.latest })).start in
    let a = c.in-Some.ensures.within (parent_of e.parents) e.versions.groups e.versions.latest c.of-version.ensures c.self.invariant.1 in
    rw (← c.self.view_is) (sym (takes_at_place (Some c.args.steps) start c.args.app.now c.args.locale.now c.args.path.now a.place e.packages a.read) ∙ a.takes)

pub returns-in-Some-opened-clause-found : goal.returns-in-Some-opened-clause-found
returns-in-Some-opened-clause-found c =
    let e = c.self.inside in
    let start : Start = (state_of (record { packages = e.packages; parents = family_pairs e.parents; version = e.versions.latest })).start in
    rw (← c.self.view_is)
    (IfOk-weaker c.in-Some-opened.found _ _
    (λ found a. a.answer ∙ lookup_at_place start c.args.app.now c.args.locale.now c.args.path.now a.place e.packages a.read)
    (c.in-Some-opened.ensures.found e.versions.groups e.versions.latest c.of-version.ensures c.self.invariant.0))

pub returns-in-Some-opened-clause-within : goal.returns-in-Some-opened-clause-within
returns-in-Some-opened-clause-within c =
    let e = c.self.inside in
    let start : Start = (state_of (record { packages = e.packages; parents = family_pairs e.parents; version = e.versions.latest })).start in
    rw (← c.self.view_is)
    (on_ok_weaker c.in-Some-opened.found
    (λ a. sym (takes_at_place (Some c.args.steps) start c.args.app.now c.args.locale.now c.args.path.now a.place e.packages a.read) ∙ a.takes)
    (c.in-Some-opened.ensures.within e.versions.groups e.versions.latest c.of-version.ensures c.self.invariant.0))

pub returns-in-Some-opened-clause-more : goal.returns-in-Some-opened-clause-more
returns-in-Some-opened-clause-more c =
    let e = c.self.inside in
    let start : Start = (state_of (record { packages = e.packages; parents = family_pairs e.parents; version = e.versions.latest })).start in
    rw (← c.self.view_is)
    (on_err_weaker c.in-Some-opened.found
    (λ a. sym (takes_at_place (Some c.args.steps) start c.args.app.now c.args.locale.now c.args.path.now a.place e.packages a.read) ∙ a.takes)
    (c.in-Some-opened.ensures.more e.versions.groups e.versions.latest c.of-version.ensures c.self.invariant.0))
