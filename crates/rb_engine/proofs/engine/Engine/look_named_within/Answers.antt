use Rattle.std.proofs.Common.{◌≡◌, Ok, sym, ◌∙◌, Some}
use Rattle.std.proofs.lemmas.Result.{on_ok_weaker, on_err_weaker, IfOk-weaker}
use Rattle.rb_parents.specs.Family.{family_pairs}
use Rattle.rb_engine.specs.Place.{place_of}
use Rattle.rb_engine.specs.Answer.{Start}
use Rattle.rb_engine.specs.Kept.{state_of}
use Rattle.rb_engine.proofs.Lookups.{lookup_at_place, takes_at_place}
use Rattle.rb_engine.proofs.engine.Engine.look_named_within.Goals as goal

pub returns-in-Ok-clause-found : goal.returns-in-Ok-clause-found
returns-in-Ok-clause-found c =
    let h : place_of c.args.app.now c.args.locale.now ≡ Ok c.in-Ok.place = sym c.place_of.ensures ∙ c.in-Ok.is in
    let start : Start = (state_of (record { packages = c.self.inside.packages; parents = family_pairs c.self.inside.parents; version = c.self.inside.versions.latest })).start in
    rw (← c.self.view_is)
    (IfOk-weaker c.look_in_within.result _ _
    (λ found e. e ∙ lookup_at_place start c.args.app.now c.args.locale.now c.args.path.now c.in-Ok.place c.self.inside.packages h)
    c.look_in_within.ensures.found)

pub returns-in-Ok-clause-within : goal.returns-in-Ok-clause-within
returns-in-Ok-clause-within c =
    let h : place_of c.args.app.now c.args.locale.now ≡ Ok c.in-Ok.place = sym c.place_of.ensures ∙ c.in-Ok.is in
    let start : Start = (state_of (record { packages = c.self.inside.packages; parents = family_pairs c.self.inside.parents; version = c.self.inside.versions.latest })).start in
    rw (← c.self.view_is)
    (on_ok_weaker c.look_in_within.result
    (λ e. sym (takes_at_place (Some c.args.steps) start c.args.app.now c.args.locale.now c.args.path.now c.in-Ok.place c.self.inside.packages h) ∙ e)
    c.look_in_within.ensures.within)

pub returns-in-Ok-clause-more : goal.returns-in-Ok-clause-more
returns-in-Ok-clause-more c =
    let h : place_of c.args.app.now c.args.locale.now ≡ Ok c.in-Ok.place = sym c.place_of.ensures ∙ c.in-Ok.is in
    let start : Start = (state_of (record { packages = c.self.inside.packages; parents = family_pairs c.self.inside.parents; version = c.self.inside.versions.latest })).start in
    rw (← c.self.view_is)
    (on_err_weaker c.look_in_within.result
    (λ e. sym (takes_at_place (Some c.args.steps) start c.args.app.now c.args.locale.now c.args.path.now c.in-Ok.place c.self.inside.packages h) ∙ e)
    c.look_in_within.ensures.more)
