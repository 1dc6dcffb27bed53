use Rattle.std.proofs.Common.{sym, ◌∙◌}
use Rattle.std.proofs.lemmas.Result.{on_ok_weaker, on_err_weaker, IfOk-weaker}
use Rattle.rb_parents.specs.Family.{family_pairs}
use Rattle.rb_engine.specs.Answer.{Start}
use Rattle.rb_engine.specs.Kept.{state_of}
use Rattle.rb_engine.proofs.KeptOpen.{some_answered}
use Rattle.rb_engine.proofs.Lookups.{lookup_at_place, takes_at_place}
use Rattle.rb_engine.proofs.engine.Engine.find_kept.Goals as goal

pub returns-clause-within : goal.returns-clause-within
returns-clause-within c =
    let e = c.self.inside in
    let start : Start = (state_of (record { packages = e.packages; parents = family_pairs e.parents; version = e.versions.latest })).start in
    rw (← c.self.view_is)
    (some_answered c.find_item.result _ _
    (λ r h. on_ok_weaker r
    (λ a. sym (takes_at_place c.args.left start c.args.app.now c.args.locale.now c.args.path.now a.place e.packages a.read) ∙ a.takes) h)
    (c.find_item.ensures.within e.versions.groups e.versions.latest c.of.ensures c.self.invariant.0))

pub returns-clause-more : goal.returns-clause-more
returns-clause-more c =
    let e = c.self.inside in
    let start : Start = (state_of (record { packages = e.packages; parents = family_pairs e.parents; version = e.versions.latest })).start in
    rw (← c.self.view_is)
    (some_answered c.find_item.result _ _
    (λ r h. on_err_weaker r
    (λ a. sym (takes_at_place c.args.left start c.args.app.now c.args.locale.now c.args.path.now a.place e.packages a.read) ∙ a.takes) h)
    (c.find_item.ensures.more e.versions.groups e.versions.latest c.of.ensures c.self.invariant.0))

pub returns-clause-found : goal.returns-clause-found
returns-clause-found c =
    let e = c.self.inside in
    let start : Start = (state_of (record { packages = e.packages; parents = family_pairs e.parents; version = e.versions.latest })).start in
    rw (← c.self.view_is)
    (some_answered c.find_item.result _ _
    (λ r h. IfOk-weaker r _ _
    (λ item a. record {
      found = a.found;
      is = a.is;
      known = a.known.answer ∙ lookup_at_place start c.args.app.now c.args.locale.now c.args.path.now a.known.place e.packages a.known.read;
    }) h)
    (c.find_item.ensures.found e.versions.groups e.versions.latest c.of.ensures c.self.invariant.0))
