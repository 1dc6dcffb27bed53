use Rattle.std.proofs.Common.{◌∙◌}
use Rattle.rb_parents.specs.Family.{family_pairs, parent_of}
use Rattle.rb_engine.specs.Answer.{Start}
use Rattle.rb_engine.specs.Kept.{state_of}
use Rattle.rb_engine.proofs.Lookups.{lookup_at_place}
use Rattle.rb_engine.proofs.engine.Engine.look.Goals as goal

pub returns-in-Some : goal.returns-in-Some
returns-in-Some c =
    let e = c.self.inside in
    let start : Start = (state_of (record { packages = e.packages; parents = family_pairs e.parents; version = e.versions.latest })).start in
    let a = c.in-Some.ensures.found (parent_of e.parents) e.versions.groups e.versions.latest c.of-version.ensures c.self.invariant.1 in
    rw (← c.self.view_is) (a.answer ∙ lookup_at_place start c.args.app.now c.args.locale.now c.args.path.now a.place e.packages a.read)
