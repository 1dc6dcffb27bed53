use Rattle.std.proofs.Common.{◌∙◌}
use Rattle.rb_parents.specs.Family.{family_pairs}
use Rattle.rb_engine.specs.Answer.{Start}
use Rattle.rb_engine.specs.Kept.{state_of}
use Rattle.rb_engine.proofs.Lookups.{lookup_at_place}
use Rattle.rb_engine.proofs.engine.Engine.look_kept.Goals as goal

pub returns-in-Some-Ok : goal.returns-in-Some-Ok
returns-in-Some-Ok c =
    let e = c.self.inside in
    let start : Start = (state_of (record { packages = e.packages; parents = family_pairs e.parents; version = e.versions.latest })).start in
    let a = rw c.in-Some-Ok.field-0-is at (c.in-Some-Ok.ensures.found e.versions.groups e.versions.latest c.of.ensures c.self.invariant.0) in
    rw (← c.self.view_is) (a.answer ∙ lookup_at_place start c.args.app.now c.args.locale.now c.args.path.now a.place e.packages a.read)
