use Rattle.std.proofs.Common.{ap, ◌∙◌}
use Rattle.rb_engine.specs.inner.LastChanges.{version_in}
use Rattle.rb_engine.proofs.LastChanges.{version_past}
use Rattle.rb_engine.proofs.engine.Engine.keep_open.Goals as goal

pub invariant_of-self : goal.invariant_of-self
invariant_of-self c = c.self.invariant

pub invariant_of-self-in-Ok : goal.invariant_of-self-in-Ok
invariant_of-self-in-Ok c =
    let (opened, kept, up_to) = c.self.invariant in
    let x = c.self.inside.versions in
    let e = c.of-version-in-Ok.ensures ∙ ap (version_in x.groups) c.as_bytes.ensures in
    let past = version_past c.of-version-in-Ok.result x.groups x.latest c.as_bytes.result.now c.of-version-in-Ok.ensures up_to in
    (c.keep.ensures x.groups x.latest e past opened, kept, up_to)
