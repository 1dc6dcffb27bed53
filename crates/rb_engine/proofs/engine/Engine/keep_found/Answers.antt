use Rattle.std.proofs.Common.{ap, ◌∙◌}
use Rattle.rb_engine.specs.inner.LastChanges.{version_in}
use Rattle.rb_engine.proofs.LastChanges.{version_past}
use Rattle.rb_engine.proofs.engine.Engine.keep_found.Goals as goal

pub invariant_of-self : goal.invariant_of-self
invariant_of-self c =
    let (opened, kept, up_to) = c.self.invariant in
    let x = c.self.inside.versions in
    let e = c.of-version.ensures ∙ ap (version_in x.groups) c.as_bytes.ensures in
    let past = version_past c.of-version.result x.groups x.latest c.as_bytes.result.now c.of-version.ensures up_to in
    (opened, c.keep.ensures x.groups x.latest e past kept, up_to)
