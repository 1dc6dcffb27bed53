use Rattle.std.proofs.Common.{set, ap, sym, ◌∙◌, subst}
use Rattle.rb_parents.specs.Family.{parent_of}
use Rattle.rb_packages.specs.Packages.{Stored}
use Rattle.rb_engine.specs.inner.KeptItems.{AreItemsKept}
use Rattle.rb_engine.specs.inner.KeptLocales.{AreKept}
use Rattle.rb_engine.specs.inner.LastChanges.{HasChanged, group_of}
use Rattle.rb_engine.proofs.KeptFound.{items_after}
use Rattle.rb_engine.proofs.KeptOpen.{kept_after}
use Rattle.rb_engine.proofs.LastChanges.{up_to_after}
use Rattle.rb_engine.proofs.engine.Engine.release.Goals as goal

pub invariant_of-self : goal.invariant_of-self
invariant_of-self c =
    let e = c.self.inside in
    let ps = parent_of e.parents in
    let (opened, kept, up_to) = c.self.invariant in
    let q = c.release.new.self in
    let y = c.rise.new.self in
    let changed : HasChanged e.packages q e.versions y =
    record {
      app = c.args.draft.app;
      others = c.release.ensures.others;
      latest = c.rise.ensures.latest;
      groups = c.rise.ensures.groups ∙ ap (λ a. set e.versions.groups (group_of a) y.latest) (c.as_bytes.ensures ∙ c.app.ensures);
    } in (
      kept_after e.opened.slots.items e.packages q ps e.versions y changed up_to opened,
      items_after e.kept.slots.items e.packages q ps e.versions y changed up_to kept,
      up_to_after e.packages q e.versions y changed up_to,
    )

pub invariant_of-self-in-Err : goal.invariant_of-self-in-Err
invariant_of-self-in-Err c =
    let e = c.self.inside in
    let ps = parent_of e.parents in
    let (opened, kept, up_to) = c.self.invariant in (
      subst (λ (s : Stored). AreKept e.opened.slots.items s ps e.versions.groups e.versions.latest) (sym c.in-Err.ensures.unchanged) opened,
      subst (λ (s : Stored). AreItemsKept e.kept.slots.items s ps e.versions.groups e.versions.latest) (sym c.in-Err.ensures.unchanged) kept,
      up_to,
    )
