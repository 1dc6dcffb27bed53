use Rattle.rb_parents.specs.Family.{parent_of}
use Rattle.rb_engine.proofs.KeptFound.{items_reply}
use Rattle.rb_engine.proofs.KeptOpen.{kept_reply}
use Rattle.rb_engine.proofs.LastChanges.{up_to_reply}
use Rattle.rb_engine.proofs.engine.Engine.put.Goals as goal

pub invariant_of-self : goal.invariant_of-self
invariant_of-self c =
    let e = c.self.inside in
    let ps = parent_of e.parents in
    let (opened, kept, up_to) = c.self.invariant in
    let q = c.install-reply.new.packages in
    let y = c.install-reply.new.versions in
    let r = c.install-reply.result in
    let done = c.install-reply.ensures.change in
    let stays = c.install-reply.ensures.unchanged in (
      kept_reply e.opened.slots.items e.packages q ps e.versions y r done stays up_to opened,
      items_reply e.kept.slots.items e.packages q ps e.versions y r done stays up_to kept,
      up_to_reply e.packages q e.versions y r done stays up_to,
    )

pub invariant_of-self-in-Replace : goal.invariant_of-self-in-Replace
invariant_of-self-in-Replace c =
    let e = c.self.inside in
    let ps = parent_of e.parents in
    let (opened, kept, up_to) = c.self.invariant in
    let q = c.replace.new.packages in
    let y = c.replace.new.versions in
    let r = c.replace.result in
    let done = c.replace.ensures.change in
    let stays = c.replace.ensures.unchanged in (
      kept_reply e.opened.slots.items e.packages q ps e.versions y r done stays up_to opened,
      items_reply e.kept.slots.items e.packages q ps e.versions y r done stays up_to kept,
      up_to_reply e.packages q e.versions y r done stays up_to,
    )
