use Rattle.rb_parents.specs.Family.{parent_of}
use Rattle.rb_engine.proofs.KeptFound.{items_reply}
use Rattle.rb_engine.proofs.KeptOpen.{kept_reply}
use Rattle.rb_engine.proofs.LastChanges.{up_to_reply}
use Rattle.rb_engine.proofs.engine.Engine.remove.Goals as goal

pub invariant_of-self : goal.invariant_of-self
invariant_of-self c =
    let e = c.self.inside in
    let ps = parent_of e.parents in
    let (opened, kept, up_to) = c.self.invariant in
    let q = c.remove.new.packages in
    let y = c.remove.new.versions in
    let r = c.remove.result in
    let done = c.remove.ensures.change in
    let stays = c.remove.ensures.unchanged in (
      kept_reply e.opened.slots.items e.packages q ps e.versions y r done stays up_to opened,
      items_reply e.kept.slots.items e.packages q ps e.versions y r done stays up_to kept,
      up_to_reply e.packages q e.versions y r done stays up_to,
    )
