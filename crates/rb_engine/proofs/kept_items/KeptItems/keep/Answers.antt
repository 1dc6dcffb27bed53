use Rattle.std.proofs.Common.{refl}
use Rattle.rb_parents.specs.Family.{parent_of}
use Rattle.rb_engine.proofs.KeptFound.{item_is, item_put}
use Rattle.rb_engine.proofs.Places.{own_place}
use Rattle.rb_engine.specs.declared.kept_items.KeptItem.{KeptItem}
use Rattle.rb_engine.proofs.kept_items.KeptItems.keep.Goals as goal

pub returns-in-Some-spot_of : goal.returns-in-Some-spot_of
returns-in-Some-spot_of c = λ versions latest e past k.
    let packages = c.args.packages.now in
    let ps = parent_of c.args.parents.now in
    let place = c.args.place.now in
    let item : KeptItem =
    record { version = c.args.version; place = place; path = c.in-Some-of.path; spot = c.in-Some-spot_of.spot; steps = c.args.steps } in
    let few = rw c.in-Ok.is at c.look_in_within.ensures.within in
    item_put c.args.self.now.slots.items c.in-Some.index item packages ps versions latest
    (item_is item packages ps versions latest c.args.version refl past (own_place place c.requires c.as_bytes-2.ensures.canonical) c.in-Some-spot_of.ensures
    (rw c.in-Some-of.ensures few)) k
