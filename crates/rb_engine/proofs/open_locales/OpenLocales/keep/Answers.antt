use Rattle.rb_parents.specs.Family.{parent_of}
use Rattle.rb_engine.proofs.Places.{own_place}
use Rattle.rb_engine.proofs.KeptOpen.{kept_put, opened_is}
use Rattle.rb_engine.proofs.open_locales.OpenLocales.keep.Goals as goal

pub returns-in-Ok : goal.returns-in-Ok
returns-in-Ok c = λ versions latest e past k.
    let packages = c.args.packages.now in
    let ps = parent_of c.args.parents.now in
    let place = c.args.place.now in
    let opened = c.in-Ok.opened in
    kept_put c.args.self.now.slots.items c.in-Some-index_for.index (record { place = place; opened = opened }) packages ps versions latest
    (opened_is opened packages ps versions latest c.args.version place c.in-Ok.ensures.version past
    (own_place place c.requires c.as_bytes-locale.ensures.canonical) c.in-Ok.ensures.stops c.in-Ok.ensures.names) k
