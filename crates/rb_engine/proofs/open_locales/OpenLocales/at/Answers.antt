use Rattle.std.proofs.Common.{◌≡◌, ◌<◌, true, length, Option, Some, refl, ap, ◌∙◌, arith, rules}
use Rattle.std.proofs.lemmas.Option.{slice_get_read}
use Rattle.std.specs.List.{slice_get}
use Rattle.rb_engine.specs.Version.{is_current}
use Rattle.rb_engine.specs.declared.open_locales.Slot.{Slot}
use Rattle.rb_engine.proofs.KeptOpen.{open_for}
use Rattle.rb_engine.proofs.open_locales.OpenLocales.at.Goals as goal

pub returns-then-has : goal.returns-then-has
returns-then-has c = λ packages ps versions latest e k.
    let slot = c.in-Some.slot in
    let slots = c.args.self.now.slots.items in
    let i = c.args.index in
    let inside : i < length slots = omega (arith, c.if-index-len.false, c.len.ensures) in
    let there : slice_get slots i ≡ Some (Some slot) =
    slice_get_read slots (length slots) i c.index.result.now refl inside c.index.ensures ∙ ap (λ (o : Option Slot). Some o) c.in-Some.is in
    let app : slot.place.app ≡ c.args.app.now = search rules in
    let name : slot.place.name ≡ c.args.locale.now = search rules in
    let current : is_current slot.opened.version c.args.version ≡ true = search rules in
    open_for slot packages ps versions latest c.args.version c.args.app.now c.args.locale.now (k c.args.index slot there) app name e current
