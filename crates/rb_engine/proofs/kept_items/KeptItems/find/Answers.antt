use Rattle.std.proofs.Common.{◌≡◌, ◌<◌, true, length, Option, Some, refl, ap, sym, ◌∙◌, subst, arith, rules}
use Rattle.std.proofs.lemmas.Option.{slice_get_read}
use Rattle.std.specs.List.{slice_get}
use Rattle.rb_engine.specs.Version.{is_current}
use Rattle.rb_engine.specs.inner.LastChanges.{version_in}
use Rattle.rb_engine.specs.declared.kept_items.KeptItem.{KeptItem}
use Rattle.rb_engine.proofs.kept_items.KeptItems.find.Goals as goal

pub returns-then-is_of : goal.returns-then-is_of
returns-then-is_of c = λ packages ps versions latest e k.
    let item = c.in-Some.item in
    let slots = c.args.self.now.slots.items in
    let i = c.args.self.now.recent in
    let inside : i < length slots = omega (arith, c.if-self-len.false, c.len.ensures) in
    let at : slice_get slots i ≡ Some (Some item) =
    slice_get_read slots (length slots) i c.index.result.now refl inside c.index.ensures ∙ ap (λ (o : Option KeptItem). Some o) c.in-Some.is in
    let app : item.place.app ≡ c.args.app.now = search rules in
    let name : item.place.name ≡ c.args.locale.now = search rules in
    let path : item.path ≡ c.args.path.now = search rules in
    let now : is_current item.version c.args.version ≡ true = search rules in
    let same = e ∙ sym (ap (version_in versions) app) in
    let current : is_current item.version (version_in versions item.place.app) ≡ true = subst (λ x. is_current item.version x ≡ true) same now in
    let kept = k c.args.self.now.recent item at in
    (app, name, path, (kept.answers_now current).0, kept.read, (kept.answers_now current).1)
