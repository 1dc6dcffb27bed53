use Rattle.std.proofs.Common.{◌≡◌, Ok, sym, ◌∙◌}
use Rattle.rb_parents.specs.Family.{family_pairs}
use Rattle.rb_engine.specs.Place.{place_of}
use Rattle.rb_engine.specs.Answer.{Start}
use Rattle.rb_engine.specs.Kept.{state_of}
use Rattle.rb_engine.proofs.Lookups.{lookup_at_place}
use Rattle.rb_engine.proofs.Places.{own_app as own_app_is, own_place}
use Rattle.rb_engine.proofs.engine.Engine.look_named.Goals as goal

pub returns-in-Some : goal.returns-in-Some
returns-in-Some c =
    let app = c.args.app.now in
    let locale = c.args.locale.now in
    let path = c.args.path.now in
    let own_app = c.as_bytes-own_app.result.now in
    let own_locale = c.as_bytes-own_locale.result.now in
    let packages = c.args.self.now.packages in
    let place = c.in_ok-place.place in
    let h : place_of app locale ≡ Ok place = sym c.place_of.ensures ∙ c.in_ok-place.was in
    let own : place_of place.app place.name ≡ Ok place = own_place place (own_app_is app locale place h) c.as_bytes-own_locale.ensures.canonical in
    let there : place_of own_app own_locale ≡ Ok place = rw (c.as_bytes-own_app.ensures, c.as_bytes-own_locale.ensures.bytes) own in
    let start : Start = (state_of c.args.self.now).start in
    c.in-Some.ensures ∙ sym (lookup_at_place start own_app own_locale path place packages there) ∙ lookup_at_place start app locale path place packages h

pub returns : goal.returns
returns c =
    let h : place_of c.args.app.now c.args.locale.now ≡ Ok c.in_ok-place.place = sym c.place_of.ensures ∙ c.in_ok-place.was in
    let start : Start = (state_of (record { packages = c.self.inside.packages; parents = family_pairs c.self.inside.parents; version = c.self.inside.versions.latest })).start in
    rw (← c.self.view_is)
    (c.look_in.ensures ∙ lookup_at_place start c.args.app.now c.args.locale.now c.args.path.now c.in_ok-place.place c.self.inside.packages h)
