use Rattle.std.proofs.Common.{◌≡◌, ℕ, List, IfOk, IfSome, OnErr, OnOk, false, true, subst}
use Rattle.std.proofs.lemmas.Result.{on_ok_weaker, on_err_weaker, IfOk-weaker}
use Rattle.rb_views.specs.Seen.{tree_seen}
use Rattle.rb_packages.specs.Lent.{bundles_lent, files_in}
use Rattle.rb_fallback.specs.FoundNode.{IsNodeOf}
use Rattle.rb_engine.specs.Answer.{answer_over}
use Rattle.rb_engine.specs.Ask.{Looks}
use Rattle.rb_engine.specs.Kept.{Kept, state_of}
use Rattle.rb_engine.specs.LookResponse.{look_response}
use Rattle.rb_engine.specs.OpenLocale.{CountsNames, IsOpenLocale}
use Rattle.rb_engine.specs.Place.{place_of}
use Rattle.rb_engine.specs.Steps.{exceeds}
use Rattle.rb_engine.proofs.OpenBounded.{answered_open, open_within, takes_open}
use Rattle.rb_engine.proofs.engine.Engine.find_at.Goals as goal

pub returns-clause-within : goal.returns-clause-within
returns-clause-within c =
    let e = c.self.inside in
    let opened = c.args.opened.now in
    let path = c.args.path.now in
    let left = c.args.left in
    let r = c.find_over.result in
    let files = files_in c.shelf_at-own.result in
    let icu = bundles_lent c.icu_shelf-icu.result in
    subst
    (λ (k : Kept). (app locale : List ℕ) → IsOpenLocale opened k app locale → IfSome left (λ _. CountsNames opened k app locale)
    → OnOk r (exceeds left (state_of k).start ((state_of k).lists app) (place_of app locale) path ≡ false))
    c.self.view_is
    (λ app locale a n. on_ok_weaker r
    (takes_open e.packages e.parents e.versions.latest opened app locale path a files icu c.shelf_at-own.ensures c.icu_shelf-icu.ensures.bundles false left)
    (c.find_over.ensures.within a.place.name
    (open_within e.packages e.parents e.versions.latest opened app locale path a files icu c.shelf_at-own.ensures c.icu_shelf-icu.ensures.bundles left n)))

pub returns-clause-more : goal.returns-clause-more
returns-clause-more c =
    let e = c.self.inside in
    let opened = c.args.opened.now in
    let path = c.args.path.now in
    let left = c.args.left in
    let r = c.find_over.result in
    let files = files_in c.shelf_at-own.result in
    let icu = bundles_lent c.icu_shelf-icu.result in
    subst
    (λ (k : Kept). (app locale : List ℕ) → IsOpenLocale opened k app locale → IfSome left (λ _. CountsNames opened k app locale)
    → OnErr r (exceeds left (state_of k).start ((state_of k).lists app) (place_of app locale) path ≡ true))
    c.self.view_is
    (λ app locale a n. on_err_weaker r
    (takes_open e.packages e.parents e.versions.latest opened app locale path a files icu c.shelf_at-own.ensures c.icu_shelf-icu.ensures.bundles true left)
    (c.find_over.ensures.more a.place.name
    (open_within e.packages e.parents e.versions.latest opened app locale path a files icu c.shelf_at-own.ensures c.icu_shelf-icu.ensures.bundles left n)))

pub returns-clause-found : goal.returns-clause-found
returns-clause-found c =
    let e = c.self.inside in
    let opened = c.args.opened.now in
    let path = c.args.path.now in
    let left = c.args.left in
    let r = c.find_over.result in
    let files = files_in c.shelf_at-own.result in
    let icu = bundles_lent c.icu_shelf-icu.result in
    subst
    (λ (k : Kept). (app locale : List ℕ) → IsOpenLocale opened k app locale → IfSome left (λ _. CountsNames opened k app locale)
    → IfOk r (λ item. IsNodeOf item (λ found. look_response tree_seen found ≡ answer_over (state_of k).start ((state_of k).lists app) (Looks app locale path))))
    c.self.view_is
    (λ app locale a n. IfOk-weaker r _ _
    (λ item f. record { found = f.found; is = f.is; known = answered_open e.packages e.parents e.versions.latest opened app locale path a files icu c.shelf_at-own.ensures c.icu_shelf-icu.ensures.bundles (look_response tree_seen f.found) f.known })
    (c.find_over.ensures.found a.place.name
    (open_within e.packages e.parents e.versions.latest opened app locale path a files icu c.shelf_at-own.ensures c.icu_shelf-icu.ensures.bundles left n)))
