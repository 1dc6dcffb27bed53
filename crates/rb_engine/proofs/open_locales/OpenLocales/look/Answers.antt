use Rattle.std.proofs.Common.{true, false, sym, subst}
use Rattle.std.proofs.lemmas.Result.{on_ok_weaker, on_err_weaker, IfOk-weaker}
use Rattle.rb_parents.specs.Family.{parent_of}
use Rattle.rb_views.specs.Seen.{tree_seen}
use Rattle.rb_packages.specs.Lent.{bundles_lent}
use Rattle.rb_packages.specs.Packages.{Files}
use Rattle.rb_engine.specs.LookResponse.{look_response}
use Rattle.rb_engine.specs.inner.KeptLocales.{IsOpenOver}
use Rattle.rb_engine.proofs.KeptOpen.{answered_for, open_within, takes_for}
use Rattle.rb_engine.proofs.open_locales.OpenLocales.look.Goals as goal

pub returns-clause-within : goal.returns-clause-within
returns-clause-within c = λ versions latest e k.
    let packages = c.args.packages.now in
    let ps = parent_of c.args.parents.now in
    let slot = c.in_ok-slot.slot.now in
    let own = bundles_lent c.shelf-own.result in
    let icu = bundles_lent c.icu_shelf-icu.result in
    let a = c.in_ok-slot.ensures packages ps versions latest e k in
    let over = open_within c.args.left (subst (λ (fs : Files). IsOpenOver slot.opened fs ps slot.place.name) (sym c.shelf-own.ensures.files) a.open_there) in
    on_ok_weaker c.look_over.result
    (takes_for slot packages ps c.args.app.now c.args.locale.now c.args.path.now own icu a c.shelf-own.ensures.bundles c.icu_shelf-icu.ensures.bundles false c.args.left)
    (c.look_over.ensures.within slot.place.name over)

pub returns-clause-more : goal.returns-clause-more
returns-clause-more c = λ versions latest e k.
    let packages = c.args.packages.now in
    let ps = parent_of c.args.parents.now in
    let slot = c.in_ok-slot.slot.now in
    let own = bundles_lent c.shelf-own.result in
    let icu = bundles_lent c.icu_shelf-icu.result in
    let a = c.in_ok-slot.ensures packages ps versions latest e k in
    let over = open_within c.args.left (subst (λ (fs : Files). IsOpenOver slot.opened fs ps slot.place.name) (sym c.shelf-own.ensures.files) a.open_there) in
    on_err_weaker c.look_over.result
    (takes_for slot packages ps c.args.app.now c.args.locale.now c.args.path.now own icu a c.shelf-own.ensures.bundles c.icu_shelf-icu.ensures.bundles true c.args.left)
    (c.look_over.ensures.more slot.place.name over)

pub returns-clause-found : goal.returns-clause-found
returns-clause-found c = λ versions latest e k.
    let packages = c.args.packages.now in
    let ps = parent_of c.args.parents.now in
    let slot = c.in_ok-slot.slot.now in
    let own = bundles_lent c.shelf-own.result in
    let icu = bundles_lent c.icu_shelf-icu.result in
    let a = c.in_ok-slot.ensures packages ps versions latest e k in
    let over = open_within c.args.left (subst (λ (fs : Files). IsOpenOver slot.opened fs ps slot.place.name) (sym c.shelf-own.ensures.files) a.open_there) in
    IfOk-weaker c.look_over.result _ _
    (λ found e. answered_for slot packages ps c.args.app.now c.args.locale.now c.args.path.now own icu a c.shelf-own.ensures.bundles c.icu_shelf-icu.ensures.bundles (look_response tree_seen found) e)
    (c.look_over.ensures.found slot.place.name over)
