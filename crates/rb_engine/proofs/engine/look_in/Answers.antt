use Rattle.std.proofs.Common.{Result, Ok, Err, ap, sym, ◌∙◌, subst}
use Rattle.rb_parents.specs.Family.{parent_of}
use Rattle.rb_views.specs.Seen.{tree_seen}
use Rattle.rb_views.specs.declared.item.Item.{Item}
use Rattle.rb_packages.specs.LentItem.{lent_tree}
use Rattle.rb_packages.specs.Lent.{bundles_lent}
use Rattle.rb_fallback.specs.Answers.{with_node}
use Rattle.rb_fallback.specs.declared.found.Found.{Found}
use Rattle.rb_engine.specs.Answer.{Response}
use Rattle.rb_engine.specs.LookResponse.{look_response}
use Rattle.rb_engine.specs.declared.request.LookFault.{LookFault}
use Rattle.rb_engine.proofs.Lookups.{IsTold, lookup_is}
use Rattle.rb_engine.proofs.engine.look_in.Goals as goal

pub returns-in-Ok : goal.returns-in-Ok
returns-in-Ok g c =
    let f = c.in-Ok.found in
    let w = c.with_node.result in
    let m : Result (Found Item) LookFault = Ok w in
    let answer : Found Item → Response = λ x. look_response tree_seen (Ok x) in
    let told : IsTold lent_tree tree_seen (Ok f) m = ap answer (c.with_node.ensures ∙ ap (with_node f) c.item.ensures) in
    rw (← c.shelf_near-own.ensures.bundles, ← c.icu_shelf.ensures.bundles)
    (lookup_is lent_tree tree_seen c.look_watched.result m (bundles_lent c.shelf_near-own.result) (bundles_lent c.icu_shelf.result) (parent_of c.args.parents.now)
    c.args.place.now.name c.args.path.now (subst (λ r. IsTold lent_tree tree_seen r m) (sym c.in-Ok.is) told)
    c.look_watched.ensures.bad_path.1 c.look_watched.ensures.answer c.look_watched.ensures.valid)

pub returns-in-Err : goal.returns-in-Err
returns-in-Err g c =
    let m : Result (Found Item) LookFault = Err c.from.result in
    let told : IsTold lent_tree tree_seen (Err c.in-Err.error) m = ap Err c.from.ensures in
    rw (← c.shelf_near-own.ensures.bundles, ← c.icu_shelf.ensures.bundles)
    (lookup_is lent_tree tree_seen c.look_watched.result m (bundles_lent c.shelf_near-own.result) (bundles_lent c.icu_shelf.result) (parent_of c.args.parents.now)
    c.args.place.now.name c.args.path.now (subst (λ r. IsTold lent_tree tree_seen r m) (sym c.in-Err.is) told)
    c.look_watched.ensures.bad_path.1 c.look_watched.ensures.answer c.look_watched.ensures.valid)
