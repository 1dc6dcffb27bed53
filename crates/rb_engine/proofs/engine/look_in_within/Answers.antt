use Rattle.std.proofs.Common.{Result, Ok, Err, ap, ◌∙◌, Some}
use Rattle.rb_parents.specs.Family.{parent_of}
use Rattle.rb_views.specs.Seen.{tree_seen}
use Rattle.rb_views.specs.declared.item.Item.{Item}
use Rattle.rb_packages.specs.LentItem.{lent_tree}
use Rattle.rb_packages.specs.Lent.{bundles_lent}
use Rattle.rb_fallback.specs.Answers.{with_node}
use Rattle.rb_fallback.specs.declared.found.Found.{Found}
use Rattle.rb_engine.specs.Answer.{Response}
use Rattle.rb_engine.specs.LookResponse.{look_response}
use Rattle.rb_engine.specs.declared.request.LookFault.{LookFault}
use Rattle.rb_engine.proofs.Bounded.{found_within, fault_within, more_steps, found_is, fault_is}
use Rattle.rb_engine.proofs.Lookups.{IsTold}
use Rattle.rb_engine.proofs.engine.look_in_within.Goals as goal

pub returns-in-Ok-clause-within : goal.returns-in-Ok-clause-within
returns-in-Ok-clause-within c =
    let w = rw c.in-Ok.is at c.look_within.ensures.answer in
    rw (← c.shelf_near-own.ensures.bundles, ← c.icu_shelf.ensures.bundles)
    (found_within lent_tree tree_seen (Some c.args.steps) (bundles_lent c.shelf_near-own.result) (bundles_lent c.icu_shelf.result) (parent_of c.args.parents.now)
    c.args.place.now.name c.args.path.now c.in-Ok.found w)

pub returns-in-Ok-clause-found : goal.returns-in-Ok-clause-found
returns-in-Ok-clause-found c =
    let f = c.in-Ok.found in
    let m : Result (Found Item) LookFault = Ok c.with_node.result in
    let answer : Found Item → Response = λ x. look_response tree_seen (Ok x) in
    let told : IsTold lent_tree tree_seen (Ok f) m = ap answer (c.with_node.ensures ∙ ap (with_node f) c.item.ensures) in
    let w = rw c.in-Ok.is at c.look_within.ensures.answer in
    let bad = rw c.in-Ok.is at c.look_within.ensures.bad_path.1 in
    let valid = rw c.in-Ok.is at c.look_within.ensures.valid in
    rw (← c.shelf_near-own.ensures.bundles, ← c.icu_shelf.ensures.bundles)
    (found_is lent_tree tree_seen (Some c.args.steps) (bundles_lent c.shelf_near-own.result) (bundles_lent c.icu_shelf.result) (parent_of c.args.parents.now)
    c.args.place.now.name c.args.path.now f m told bad w valid)

pub returns-in-Err-Search-clause-within : goal.returns-in-Err-Search-clause-within
returns-in-Err-Search-clause-within c =
    let w = rw (c.in-Err-Search.is, c.in-Err-Search.field-0-is) at c.look_within.ensures.answer in
    rw (← c.shelf_near-own.ensures.bundles, ← c.icu_shelf.ensures.bundles)
    (fault_within lent_tree tree_seen (Some c.args.steps) (bundles_lent c.shelf_near-own.result) (bundles_lent c.icu_shelf.result) (parent_of c.args.parents.now)
    c.args.place.now.name c.args.path.now c.in-Err-Search.error w)

pub returns-in-Err-Search-clause-found : goal.returns-in-Err-Search-clause-found
returns-in-Err-Search-clause-found c =
    let e = c.in-Err-Search.error in
    let m : Result (Found Item) LookFault = Err c.from.result in
    let told : IsTold lent_tree tree_seen (Err e) m = ap Err c.from.ensures in
    let w = rw (c.in-Err-Search.is, c.in-Err-Search.field-0-is) at c.look_within.ensures.answer in
    let bad = rw (c.in-Err-Search.is, c.in-Err-Search.field-0-is) at c.look_within.ensures.bad_path.1 in
    rw (← c.shelf_near-own.ensures.bundles, ← c.icu_shelf.ensures.bundles)
    (fault_is lent_tree tree_seen (Some c.args.steps) (bundles_lent c.shelf_near-own.result) (bundles_lent c.icu_shelf.result) (parent_of c.args.parents.now)
    c.args.place.now.name c.args.path.now e m told bad w)

pub returns-in-Err-TooManySteps-clause-more : goal.returns-in-Err-TooManySteps-clause-more
returns-in-Err-TooManySteps-clause-more c =
    let w = rw (c.in-Err-TooManySteps.is, c.in-Err-TooManySteps.field-0-is) at c.look_within.ensures.answer in
    let bad = rw (c.in-Err-TooManySteps.is, c.in-Err-TooManySteps.field-0-is) at c.look_within.ensures.bad_path.1 in
    rw (← c.shelf_near-own.ensures.bundles, ← c.icu_shelf.ensures.bundles)
    (more_steps lent_tree tree_seen (Some c.args.steps) (bundles_lent c.shelf_near-own.result) (bundles_lent c.icu_shelf.result) (parent_of c.args.parents.now)
    c.args.place.now.name c.args.path.now bad w)
