use Rattle.std.proofs.Common.{◌≤◌, Option, Some, None, arith}
use Rattle.std.specs.Option.{OnSome}
use Rattle.rb_views.specs.Seen.{tree_seen}
use Rattle.rb_fallback.specs.Answers.{hit_of}
use Rattle.rb_packages.specs.Lent.{files_in}
use Rattle.rb_engine.proofs.KeptFound.{item_answers, item_takes_few}
use Rattle.rb_engine.proofs.KeptOpen.{some_answered}
use Rattle.rb_engine.proofs.kept_items.KeptItems.look.Goals as goal

on_some : {A P : Type 0} (o : Option A) → P → OnSome o P
on_some None p = tt
on_some (Some x) p = p

pub returns-clause-within : goal.returns-clause-within
returns-clause-within c = λ ps versions latest e k.
    let item = c.in_ok-item.item.now in
    let (app, name, path, answer, read, few) = c.in_ok-item.ensures c.args.packages.now ps versions latest e k in
    let enough : item.steps ≤ c.args.steps = omega (arith, c.if-item-steps.false) in
    on_some c.find-2.result (item_takes_few item c.args.packages.now ps c.args.app.now c.args.locale.now c.args.path.now c.args.steps app name path read few enough)

pub returns-clause-found : goal.returns-clause-found
returns-clause-found c = λ ps versions latest e k.
    let item = c.in_ok-item.item.now in
    let (app, name, path, answer, read, few) = c.in_ok-item.ensures c.args.packages.now ps versions latest e k in
    some_answered c.find-2.result _ _
    (λ f at.
    item_answers item c.args.packages.now ps c.args.app.now c.args.locale.now c.args.path.now (files_in c.shelf_near-own.result) (files_in c.icu_shelf.result)
    (hit_of tree_seen f) f.valid app name path read c.shelf_near-own.ensures.files c.icu_shelf.ensures.files answer at)
    c.find-2.ensures
