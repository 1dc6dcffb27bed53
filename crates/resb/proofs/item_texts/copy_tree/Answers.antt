use Rattle.std.proofs.Common.{length, subst, take}
use Rattle.rb_fallback.specs.Answers.{hit_of}
use Rattle.rb_engine.specs.Answer.{Response}
use Rattle.rb_views.specs.Seen.{tree_seen}
use Rattle.resb.specs.ItemTexts.{CopiesTree}
use Rattle.resb.proofs.FoundItems.{found_tree}
use Rattle.resb.proofs.item_texts.copy_tree.Goals as goal

pub returns-in-Ok-Ok-clause-tree : goal.returns-in-Ok-Ok-clause-tree
returns-in-Ok-Ok-clause-tree c within some =
    let kept = c.args.engine.now in
    let found = c.in-Ok-Ok.field-0-0 in
    let hit = hit_of tree_seen found in
    let came = rw c.in-Ok-Ok.field-0-is at c.in-Ok-Ok.ensures.found in
    let count = c.copy_named.new.len in
    let room = length c.args.out.now in
    let copy = take count c.copy_named.new.out in
    subst (λ (r : Response). CopiesTree kept c.args.query.app.now c.args.query.locale.now c.args.query.path.now r c.copy_named.result count room copy) came
    (found_tree kept c.args.query.app.now c.args.query.locale.now c.args.query.path.now hit found.valid c.copy_named.result count room copy came
    (c.copy_named.ensures.tree some hit))
