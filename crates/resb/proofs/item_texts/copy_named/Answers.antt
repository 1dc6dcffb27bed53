use Rattle.std.proofs.Common.{inr, length, sym, take}
use Rattle.rb_parents.specs.Family.{family_pairs}
use Rattle.rb_packages.specs.Lent.{files_in}
use Rattle.resb.proofs.FoundItems.{named_copy}
use Rattle.resb.proofs.item_texts.copy_named.Goals as goal

pub returns-in-Ok-tree_of-clause-tree : goal.returns-in-Ok-tree_of-clause-tree
returns-in-Ok-tree_of-clause-tree c some hit p at good search =
    let shelves = c.shelves.result in
    let lent = c.shelves.ensures in
    let tree = c.in-Ok-tree_of.tree.items in
    let room = length c.args.out.now in
    let copy = take c.copy_bytes.new.len c.copy_bytes.new.out in
    named_copy c.args.engine.now c.args.query.app.now c.args.query.locale.now c.args.query.path.now c.in-Ok.value c.in-Ok-read.name
    (files_in shelves.own) (files_in shelves.icudata) (family_pairs shelves.parents.now) hit c.copy_bytes.result c.copy_bytes.new.len room copy
    (sym c.in-Ok.ensures) (sym c.in-Ok-read.ensures.name) lent.own lent.icudata lent.parents
    (λ path found. inr (inr (
      tree,
      c.in-Ok-tree_of.ensures.tree hit path found,
      rw c.deref.ensures.value at c.copy_bytes.ensures.copied,
    ))) p at good search
