use Rattle.rb_parents.specs.Family.{parent_of}
use Rattle.rb_fallback.specs.Answers.{hit_of}
use Rattle.rb_packages.specs.Lent.{bundles_lent}
use Rattle.rb_views.specs.Seen.{tree_seen}
use Rattle.rb_requests.proofs.Placing.{places_weaker}
use Rattle.rb_requests.proofs.Trees.{tree_placed}
use Rattle.rb_requests.proofs.tree_reply.answer_found.Goals as goal

pub returns-in-Ok : goal.returns-in-Ok
returns-in-Ok g c =
    let found = c.args.found.now in
    let made = rw c.in-Ok.is at c.in_ok-tree.ensures.tree in
    let placed = rw c.deref.ensures.value at c.place_line.ensures in
    places_weaker c.place_line.result c.place_line.new.reply _ _ _ _ (λ text h good search.
    tree_placed c.args.limits.now (bundles_lent c.args.shelves.own) (parent_of c.args.shelves.parents.now) c.args.name.now c.args.path.now
    (hit_of tree_seen found) found.valid c.in-Ok.tree.items text (made (hit_of tree_seen found) good search) h) placed
