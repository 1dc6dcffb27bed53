use Rattle.std.proofs.Common.{sym}
use Rattle.rb_parents.specs.Family.{family_pairs}
use Rattle.rb_fallback.specs.Answers.{hit_of}
use Rattle.rb_packages.specs.Lent.{files_in}
use Rattle.rb_views.specs.Seen.{tree_seen}
use Rattle.rb_requests.proofs.Placing.{places_weaker}
use Rattle.rb_requests.proofs.Trees.{named_found}
use Rattle.rb_requests.proofs.tree_reply.answer_named.Goals as goal

pub returns-in-Ok-read : goal.returns-in-Ok-read
returns-in-Ok-read g c =
    let found = c.args.found.now in
    let shelves = c.shelves-shelves.result in
    let lent = c.shelves-shelves.ensures in
    places_weaker c.answer_found.result c.answer_found.new.reply _ _ _ _ (λ text told.
    named_found c.args.limits.now c.args.engine.now c.args.app.now c.args.locale.now c.args.path.now c.in-Ok.app c.in-Ok-read.name
    (files_in shelves.own) (files_in shelves.icudata) (family_pairs shelves.parents.now) (hit_of tree_seen found) found.valid text
    (sym c.in-Ok.ensures) (sym c.in-Ok-read.ensures.name) lent.own lent.icudata lent.parents told) c.answer_found.ensures
