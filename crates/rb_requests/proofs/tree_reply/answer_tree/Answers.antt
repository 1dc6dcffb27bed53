use Rattle.std.proofs.Common.{Ok, refl}
use Rattle.rb_engine.specs.Ask.{LooksUp}
use Rattle.rb_engine.specs.LookResponse.{look_response}
use Rattle.rb_requests.specs.Steps.{Answers}
use Rattle.rb_views.specs.Seen.{tree_seen}
use Rattle.rb_fallback.specs.Answers.{hit_of}
use Rattle.rb_requests.proofs.Placing.{places_weaker}
use Rattle.rb_requests.proofs.Stepping.{judged_always}
use Rattle.rb_requests.proofs.Trees.{tree_found}
use Rattle.rb_requests.proofs.tree_reply.answer_tree.Goals as goal

pub returns-in-Answer-Ok : goal.returns-in-Answer-Ok
returns-in-Answer-Ok g c =
    let call = LooksUp c.args.app.now c.args.locale.now c.args.path.now in
    let response = look_response tree_seen (Ok c.in-Answer-Ok.found) in
    let kept = c.args.engine.now in
    let came = rw (c.in-Answer-Ok.field-0-is, c.as_bytes-app.ensures.value, c.as_bytes-locale.ensures.value, c.as_bytes-path.ensures.value) at c.in-Answer-Ok.ensures in
    let judged = judged_always c.args.limits.now kept call (Answers response) kept refl came in
    let found = c.in-Answer-Ok.found in
    let told = rw (c.as_bytes-app.ensures.value, c.as_bytes-locale.ensures.value, c.as_bytes-path.ensures.value) at c.answer_named.ensures in
    places_weaker c.answer_named.result c.answer_named.new.reply _ _ _ _
    (λ text h. tree_found c.args.limits.now kept c.args.app.now c.args.locale.now c.args.path.now (hit_of tree_seen found) found.valid text judged h) told
