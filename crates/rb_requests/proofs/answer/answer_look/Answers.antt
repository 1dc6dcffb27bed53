use Rattle.std.proofs.Common.{refl}
use Rattle.rb_engine.specs.Ask.{LooksUp}
use Rattle.rb_engine.specs.LookResponse.{look_response}
use Rattle.rb_requests.specs.Steps.{Answers}
use Rattle.rb_views.specs.Seen.{tree_seen}
use Rattle.rb_requests.proofs.Placing.{places_weaker}
use Rattle.rb_requests.proofs.Stepping.{judged_always}
use Rattle.rb_requests.proofs.answer.answer_look.Goals as goal

pub returns-then-is_none : goal.returns-then-is_none
returns-then-is_none g c =
    let call = LooksUp c.args.app.now c.args.locale.now c.args.path.now in
    let response = look_response tree_seen c.look_unlimited-found.result in
    let kept = c.args.engine.now in
    let came = rw (c.as_bytes-app.ensures.value, c.as_bytes-locale.ensures.value, c.as_bytes-path.ensures.value) at c.look_unlimited-found.ensures in
    let judged = judged_always c.args.limits.now kept call (Answers response) kept refl came in
    places_weaker c.place_found.result c.place_found.new.reply _ _ _ _ (λ text told. (Answers response, judged, told)) c.place_found.ensures
