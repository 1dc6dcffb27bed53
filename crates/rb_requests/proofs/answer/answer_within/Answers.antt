use Rattle.std.proofs.Common.{◌∙◌, ap, refl}
use Rattle.rb_engine.specs.Ask.{LooksUp}
use Rattle.rb_engine.specs.LookResponse.{look_response}
use Rattle.rb_requests.specs.Steps.{Answers, Refuses}
use Rattle.rb_views.specs.Seen.{tree_seen}
use Rattle.rb_requests.specs.Within.{error_line}
use Rattle.rb_requests.proofs.Placing.{places_weaker}
use Rattle.rb_requests.proofs.Stepping.{judged_always}
use Rattle.rb_requests.proofs.answer.answer_within.Goals as goal

pub returns-in-Answer : goal.returns-in-Answer
returns-in-Answer g c =
    let call = LooksUp c.args.app.now c.args.locale.now c.args.path.now in
    let response = look_response tree_seen c.in-Answer.found in
    let kept = c.args.engine.now in
    let came = c.in-Answer.ensures in
    let judged = judged_always c.args.limits.now kept call (Answers response) kept refl came in
    places_weaker c.place_found.result c.place_found.new.reply _ _ _ _ (λ text told. (Answers response, judged, told)) c.place_found.ensures

pub returns-in_ok-tell_word-in-Refused : goal.returns-in_ok-tell_word-in-Refused
returns-in_ok-tell_word-in-Refused g c =
    let call = LooksUp c.args.app.now c.args.locale.now c.args.path.now in
    let refusal = c.in-Refused.refusal in
    let kept = c.args.engine.now in
    let came = c.in-Refused.ensures in
    let judged = judged_always c.args.limits.now kept call (Refuses refusal) kept refl came in
    (c.tell_word.new.reply, (Refuses refusal, judged, c.in_ok-tell_word-in-Refused.ensures ∙ ap error_line c.word.ensures), (refl, refl))
