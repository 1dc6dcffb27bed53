use Rattle.std.proofs.lemmas.Result.{on_ok_weaker, IfErr-weaker}
use Rattle.rb_engine.specs.Ask.{Requests}
use Rattle.rb_engine.specs.Source.{change_request}
use Rattle.rb_requests.specs.Outcomes.{reply_outcome}
use Rattle.rb_requests.specs.inner.ExtendedTold.{change_line}
use Rattle.rb_requests.specs.inner.Starving.{untold_by}
use Rattle.rb_requests.proofs.Changing.{change_told, change_leaves}
use Rattle.rb_requests.proofs.Stepping.{judged, left_by}
use Rattle.rb_requests.proofs.extended.store_read.Goals as goal

pub returns : goal.returns
returns c =
    let limits = c.args.limits.now in
    let old = c.args.engine.now in
    let new = c.put-answer.new.engine in
    let made = c.args.change in
    let line = change_line limits c.args.replaced in
    let answer = c.put-answer.result in record {
      reply = λ app locale payload reads file read.
          let came = c.put-answer.ensures.step app locale payload reads file read in
          on_ok_weaker c.tell_limited.result (λ told.
          change_told limits old new made app locale payload c.args.incoming (reply_outcome answer) line c.tell_limited.new.reply reads read
          (judged limits old (Requests (change_request made app locale payload)) (reply_outcome answer) new told.0 came) told.1)
          c.tell_limited.ensures.line;
      fault = λ app locale payload reads file read.
          let came = c.put-answer.ensures.step app locale payload reads file read in
          let left = left_by limits old (Requests (change_request made app locale payload)) answer new came in
          IfErr-weaker c.tell_limited.result _ _ (λ s is.
          rw is (change_leaves limits old new made app locale payload c.args.incoming line (untold_by answer) reads read left))
          c.tell_limited.ensures.fault;
    }
