use Rattle.std.proofs.Common.{Option, option_and_then, sym, subst}
use Rattle.std.proofs.lemmas.Result.{IfErr-weaker}
use Rattle.serde_json.specs.Data.{Data, object}
use Rattle.rb_requests.specs.Asked.{call_in}
use Rattle.rb_requests.specs.ExtendedReply.{ExtendedReply}
use Rattle.rb_requests.specs.Within.{AnswersRead, asked_usage, usage_in}
use Rattle.rb_requests.specs.inner.ExtendedForms.{extended_in}
use Rattle.rb_requests.specs.inner.Starving.{LeavesOf}
use Rattle.rb_requests.proofs.ExtendedFound.{all_of}
use Rattle.rb_requests.proofs.Lent.{texts_of_object}
use Rattle.rb_requests.proofs.Placing.{places_weaker}
use Rattle.rb_requests.proofs.protocol.Protocol.reply_of.Goals as goal

pub returns-then-branch : goal.returns-then-branch
returns-then-branch g c =
    let limits = c.args.limits.now in
    let old = c.args.engine.now in
    let new = c.answer_texts.new.engine in
    let read = c.in_ok-read_object-in-Plain.ensures.read c.if-branch.true in
    let Reply = λ (o : Option Data). AnswersRead limits old (option_and_then call_in o) (asked_usage limits (option_and_then usage_in o)) in record {
      reply = rw c.in-Plain.is (places_weaker c.answer_texts.result c.answer_texts.new.reply _ _ _ _ (λ text told.
          subst (λ (o : Option Data). Reply o text new) (sym read.2) (told (object read.0) (texts_of_object _ read.0 read.1)))
          c.answer_texts.ensures.reply);
      fault = rw c.in-Plain.is (IfErr-weaker c.answer_texts.result _ _ (λ s left.
          subst (λ (o : Option Data). LeavesOf (Reply o) s old new) (sym read.2) (left (object read.0) (texts_of_object _ read.0 read.1)))
          c.answer_texts.ensures.fault);
    }

pub returns-then-branch-2 : goal.returns-then-branch-2
returns-then-branch-2 g c =
    let limits = c.args.limits.now in
    let old = c.args.engine.now in
    let new = c.answer_members.new.engine in
    let read = c.in_ok-read_object-in-Extended.ensures.read c.if-branch-2.true in
    let Reply = λ (o : Option Data). ExtendedReply limits old (option_and_then extended_in o) in record {
      reply = rw c.in-Extended.is (places_weaker c.answer_members.result c.answer_members.new.reply _ _ _ _ (λ text told.
          subst (λ (o : Option Data). Reply o text new) (sym read.2) (told (object read.0) (all_of _ read.0 read.1)))
          c.answer_members.ensures.reply);
      fault = rw c.in-Extended.is (IfErr-weaker c.answer_members.result _ _ (λ s left.
          subst (λ (o : Option Data). LeavesOf (Reply o) s old new) (sym read.2) (left (object read.0) (all_of _ read.0 read.1)))
          c.answer_members.ensures.fault);
    }
