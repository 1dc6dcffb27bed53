use Rattle.std.proofs.Common.{Option, sym, subst}
use Rattle.std.proofs.lemmas.Result.{IfErr-weaker}
use Rattle.serde_json.specs.Data.{Data}
use Rattle.rb_requests.specs.ExtendedAsked.{ExtendedAsk}
use Rattle.rb_requests.specs.inner.ExtendedForms.{extended_in}
use Rattle.rb_requests.specs.inner.ExtendedLines.{AreAllOf}
use Rattle.rb_requests.specs.ExtendedReply.{ExtendedReply}
use Rattle.rb_requests.specs.inner.Starving.{LeavesOf}
use Rattle.rb_requests.proofs.Extending.{asked_of}
use Rattle.rb_requests.proofs.Placing.{places_weaker}
use Rattle.rb_requests.proofs.extended.answer_members.Goals as goal

pub returns-in-Some : goal.returns-in-Some
returns-in-Some g c =
    let old = c.args.engine.now in
    let limits = c.args.limits.now in
    let new = c.answer_line.new.engine in
    let asks = λ (d : Data) (all : AreAllOf c.args.asked.now d). asked_of c.in-Some.line c.in_ok-line.field-0 (extended_in d) c.in-Some.is (c.in_ok-line.ensures d all) in record {
      reply = places_weaker c.answer_line.result c.answer_line.new.reply _ _ _ _ (λ text told d all.
          subst (λ (o : Option ExtendedAsk). ExtendedReply limits old o text new) (sym (asks d all).1) (told (asks d all).0 (asks d all).2))
          c.answer_line.ensures.reply;
      fault = IfErr-weaker c.answer_line.result _ _ (λ s left d all.
          subst (λ (o : Option ExtendedAsk). LeavesOf (ExtendedReply limits old o) s old new) (sym (asks d all).1) (left (asks d all).0 (asks d all).2))
          c.answer_line.ensures.fault;
    }
