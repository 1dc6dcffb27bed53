use Rattle.std.proofs.Common.{◌∙◌, Bool}
use Rattle.std.specs.Prelude.{OnOk, IfErr}
use Rattle.rb_engine.specs.Place.{place_of}
use Rattle.rb_engine.specs.Source.{payload_of}
use Rattle.rb_engine.specs.declared.handle.Change.{Change}
use Rattle.rb_requests.specs.ExtendedReply.{ChangeReply, is_stored, put_change, stored_line}
use Rattle.rb_requests.specs.inner.Starving.{LeavesOf}
use Rattle.rb_requests.proofs.Changing.{change_refused, put_as, stored_there}
use Rattle.rb_requests.proofs.extended.answer_put.Goals as goal

pub returns-in-Err-clause-reply : goal.returns-in-Err-clause-reply
returns-in-Err-clause-reply c =
    let limits = c.args.limits.now in
    let old = c.args.engine.now in
    let there = is_stored old (place_of c.args.app.now c.args.locale.now) in
    change_refused c.tell_unmade.result limits old (put_change there) c.args.app.now c.args.locale.now (payload_of c.args.source)
    (stored_line limits there) c.in-Err.unmade c.tell_unmade.new.reply c.in-Err.ensures c.tell_unmade.ensures.line

pub returns : goal.returns
returns c =
    let limits = c.args.limits.now in
    let old = c.args.engine.now in
    let new = c.store_read.new.engine in
    let app = c.args.app.now in
    let locale = c.args.locale.now in
    let payload = payload_of c.args.source in
    let read = c.in-Ok.ensures in
    let some = rw c.file_len.ensures at c.is_some-is_there.ensures in
    let is = some ∙ stored_there old (place_of app locale) c.in-Ok.incoming.0 read.0.0 in
    let there = is_stored old (place_of app locale) in record {
      reply = put_as c.put_change-change.result c.is_some-is_there.result there
          (λ (made : Change) (b : Bool). OnOk c.store_read.result (ChangeReply limits old made app locale payload (stored_line limits b) c.store_read.new.reply new))
          c.put_change-change.ensures is (c.store_read.ensures.reply app locale payload read.0 read.1 read.2);
      fault = put_as c.put_change-change.result c.is_some-is_there.result there
          (λ (made : Change) (b : Bool). IfErr c.store_read.result (λ s. LeavesOf (ChangeReply limits old made app locale payload (stored_line limits b)) s old new))
          c.put_change-change.ensures is (c.store_read.ensures.fault app locale payload read.0 read.1 read.2);
    }
