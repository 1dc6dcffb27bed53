use Rattle.std.proofs.Common.{◌≡◌, ◌∙◌, List, Some, ap, sym, subst}
use Rattle.rb_engine.specs.Source.{payload_of}
use Rattle.rb_requests.specs.ExtendedAsked.{ExtendedAsk, ReleaseChange, Puts}
use Rattle.rb_requests.specs.ExtendedReply.{AskReply, ReleaseReply}
use Rattle.rb_requests.specs.inner.ChangesRead.{changes_seen}
use Rattle.rb_requests.specs.inner.ExtendedLines.{line_asks}
use Rattle.rb_requests.specs.inner.Starving.{LeavesOf}
use Rattle.rb_requests.proofs.Extending.{held_reply, held_left, ask_reply, ask_left, release_asked}
use Rattle.rb_requests.proofs.Placing.{places_weaker}
use Rattle.rb_requests.proofs.extended.answer_line.Goals as goal

pub returns-in-Put : goal.returns-in-Put
returns-in-Put g c =
    let asked = c.in-Put in
    let old = c.args.engine.now in
    let limits = c.args.limits.now in
    let line = c.answer_put.new.reply in
    let new = c.answer_put.new.engine in
    let told = rw (c.as_bytes-app.ensures.value, c.as_bytes-locale.ensures.value) at c.answer_put.ensures.reply in
    let fault = rw (c.as_bytes-app.ensures.value, c.as_bytes-locale.ensures.value) at c.answer_put.ensures.fault in
    let ask = Puts asked.app.now asked.locale.now (payload_of asked.source) in record {
      reply = places_weaker c.held.result line _ _ _ _
          (λ text reply it is. ask_reply limits old new (line_asks c.args.line) ask it text (ap line_asks asked.is) is reply)
          (held_reply c.answer_put.result c.held.result line _ (λ text. AskReply limits old ask text new) c.held.ensures told);
      fault = held_left c.answer_put.result c.held.result (λ s. LeavesOf (AskReply limits old ask) s old new) _ c.held.ensures
          (λ s left it is. ask_left limits old new (line_asks c.args.line) ask it s (ap line_asks asked.is) is left) fault;
    }

pub returns-in-Release : goal.returns-in-Release
returns-in-Release g c =
    let asked = c.in-Release in
    let old = c.args.engine.now in
    let limits = c.args.limits.now in
    let line = c.answer_release.new.reply in
    let new = c.answer_release.new.engine in
    let changes = asked.changes.now in
    let told = rw c.as_bytes.ensures.value at c.answer_release.ensures.reply in
    let fault = rw c.as_bytes.ensures.value at c.answer_release.ensures.fault in record {
      reply = places_weaker c.held-in-Release.result line _ _ _ _ (λ text reply it is.
          let release = release_asked (changes_seen changes) asked.app.now it (sym (ap line_asks asked.is) ∙ is) in
          subst (λ (a : ExtendedAsk). AskReply limits old a text new) release.2 (reply release.0 release.1))
          (held_reply c.answer_release.result c.held-in-Release.result line _ (λ text. (cs : List ReleaseChange) → changes_seen changes ≡ Some cs
          → ReleaseReply limits old asked.app.now cs text new) c.held-in-Release.ensures told);
      fault = held_left c.answer_release.result c.held-in-Release.result (λ s. (cs : List ReleaseChange) → changes_seen changes ≡ Some cs
          → LeavesOf (ReleaseReply limits old asked.app.now cs) s old new) _ c.held-in-Release.ensures
          (λ s left it is.
          let release = release_asked (changes_seen changes) asked.app.now it (sym (ap line_asks asked.is) ∙ is) in
          subst (λ (a : ExtendedAsk). LeavesOf (AskReply limits old a) s old new) release.2 (left release.0 release.1)) fault;
    }
