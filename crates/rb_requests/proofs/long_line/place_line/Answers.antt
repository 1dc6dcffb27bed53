use Rattle.std.proofs.Common.{◌∙◌, refl, sym}
use Rattle.std.proofs.lemmas.Bool.{false≢true}
use Rattle.rb_requests.specs.inner.LongLines.{long_line}
use Rattle.rb_requests.proofs.ReplyLimits.{limited_above, limited_within}
use Rattle.rb_requests.proofs.long_line.place_line.Goals as goal

pub returns-then-is_above : goal.returns-then-is_above
returns-then-is_above g c =
    let long = limited_above c.args.limits.now.reply_bytes (long_line c.args.line) (c.is_above.ensures.0 c.if-is_above.true) in
    (c.tell_line_error.new.reply, c.in_ok-tell_line_error.ensures ∙ long, (refl, refl))

pub returns : goal.returns
returns g c =
    let line = long_line c.args.line in
    let short = limited_within c.args.limits.now.reply_bytes line (λ above. false≢true (sym c.if-is_above.false ∙ c.is_above.ensures.1 above)) in
    (line, short, c.in_ok-put_line.ensures.put)
