use Rattle.std.proofs.Common.{ap, sym, subst}
use Rattle.rb_requests.specs.inner.OneLine.{FailsLine}
use Rattle.rb_requests.specs.inner.Protocols.{LineReplyBy}
use Rattle.rb_requests.specs.inner.Putting.{Writer}
use Rattle.rb_requests.specs.declared.lines.ServeFault.TheVariants.{Memory}
use Rattle.rb_requests.proofs.Serving.{not_replied}
use Rattle.rb_requests.proofs.lines.serve_line.Goals as goal

pub returns-in-Err-clause-fault : goal.returns-in-Err-clause-fault
returns-in-Err-clause-fault g c longest whole held =
    let Reply = LineReplyBy c.args.protocol longest.kept c.args.limits.now in
    let old = c.args.engine.now in
    let new = c.tell_line.new.engine in
    let written = g.S.Sink.written c.args.sink.now in
    subst (λ now. FailsLine Reply Memory old whole written now new) (sym (ap (λ (w : Writer). w.written) c.in-Err.ensures.reply))
    (not_replied Reply old new whole written (c.in-Err.ensures.fault longest whole held))
