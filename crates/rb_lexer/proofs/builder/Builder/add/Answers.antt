use Rattle.std.proofs.Common.{List, ◌++◌, sym, ap, ◌∙◌}
use Rattle.rb_lexer.specs.declared.token.Token.{Token}
use Rattle.rb_lexer.proofs.Adds.{white_added, run_added, run_joined}
use Rattle.rb_lexer.proofs.builder.Builder.add.Goals as goal

pub returns-in-White-clause-added : goal.returns-in-White-clause-added
returns-in-White-clause-added c = λ bytes xs rest shows at_line to.
    let s = c.args.self.now in
    ap (λ (ts : List Token). s.tokens.items ++ ts)
    (white_added bytes rest s.pending c.args.units xs s.is_open c.args.at.first c.args.at.past (rw c.in-White.is at shows) to)

pub returns-then-may_continue-clause-added : goal.returns-then-may_continue-clause-added
returns-then-may_continue-clause-added c = λ bytes xs rest shows at_line to.
    let l = c.in_ok-extend-in-Run.ensures.longer in
    run_added bytes c.args.self.now.tokens.items xs rest c.args.at.first c.args.at.past c.args.units (rw c.in-Run.is at shows) to c.args.self.now.pending _
    c.args.self.now.is_open _ _ (sym c.may_continue.ensures ∙ c.if-may_continue.true) l.0 l.1 l.2

pub returns-in_ok-join-in-Run-clause-added : goal.returns-in_ok-join-in-Run-clause-added
returns-in_ok-join-in-Run-clause-added c = λ bytes xs rest shows at_line to.
    let j = c.in_ok-join-in-Run.ensures.joined in
    run_joined bytes c.args.self.now.tokens.items xs rest c.args.at.first c.args.at.past c.args.units (rw c.in-Run.is at shows) to c.args.self.now.pending _
    c.args.self.now.is_open c.args.at.line _ (sym c.may_continue.ensures ∙ c.if-may_continue.false) at_line j.0 j.1
