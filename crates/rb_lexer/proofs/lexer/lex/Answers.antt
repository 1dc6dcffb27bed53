use Rattle.std.proofs.Common.{◌≡◌, List, [], ◌∷◌, ◌++◌, sym, ap, subst, ◌∙◌, append-nil, append_assoc}
use Rattle.std.proofs.lemmas.Result.{err_from_is_err_and}
use Rattle.rb_lexer.specs.declared.token.Token.{Token}
use Rattle.rb_lexer.specs.Tokens.{LexesTo}
use Rattle.rb_lexer.proofs.Decided.{only_ok, only_err, source_or, refused_for}
use Rattle.rb_lexer.proofs.Order.{spans_in_order}
use Rattle.rb_lexer.proofs.lexer.lex.Goals as goal

pub returns-in_err-rest-clause-only : goal.returns-in_err-rest-clause-only
returns-in_err-rest-clause-only c = λ ts has.
    let p = err_from_is_err_and c.from_residual.result c.from_residual.ensures.1 in
    rw (p.1, p.2) (only_err c.args.bytes.now c.in_err-rest.field-0.0 c.in_err-rest.ensures.fault ts has)

pub returns-in_err-rest-clause-refused : goal.returns-in_err-rest-clause-refused
returns-in_err-rest-clause-refused c = λ kind line f.
    let p = err_from_is_err_and c.from_residual.result c.from_residual.ensures.1 in
    rw (p.1, p.2) (refused_for c.args.bytes.now c.in_err-rest.field-0.0 c.in_err-rest.ensures.fault kind line f)

pub tokens-preserved : goal.tokens-preserved
tokens-preserved c =
    let taken = rw c.in-Some.is at c.in_ok-token.ensures.token in
    let more = c.pop.new.self in
    let same : c.tokens.tokens.items ++ c.tokens.rest ≡ c.push.new.self.items ++ more =
    ap (λ (us : List Token). c.tokens.tokens.items ++ us) taken ∙ sym (append_assoc c.tokens.tokens.items (c.in-Some.token ∷ []) more)
    ∙ ap (λ (us : List Token). us ++ more) (sym c.in_ok-push.ensures.items) in
    subst (λ (us : List Token). LexesTo c.args.bytes.now us) same c.tokens.invariant

pub returns-clause-found : goal.returns-clause-found
returns-clause-found c =
    let none = rw c.in_default.is at c.in_ok-token.ensures.token in
    subst (λ (us : List Token). LexesTo c.args.bytes.now us)
    (ap (λ (us : List Token). c.tokens.tokens.items ++ us) none ∙ append-nil c.tokens.tokens.items) c.tokens.invariant

pub returns-clause-in_order : goal.returns-clause-in_order
returns-clause-in_order c = spans_in_order c.args.bytes.now c.tokens.tokens.items (returns-clause-found c).1

pub returns-clause-only : goal.returns-clause-only
returns-clause-only c = λ ts has. only_ok c.args.bytes.now c.tokens.tokens.items ts (returns-clause-found c).1 has.1

pub returns-clause-refused : goal.returns-clause-refused
returns-clause-refused c = λ kind line f.
    let has = returns-clause-found c in
    source_or c.args.bytes.now c.tokens.tokens.items kind line has.0 has.1 f
