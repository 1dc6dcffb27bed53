use Rattle.std.proofs.Common.{List, length, ap, subst, sym, ◌∙◌, inl}
use Rattle.std.proofs.lemmas.Result.{err_from_is_err_and}
use Rattle.std.specs.Str.{chars}
use Rattle.rb_lexer.specs.declared.token.Token.{Token}
use Rattle.rb_lexer.specs.Tokens.{LexesTo}
use Rattle.rb_lexer.proofs.Decided.{lexed_one, only_err}
use Rattle.rb_lexer.proofs.Pulls.{all_of, has_all, gives_all, placed_at_start, left_one, left_is}
use Rattle.rb_lexer.proofs.stream.Tokens.of.Goals as goal

pub returns-in_err-text-clause-only : goal.returns-in_err-text-clause-only
returns-in_err-text-clause-only c = λ ts has.
    let p = err_from_is_err_and c.from_residual.result c.from_residual.ensures.1 in
    rw (p.1, p.2) (only_err c.args.bytes.now c.in_err-text.field-0.0 c.in_err-text.ensures.fault ts has)

pub fill-requires : goal.fill-requires
fill-requires c =
    let e = c.in_ok-text.ensures in
    placed_at_start c.new-reader.result c.in_ok-text.text.now c.new-reader.ensures (rw e.same e.short) (ap length (e.encoded ∙ sym e.same))

pub invariant_of-result : goal.invariant_of-result
invariant_of-result c =
    let e = c.in_ok-text.ensures in
    let text = c.in_ok-text.text.now in
    let ts = all_of c.args.bytes.now (chars text) e.unbroken in
    left_is c.fill.new.self ts (c.in-Ok.ensures.same ts (gives_all c.args.bytes.now c.new-reader.result text e.unbroken c.new-reader.ensures e.same))

pub returns-in-Ok-clause-found : goal.returns-in-Ok-clause-found
returns-in-Ok-clause-found c =
    let e = c.in_ok-text.ensures in
    let bytes = c.args.bytes.now in
    let text = c.in_ok-text.text.now in
    let ts = all_of bytes (chars text) e.unbroken in
    subst (λ (us : List Token). LexesTo bytes us)
    (left_one c.fill.new.self ts (c.in-Ok.ensures.same ts (gives_all bytes c.new-reader.result text e.unbroken c.new-reader.ensures e.same)))
    (e.short, has_all bytes (chars text) e.unbroken e.encoded e.scalars)

pub returns-in-Ok-clause-only : goal.returns-in-Ok-clause-only
returns-in-Ok-clause-only c = λ ts has. lexed_one c.args.bytes.now _ ts (returns-in-Ok-clause-found c) has

pub located-requires : goal.located-requires
located-requires c = λ other.
    let e = c.in_ok-text.ensures in
    let bytes = c.args.bytes.now in
    let text = c.in_ok-text.text.now in
    absurd (other (c.in-Err.ensures.same (all_of bytes (chars text) e.unbroken)
    (gives_all bytes c.new-reader.result text e.unbroken c.new-reader.ensures e.same)))

pub returns-clause-fault : goal.returns-clause-fault
returns-clause-fault c =
    let e = c.in_ok-text.ensures in
    let bytes = c.args.bytes.now in
    let text = c.in_ok-text.text.now in
    let memory =
    c.in-Err.ensures.same (all_of bytes (chars text) e.unbroken) (gives_all bytes c.new-reader.result text e.unbroken c.new-reader.ensures e.same) in
    inl (c.located.ensures.kind ∙ memory, c.located.ensures.no_line memory)

pub returns-clause-only : goal.returns-clause-only
returns-clause-only c = λ ts has.
    let e = c.in_ok-text.ensures in
    let bytes = c.args.bytes.now in
    let text = c.in_ok-text.text.now in
    c.located.ensures.kind
    ∙ c.in-Err.ensures.same (all_of bytes (chars text) e.unbroken) (gives_all bytes c.new-reader.result text e.unbroken c.new-reader.ensures e.same)
