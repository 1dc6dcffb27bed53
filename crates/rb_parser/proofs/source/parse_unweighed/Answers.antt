use Rattle.std.proofs.Common.{inl, inr, ◌∙◌}
use Rattle.std.proofs.lemmas.Result.{err_from_is_err_and}
use Rattle.rb_parser.proofs.Wholes.{good, good_same, good_memory, refused, read_table_low, too_heavy}
use Rattle.rb_parser.proofs.source.parse_unweighed.Goals as goal

pub returns-in_err-tokens-clause-only : goal.returns-in_err-tokens-clause-only
returns-in_err-tokens-clause-only c = λ name source g.
    let p = err_from_is_err_and c.from_residual.result c.from_residual.ensures.1 in
    rw (p.1, p.2) (c.in_err-tokens.ensures.only g.tokens (g.short, g.cut))

pub returns-in_err-tokens-clause-fault : goal.returns-in_err-tokens-clause-fault
returns-in_err-tokens-clause-fault c =
    let p = err_from_is_err_and c.from_residual.result c.from_residual.ensures.1 in
    rw (p.1, p.2) (elim c.in_err-tokens.ensures.fault [ inl m ↦ inl m | inr f ↦ inr (inl f) ])

pub returns-clause-only : goal.returns-clause-only
returns-clause-only c = λ name source g.
    let found = c.in_ok-tokens.ensures.found in
    c.without_memory_line.ensures.kind ∙ good_memory c.args.bytes.now c.in_ok-tokens.tokens c.in-Err.fault c.last_line.result name source found.1
    c.in-Err.ensures g

pub returns-clause-fault : goal.returns-clause-fault
returns-clause-fault c =
    let found = c.in_ok-tokens.ensures.found in
    refused c.args.bytes.now c.in_ok-tokens.tokens c.last_line.result c.in-Err.fault c.without_memory_line.result found.0 found.1
    c.last_line.ensures c.in-Err.ensures c.without_memory_line.ensures.kind c.without_memory_line.ensures.line
    c.without_memory_line.ensures.same

pub returns-in-Ok-clause-found : goal.returns-in-Ok-clause-found
returns-in-Ok-clause-found c = λ fits.
    let found = c.in_ok-tokens.ensures.found in
    good c.args.bytes.now c.in_ok-tokens.tokens c.in-Ok.source c.last_line.result found.0 found.1 c.in-Ok.ensures fits

pub returns-in-Ok-clause-heavy : goal.returns-in-Ok-clause-heavy
returns-in-Ok-clause-heavy c = λ heavy.
    let found = c.in_ok-tokens.ensures.found in
    too_heavy c.args.bytes.now c.in_ok-tokens.tokens c.in-Ok.source c.last_line.result found.0 found.1 c.in-Ok.ensures heavy

pub returns-in-Ok-clause-only : goal.returns-in-Ok-clause-only
returns-in-Ok-clause-only c = λ name source g.
    let found = c.in_ok-tokens.ensures.found in
    good_same c.args.bytes.now c.in_ok-tokens.tokens c.in-Ok.source c.last_line.result name source found.1 c.in-Ok.ensures g

pub returns-in-Ok-clause-table : goal.returns-in-Ok-clause-table
returns-in-Ok-clause-table c = (read_table_low c.in_ok-tokens.tokens c.in-Ok.source c.last_line.result c.in-Ok.ensures).0

pub returns-in-Ok-clause-low : goal.returns-in-Ok-clause-low
returns-in-Ok-clause-low c = (read_table_low c.in_ok-tokens.tokens c.in-Ok.source c.last_line.result c.in-Ok.ensures).1
