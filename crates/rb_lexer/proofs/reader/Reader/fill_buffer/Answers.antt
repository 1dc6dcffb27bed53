use Rattle.std.proofs.lemmas.Result.{err_from_is_err_and}
use Rattle.rb_lexer.proofs.reader.Reader.fill_buffer.Goals as goal

pub returns-in_err-step : goal.returns-in_err-step
returns-in_err-step c = record {
  same =
      λ ts g. let p = err_from_is_err_and c.from_residual.result c.from_residual.ensures.1 in
      rw (p.1, p.2) (c.in_err-step.ensures.same ts (c.items.invariant.same ts g));
}
