use Rattle.std.proofs.Common.{◌∙◌, inl, inr, ⊎_elim}
use Rattle.std.specs.Str.{chars}
use Rattle.rb_lexer.proofs.Whole.{left_fits, faulty, memory_or}
use Rattle.rb_lexer.proofs.check.good_text.Goals as goal

pub located-requires : goal.located-requires
located-requires c = λ not_memory.
    let w = c.in-Err.ensures.ends not_memory in
    left_fits c.args.bytes.now (chars c.in_ok-text.text.now) (c.in-Err.ensures.bytes ∙ c.in_ok-text.ensures.1) c.in-Err.ensures.scalars c.in-Err.error.left w.0
    w.1.0 w.1.1.0 w.1.1.4

pub returns-in-Err-clause-fault : goal.returns-in-Err-clause-fault
returns-in-Err-clause-fault c =
    ⊎_elim (λ memory. inl (c.located.ensures.kind ∙ memory, c.located.ensures.no_line memory))
    (λ not_memory.
    let w = c.in-Err.ensures.ends not_memory in
    inr (inr (
      c.in_ok-text.ensures.0,
      faulty c.args.bytes.now (chars c.in_ok-text.text.now) (c.in-Err.ensures.bytes ∙ c.in_ok-text.ensures.1)
          c.in-Err.ensures.scalars c.located.result.kind c.in-Err.error.left c.located.result.line w.0 w.1.0 w.1.1.0 w.1.1.1 w.1.1.2
          (c.located.ensures.kind ∙ w.1.1.3) w.1.1.4 (c.located.ensures.line not_memory),
    )))
    (memory_or c.in-Err.error.kind)
