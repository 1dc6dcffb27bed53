use Rattle.std.proofs.Common.{length, sym, arith}
use Rattle.std.proofs.lemmas.List.Sums.{position_or_len_is}
use Rattle.rb_inherit.specs.inner.Paths.{is_separator}
use Rattle.rb_inherit.proofs.path.segment_len.Goals as goal

pub returns : goal.returns
returns c =
    let path = c.args.path.now in
    sym (position_or_len_is is_separator path (length path) 0 (omega arith) (λ k h. c.loop-i.invariant k (omega arith)) (λ h. absurd (omega arith)))
