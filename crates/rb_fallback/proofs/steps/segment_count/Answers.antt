use Rattle.std.proofs.Common.{◌+◌, ap, sym, ◌∙◌, arith}
use Rattle.std.proofs.lemmas.List.Sums.{count_by-le-length}
use Rattle.rb_tree.specs.Path.{is_slash}
use Rattle.rb_fallback.proofs.Budgets.{segments_count}
use Rattle.rb_fallback.proofs.steps.segment_count.Goals as goal

pub returns-clause-count : goal.returns-clause-count
returns-clause-count c = ap (λ n. n + 1) c.slash_count.ensures ∙ sym (segments_count c.args.path.now (sym c.if-is_empty.ensures))

pub returns-clause-within : goal.returns-clause-within
returns-clause-within c = omega (arith, c.slash_count.ensures, count_by-le-length is_slash c.args.path.now)

pub overflow_add-result : goal.overflow_add-result
overflow_add-result c = omega (arith, c.slash_count.ensures, count_by-le-length is_slash c.args.path.now)
