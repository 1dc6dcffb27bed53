use Rattle.std.proofs.Common.{◌≡◌, ap, ◌∙◌, sym, subst}
use Rattle.rb_validator.specs.inner.CachedSpans.{CachedSpans}
use Rattle.rb_validator.specs.inner.Leaves.{AreLeaves}
use Rattle.rb_validator.proofs.spans.cache.SpanCache.are_leaves.Goals as goal

pub returns-clause-leaves : goal.returns-clause-leaves
returns-clause-leaves c = λ e y body h.
    let same : c.deref.result.now ≡ c.args.self.now.leaves = c.deref.ensures.value ∙ ap (λ (r : CachedSpans). r.leaves) c.self.view_is in
    c.is_leaf_run.ensures.leaves e y body (subst (AreLeaves y body) (sym same) h)
