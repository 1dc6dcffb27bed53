use Rattle.std.proofs.Common.{◌≡◌, sym, subst}
use Rattle.rb_validator.specs.inner.CachedSpans.{CachedSpans}
use Rattle.rb_validator.specs.inner.Nested.{AreNested}
use Rattle.rb_validator.proofs.spans.cache.SpanCache.keep.Goals as goal
use Rattle.rb_validator.proofs.spans.cache.SpanCache.keep.Goals.{else-parts-via-else-parts, else-parts-via-then-parts+else-is_span_at}
use Rattle.rb_validator.proofs.spans.cache.SpanCache.keep.Goals.{else-parts-via-then-parts+then-is_span_at+in-None-1}

pub returns-else-parts-clause-nested : goal.returns-else-parts-clause-nested
returns-else-parts-clause-nested c = λ y body cells n r.
    let before = subst (λ (v : CachedSpans). AreNested y body cells v.lows v.highs v.nested) (sym c.self.view_is) n in
    let after = c.keep.ensures y body cells before r in
    elim c.else-parts.branch [
      | else-parts-via-else-parts w ↦ rw w.self-is after
      | else-parts-via-then-parts+else-is_span_at w ↦ rw w.self-is after
      | else-parts-via-then-parts+then-is_span_at+in-None-1 w ↦ rw w.self-is after
    ]
