use Rattle.std.proofs.Common.{◌≡◌, sym, subst, inl, inr}
use Rattle.rb_validator.specs.declared.spans.nests.Nests.{Nests}
use Rattle.rb_validator.specs.inner.Nested.{AreNested}
use Rattle.rb_validator.proofs.SpanNests.{nested_put}
use Rattle.rb_validator.proofs.spans.nests.Nests.keep.Goals as goal

pub returns : goal.returns
returns c = λ y body cells n r.
    let old = c.args.self.now in
    let is : c.in-Ok.number ≡ c.args.count = c.in-Ok.ensures.1 in
    let w = rw is at c.widened-bounds.ensures in
    elim c.put.ensures [
      | inl q ↦ subst (λ (x : Nests). AreNested y body cells x.lows.items x.highs.items x.heights.items) (sym q) n
      | inr q ↦ rw (q.3, q.4, q.5) (nested_put y body cells old.lows.items old.highs.items old.heights.items c.in-Some.slot c.args.first c.args.count
          c.args.height c.widened-bounds.result.0 c.widened-bounds.result.1 n r c.in-Some.ensures w q.0 q.1 q.2)
    ]
