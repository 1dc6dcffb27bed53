use Rattle.std.proofs.Common.{◌+◌, ◌≤◌, ◌∙◌, arith, drop, length, refl, sym}
use Rattle.std.proofs.lemmas.Grind.{common_steps}
use Rattle.std.proofs.lemmas.List.{length-drop, take_rest}
use Rattle.rb_inherit.proofs.Walks.{reached_end, reached_first, reached_gone, reached_link, reached_next}
use Rattle.rb_inherit.proofs.path.walk_on.Goals as goal

pub segments-init : goal.segments-init
segments-init g c = record { near = omega arith; reached = λ h. reached_first (g.N.Node.tree c.args.node) c.args.path.now h }

pub returns-in-Alias-clause-ends : goal.returns-in-Alias-clause-ends
returns-in-Alias-clause-ends g c =
    λ h.
    reached_link (g.N.Node.tree c.args.node) (g.N.Node.tree c.segments.here) c.args.path.now c.segments.at c.saturating_sub.result
    (c.segments.invariant.reached h) (sym c.kind.ensures ∙ c.in-Alias.is) c.saturating_sub.ensures

pub returns-then-at-path : goal.returns-then-at-path
returns-then-at-path g c = record {
  is = λ k. c.in_default.not-Alias (c.kind.ensures ∙ k);
  ends = λ h.
      reached_end (g.N.Node.tree c.args.node) (g.N.Node.tree c.segments.here) c.args.path.now c.segments.at
      (c.segments.invariant.reached h) (λ k. c.in_default.not-Alias (c.kind.ensures ∙ k)) (omega arith);
}

pub returns-in-None : goal.returns-in-None
returns-in-None g c =
    let path = c.args.path.now in
    let i = c.segments.at in
    let e = rw (take_rest path i) at c.segment_len-len.ensures in
    let none = rw (take_rest path i) at c.in-None.ensures in
    record {
      is = tt;
      ends = λ h.
          reached_gone (g.N.Node.tree c.args.node) (g.N.Node.tree c.segments.here) path i c.segment_len-len.result
          (c.segments.invariant.reached h) (λ k. c.in_default.not-Alias (c.kind.ensures ∙ k)) (omega arith) e (sym none);
    }

pub segments-preserved : goal.segments-preserved
segments-preserved g c =
    let path = c.args.path.now in
    let i = c.segments.at in
    let n = c.segment_len-len.result in
    let e = rw (take_rest path i) at c.segment_len-len.ensures in
    let some = rw (take_rest path i) at c.in-Some.ensures in
    let within : n ≤ length (drop i path) = grind (arith, common_steps, e) in
    record {
      near = omega (arith, length-drop i path);
      reached = λ h.
          reached_next (g.N.Node.tree c.args.node) (g.N.Node.tree c.segments.here) (g.N.Node.tree c.in-Some.child) path i n (i + (n + 1))
          (c.segments.invariant.reached h) (λ k. c.in_default.not-Alias (c.kind.ensures ∙ k)) (omega arith) e (sym some) refl;
    }
