use Rattle.std.proofs.Common.{sym, ◌∙◌}
use Rattle.rb_inspect.proofs.Reaching.{reach_ends}
use Rattle.rb_inspect.proofs.trace_steps.reach.Goals as goal

pub returns-then-not-leads : goal.returns-then-not-leads
returns-then-not-leads g c =
    reach_ends (g.N.Node.tree c.args.root) c.args.path.now c.loop-at.at c.loop-at.reached c.loop-at.invariant
    c.if-path-at-eq47.true (sym c.leads.ensures ∙ c.if-not-leads.true)
