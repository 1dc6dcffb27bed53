use Rattle.std.proofs.Common.{◌∙◌, ap}
use Rattle.rb_inherit.specs.Merged.{alias_fault}
use Rattle.rb_inherit.specs.inner.Earlier.{closed_of}
use Rattle.rb_inherit.proofs.Aliases.{refused_on}
use Rattle.rb_inherit.proofs.follow.add_after.Goals as goal

pub returns-clause-refuses : goal.returns-clause-refuses
returns-clause-refuses g c =
    let first = c.in_ok-first.first in
    rw c.in-Some.is
    (refused_on (alias_fault (g.T.N.Node.tree c.in-Some.first.node)) c.args.before.found c.args.place.now.layers.items first.found first.link
    c.add_link.new.place.layers.items c.with_error-2.result c.links.place.layers.items c.in_ok-first.ensures.refuses
    (λ e. c.with_error-2.ensures.is ∙ ap closed_of (c.links.invariant.found e)) (λ e. ap (λ p. p.layers.items) (c.links.invariant.place e)))
