use Rattle.std.proofs.Common.{ap, sym, ◌∙◌}
use Rattle.rb_tree.specs.Path.{segments}
use Rattle.rb_tree.specs.Walk.{walk}
use Rattle.rb_inspect.proofs.Shown.{shown_end, shown_link}
use Rattle.rb_inspect.proofs.item.put_shown.Goals as goal

pub returns-in-End-clause-text : goal.returns-in-End-clause-text
returns-in-End-clause-text g c =
    let walked = walk (g.N.Node.tree c.args.root) (segments c.args.path.now) in
    (_, shown_end walked (g.N.Node.tree c.in-End.node) c.in-End.ensures.stop, c.put_item.ensures)

pub returns-in-Link-clause-text : goal.returns-in-Link-clause-text
returns-in-Link-clause-text g c =
    let walked = walk (g.N.Node.tree c.args.root) (segments c.args.path.now) in
    let rest = c.in-Link.ensures.rest ∙ ap segments (sym c.rest_behind.ensures) in
    let is = shown_link walked (g.N.Node.tree c.in-Link.node) c.in-Link.cut c.rest_behind.result.now c.in-Link.ensures.stop rest in
    (_, is, c.put_item-in-Link.ensures)
