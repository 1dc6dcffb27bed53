use Rattle.rb_tree.specs.Parts.{child_of}
use Rattle.rb_parents.proofs.Children.{text_found}
use Rattle.rb_parents.proofs.route.text_node.Goals as goal

pub returns-clause-text : goal.returns-clause-text
returns-clause-text g c =
    text_found g.N.Node.tree c.child_of_kind.result (child_of c.args.key.now (g.N.Node.tree c.args.node)) c.child_of_kind.ensures.child
    c.child_of_kind.ensures.kind c.child_of_kind.ensures.none
