use Rattle.std.proofs.Common.{◌≡◌, ◌∙◌, ℕ, ap, length, subst, sym}
use Rattle.std.specs.Prelude.{IfOk}
use Rattle.rb_inherit.specs.inner.Earlier.{Adds, part_of}
use Rattle.rb_inherit.proofs.Nexts.{next_adds, next_closed}
use Rattle.rb_inherit.proofs.tree.take_at.Goals as goal

pub returns-then-is_open-clause-adds : goal.returns-then-is_open-clause-adds
returns-then-is_open-clause-adds g c =
    let old = c.args.place.now.layers.items in
    let mid = c.take_child.new.self.layers.items in
    let keys : length c.take_child.new.self.keys.items ≡ length c.args.place.now.keys.items = ap (λ p. length p.keys.items) c.take_child.ensures.rest in
    next_adds g.T.N.Node.tree (length c.args.place.now.keys.items) c.args.found old mid c.args.i c.in-Some.next c.add_child.result
    c.add_child.new.place.layers.items c.in-Some.ensures.some
    (subst (λ (n : ℕ). IfOk c.add_child.result (λ after.
    Adds g.T.N.Node.tree n (part_of g.T.N.Node.tree c.in-Some.next.0 c.in-Some.next.1) c.args.found mid after c.add_child.new.place.layers.items))
    keys c.add_child.ensures.adds)

pub returns-else-is_open-clause-adds : goal.returns-else-is_open-clause-adds
returns-else-is_open-clause-adds g c =
    next_closed g.T.N.Node.tree (length c.args.place.now.keys.items) c.args.found c.args.place.now.layers.items c.take_child.new.self.layers.items c.args.i
    c.in-Some.next c.in-Some.ensures.some (sym c.is_open.ensures ∙ c.if-is_open.false)
