use Rattle.std.proofs.Common.{◌∙◌, ℕ, List, Option, Some, ap}
use Rattle.std.specs.Ordering.{is_lt}
use Rattle.rb_inherit.specs.inner.Merging.{key_in, precedes}
use Rattle.rb_inherit.proofs.place.Place.precedes.Goals as goal

pub returns-in-Some-next_key : goal.returns-in-Some-next_key
returns-in-Some-next_key g c =
    let layers = c.args.self.now.layers.items in
    let other = key_in g.N.Node.tree layers c.args.other in
    c.is_lt.ensures ∙ (ap is_lt c.cmp.ensures ∙ (ap (λ (o : Option (List ℕ)). precedes (Some c.in-Some.key.now) o) c.in-Some-next_key.ensures
    ∙ ap (λ (o : Option (List ℕ)). precedes o other) c.in-Some.ensures))
