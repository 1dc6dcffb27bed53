use Rattle.std.proofs.Common.{◌≤◌, ◌∙◌, ap, length, option_and_then, sym}
use Rattle.std.proofs.lemmas.Bool.{ltb-false}
use Rattle.rb_inherit.specs.inner.Trails.{tree_in}
use Rattle.rb_inherit.proofs.Trails.{stop_beyond, stop_here}
use Rattle.rb_inherit.proofs.stops.root_at.Goals as goal

pub returns : goal.returns
returns g c = λ ns e.
    let route = c.args.route.now in
    let stops = rw c.deref.ensures.0 at c.in-Some.ensures.lookup in
    let names = rw c.deref-2.ensures.0 at c.in-Some-get.ensures.lookup in
    let here = stop_here route.names.items ns route.stops.items c.args.i c.in-Some.stop.now c.in-Some-get.name.now e stops.3.0 stops.1 names.3.0 names.1 in
    c.root.ensures ∙ sym (ap (option_and_then (tree_in (g.T.Stops.bundles c.args.shelves c.args.icudata))) here)

pub returns-in_default-get : goal.returns-in_default-get
returns-in_default-get g c = λ ns e.
    let route = c.args.route.now in
    let stops = rw c.deref.ensures.0 at c.in-Some.ensures.lookup in
    let far : length route.names.items ≤ c.in-Some.stop.now =
    ltb-false _ _ (sym (rw c.deref-2.ensures.0 at c.in_default-get.ensures.lookup).0) in
    let here = stop_beyond route.names.items ns route.stops.items c.args.i c.in-Some.stop.now e stops.3.0 stops.1 far in
    sym (ap (option_and_then (tree_in (g.T.Stops.bundles c.args.shelves c.args.icudata))) here)
