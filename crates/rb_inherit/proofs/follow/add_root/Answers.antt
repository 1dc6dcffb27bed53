use Rattle.std.proofs.Common.{◌≡◌, ap, arith, false, length}
use Rattle.rb_tree.specs.Path.{segments}
use Rattle.rb_parents.specs.Trail.{stops}
use Rattle.rb_inherit.specs.Merged.{at_path, room_below}
use Rattle.rb_inherit.specs.inner.Trails.{IsKept}
use Rattle.rb_inherit.proofs.Roots.{ok_decides, root_adds}
use Rattle.rb_inherit.proofs.follow.add_root.Goals as goal

pub returns-clause-decides : goal.returns-clause-decides
returns-clause-decides g c = λ new path parts.
    let tree = g.T.N.Node.tree in
    let old = c.args.place.now in
    let bundles = g.T.Stops.bundles c.args.shelves in
    let parents = g.T.Stops.parents c.args.shelves in
    let level = c.level_from-level.result in
    let after = c.in_ok-after.after in
    let now = c.add_level.new.place.layers.items in
    let last = c.add_after.new.place.layers.items in
    let kept : IsKept tree bundles parents old.trail = λ known. absurd (let no = new.trail in cc) in
    let begin : c.len-begin.result ≡ length old.paths.items = omega (arith, c.len-begin.ensures, old.paths.ok.0) in
    let adds =
    root_adds tree bundles parents c.args.name.now c.args.path.now old.paths.items old.keys.items c.push_text.new.path.items level c.len-begin.result
    after.found after.link old.layers.items now (IsKept tree bundles parents old.trail) c.in-Ok.ensures begin
    c.level_from-level.ensures.icudata c.level_from-level.ensures.path_at c.level_from-level.ensures.path_len c.level_from-level.ensures.most new.keys new.layers
    path parts kept c.in_ok-after.ensures.adds in
    ok_decides tree (at_path (room_below (length c.args.path.now)) (bundles false) (stops (bundles false) parts.ns) (segments c.args.path.now)) after.found after.link now last c.add_after.result parts.some adds c.add_after.ensures.stays c.add_after.ensures.closed
    c.add_after.ensures.layers c.add_after.ensures.none (λ e. ap (λ p. p.layers.items) (c.add_after.ensures.stay e))
    c.add_after.ensures.refuses
