use Rattle.std.proofs.Common.{◌≡◌, ◌<◌, ap, arith, false, length, map, refl, subst, sym, true}
use Rattle.std.proofs.lemmas.List.{get_or_read}
use Rattle.rb_tree.specs.Walk.{ends, gone}
use Rattle.rb_inherit.specs.inner.AtPath.{AddsStops, parts_in, path_in}
use Rattle.rb_inherit.specs.inner.Earlier.{is_open_of}
use Rattle.rb_inherit.specs.inner.Paths.{steps_of}
use Rattle.rb_inherit.proofs.AtPath.{adds_there, asked_first, asked_gone, asked_item, asked_last, asked_link, link_there, path_is, rest_on, walk_there}
use Rattle.rb_inherit.proofs.Earliest.{grows_itself, grows_on, stays_itself, stays_on}
use Rattle.rb_inherit.proofs.follow.add_stops.Goals as goal
use Rattle.rb_inherit.proofs.follow.add_stops.Goals.{in-Gone, in-End+in_ok-found-in-End+else-not-is_open}

pub loop-i-init : goal.loop-i-init
loop-i-init g c = record {
  stays = stays_itself c.args.before;
  layers = grows_itself c.args.place.now.layers.items;
  rest = refl;
  asked = λ x.
      asked_first g.N.Node.tree (length c.args.place.now.keys.items) c.args.level.keys_most (steps_of (path_in c.args.place.now.paths.items c.args.level))
      c.args.place.now.trail.roots.items c.args.before c.args.place.now.layers.items x.is.is_open;
}

pub returns-then-not-is_open-clause-adds : goal.returns-then-not-is_open-clause-adds
returns-then-not-is_open-clause-adds g c = λ x.
    let tree = g.N.Node.tree in
    let old = c.args.place.now in
    let now = c.loop-i.place in
    let level = c.args.level in
    let root = c.index-root.result.now in
    let rest = c.loop-i.invariant.rest in
    let lt : c.loop-i.i < length old.trail.roots.items = omega (arith, c.loop-i-test.true, c.len-i-end.ensures) in
    let same = ap (λ p. p.trail.roots.items) rest in
    let at = rw same at (get_or_read now.trail.roots.items c.loop-i.i root (rw same lt) c.index-root.ensures root) in
    let path = path_is now.paths.items old.paths.items c.path.result.now level (ap (λ p. p.paths.items) rest) x.within c.path.ensures in
    let walked = walk_there (tree root) c.path.result.now (path_in old.paths.items level) (ends (tree c.in-End.node)) path x.filled c.in-End.ensures.ends in
    let asked = c.loop-i.invariant.asked x in
    let adds =
    adds_there tree now.keys.items old.keys.items c.in-End.node level c.loop-i.found c.in_ok-found-in-End.found now.layers.items c.add.new.self.layers.items
    (ap (λ p. p.keys.items) rest)
    (record { is = record { is_open = asked.is_open; short = x.is.short }; no_alias = c.in-End.ensures.is }) c.in_ok-found-in-End.ensures.adds in
    let closed : is_open_of c.in_ok-found-in-End.found ≡ false = sym c.if-not-is_open.ensures in
    subst (λ a. AddsStops tree (length old.keys.items) (parts_in level.keys_most (map tree old.trail.roots.items) (steps_of (path_in old.paths.items level)))
    c.args.before old.layers.items a.found a.link c.add.new.self.layers.items) (sym c.ended.ensures)
    (asked_last tree (length old.keys.items) level.keys_most (steps_of (path_in old.paths.items level)) old.trail.roots.items c.args.before old.layers.items
    c.loop-i.i root c.in-End.node level c.loop-i.found c.in_ok-found-in-End.found c.loop-i.is_missing now.layers.items c.add.new.self.layers.items
    asked lt at walked refl adds closed)

pub returns-in-Link-clause-adds : goal.returns-in-Link-clause-adds
returns-in-Link-clause-adds g c = λ x.
    let tree = g.N.Node.tree in
    let old = c.args.place.now in
    let now = c.loop-i.place in
    let level = c.args.level in
    let root = c.index-root.result.now in
    let rest = c.loop-i.invariant.rest in
    let lt : c.loop-i.i < length old.trail.roots.items = omega (arith, c.loop-i-test.true, c.len-i-end.ensures) in
    let same = ap (λ p. p.trail.roots.items) rest in
    let at = rw same at (get_or_read now.trail.roots.items c.loop-i.i root (rw same lt) c.index-root.ensures root) in
    let path = path_is now.paths.items old.paths.items c.path.result.now level (ap (λ p. p.paths.items) rest) x.within c.path.ensures in
    let link = link_there (tree root) (tree c.in-Link.node) c.path.result.now (path_in old.paths.items level) c.in-Link.rest path x.filled c.in-Link.ensures.ends in
    asked_link tree (length old.keys.items) level.keys_most (steps_of (path_in old.paths.items level)) old.trail.roots.items c.args.before old.layers.items
    c.loop-i.i root (record { node = c.in-Link.node; level = level; rest = c.in-Link.rest }) c.loop-i.found c.loop-i.is_missing now.layers.items
    link.units link.walked link.rest (c.loop-i.invariant.asked x) lt at link.is link.tree refl x.is.short

pub loop-i-preserved : goal.loop-i-preserved
loop-i-preserved g c =
    let tree = g.N.Node.tree in
    let old = c.args.place.now in
    let now = c.loop-i.place in
    let level = c.args.level in
    let root = c.index-root.result.now in
    let invariant = c.loop-i.invariant in
    let lt : c.loop-i.i < length old.trail.roots.items = omega (arith, c.loop-i-test.true, c.len-i-end.ensures) in
    let same = ap (λ p. p.trail.roots.items) invariant.rest in
    let at = rw same at (get_or_read now.trail.roots.items c.loop-i.i root (rw same lt) c.index-root.ensures root) in
    let paths = ap (λ p. p.paths.items) invariant.rest in
    elim c.match-walk_on.branch [
      | in-Gone w ↦
          rw (w.found-is, w.place-is, w.is_missing-is) (record {
            stays = invariant.stays;
            layers = invariant.layers;
            rest = invariant.rest;
            asked = λ x.
                asked_gone tree (length old.keys.items) level.keys_most (steps_of (path_in old.paths.items level)) old.trail.roots.items c.args.before
                old.layers.items c.loop-i.i root c.loop-i.found c.loop-i.is_missing now.layers.items (invariant.asked x) lt at
                (walk_there (tree root) c.path.result.now (path_in old.paths.items level) gone
                (path_is now.paths.items old.paths.items c.path.result.now level paths x.within c.path.ensures) x.filled w.in-Gone.ensures.ends);
          })
      | in-End+in_ok-found-in-End+else-not-is_open w ↦
          let found = w.in_ok-found-in-End.found in
          let open_still : is_open_of found ≡ true = cc in
          rw (w.found-is, w.place-is, w.is_missing-is) (record {
            stays = stays_on c.args.before c.loop-i.found found invariant.stays w.in_ok-found-in-End.ensures.stays;
            layers = grows_on old.layers.items now.layers.items w.add.new.self.layers.items invariant.layers w.in_ok-found-in-End.ensures.layers;
            rest = rest_on old now w.add.new.self w.in_ok-found-in-End.ensures.rest invariant.rest;
            asked = λ x.
                let asked = invariant.asked x in
                asked_item tree (length old.keys.items) level.keys_most (steps_of (path_in old.paths.items level)) old.trail.roots.items c.args.before
                old.layers.items c.loop-i.i root w.in-End.node level c.loop-i.found found c.loop-i.is_missing now.layers.items w.add.new.self.layers.items
                asked lt at
                (walk_there (tree root) c.path.result.now (path_in old.paths.items level) (ends (tree w.in-End.node))
                (path_is now.paths.items old.paths.items c.path.result.now level paths x.within c.path.ensures) x.filled w.in-End.ensures.ends)
                refl
                (adds_there tree now.keys.items old.keys.items w.in-End.node level c.loop-i.found found now.layers.items w.add.new.self.layers.items
                (ap (λ p. p.keys.items) invariant.rest)
                (record { is = record { is_open = asked.is_open; short = x.is.short }; no_alias = w.in-End.ensures.is })
                w.in_ok-found-in-End.ensures.adds)
                open_still;
          })
    ]
