use Rattle.std.proofs.Common.{◌≡◌, ◌∙◌, ◌<◌, ◌≤◌, ℕ, List, ap, arith, length, refl, sym}
use Rattle.rb_inherit.proofs.Asked.{asked_all, asked_is, asked_none, asked_not}
use Rattle.rb_inherit.proofs.tree.found_at.Goals as goal
use Rattle.rb_inherit.proofs.tree.found_at.Goals.{then-is_next+in_ok-found, else-is_next}

pub loop-i-init : goal.loop-i-init
loop-i-init g c = record {
  asked = asked_none g.T.N.Node.tree (length c.args.place.now.keys.items) c.args.key.now c.args.from c.args.place.now.layers.items;
  keys = refl;
}

pub loop-i-preserved : goal.loop-i-preserved
loop-i-preserved g c =
    let tree = g.T.N.Node.tree in
    let old = c.args.place.now.layers.items in
    let now = c.loop-i.place in
    let used = length c.args.place.now.keys.items in
    let lt : c.loop-i.i < length old = omega arith in
    elim c.if-is_next.branch [
      | then-is_next+in_ok-found w ↦
          let keys : length now.keys.items ≡ used = ap (λ (l : List ℕ). length l) c.loop-i.invariant.keys in
          let adds = rw keys at w.in_ok-found.ensures.adds in
          rw (w.found-is, w.place-is) (record {
            asked = asked_is tree used c.args.key.now c.args.from old c.loop-i.i c.loop-i.found _ now.layers.items w.take_at.new.place.layers.items
                c.loop-i.invariant.asked c.requires lt (sym c.is_next.ensures ∙ w.if-is_next.true) adds;
            keys = w.in_ok-found.ensures.keys ∙ c.loop-i.invariant.keys;
          })
      | else-is_next w ↦
          rw (w.found-is, w.place-is) (record {
            asked = asked_not tree used c.args.key.now c.args.from old c.loop-i.i c.loop-i.found now.layers.items
                c.loop-i.invariant.asked c.requires lt (sym c.is_next.ensures ∙ w.if-is_next.false);
            keys = c.loop-i.invariant.keys;
          })
    ]

pub returns : goal.returns
returns g c =
    let old = c.args.place.now.layers.items in
    let past : length old ≤ c.loop-i.i = omega arith in
    record {
      finds = asked_all g.T.N.Node.tree (length c.args.place.now.keys.items) c.args.key.now c.args.from old c.loop-i.i c.loop-i.found
          c.loop-i.place.layers.items c.loop-i.invariant.asked c.requires past;
      keys = c.loop-i.invariant.keys;
    }
