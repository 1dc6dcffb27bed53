use Rattle.std.proofs.Common.{◌≡◌, ℕ, suc, ap, arith, refl, sym}
use Rattle.std.proofs.Math.ListN.{set}
use Rattle.std.proofs.lemmas.Option.{slice_get_read}
use Rattle.rb_inherit.proofs.place.Place.take_child.Goals as goal

pub returns-clause-some : goal.returns-clause-some
returns-clause-some g c =
    let layer = c.in-Some.layer.now in
    let next : c.saturating_add-layer.result ≡ suc layer.at = omega (arith, c.saturating_add-layer.ensures, c.in-Some-child.ensures.within) in
    record {
      layer = layer;
      at = slice_get_read c.args.self.now.layers.items _ c.args.i layer refl c.in-Some.ensures.item.3.0 c.in-Some.ensures.value;
      child = sym c.in-Some-child.ensures.child;
      level = refl;
      layers = ap (λ (n : ℕ). set c.args.self.now.layers.items c.args.i (record layer { at = n })) next;
    }
