use Rattle.std.proofs.Common.{◌<◌, Some, sym, ap, ◌∙◌}
use Rattle.rb_format.specs.Place.{half_at}
use Rattle.rb_views.proofs.Values.{values_length, values_get}
use Rattle.rb_views.proofs.leaves.Units.at.Goals as goal

pub returns : goal.returns
returns c =
    let s = c.args.self in
    let h : c.args.i < c.args.self.count = rw values_length at c.requires in
    ap Some c.half_at.ensures ∙ sym (values_get (half_at s.body.now) s.first s.count c.args.i h)
