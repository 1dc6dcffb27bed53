use Rattle.std.proofs.Common.{◌≤◌, ap, length, not, arith}
use Rattle.std.proofs.str.Utf16.{utf16_chars-drop_all}
use Rattle.rb_tree.specs.Parts.{units_of}
use Rattle.rb_json.proofs.OfKinds.{units_len}
use Rattle.rb_json.proofs.spell.is_well_formed.Goals as goal

pub returns : goal.returns
returns g c =
    let t = g.N.Node.tree c.args.node in
    let over : length (units_of t) ≤ c.loop-at.at = omega (arith, units_len t c.requires, c.len-len.ensures, c.loop-at-test.false) in
    ap not (rw (utf16_chars-drop_all (units_of t) c.loop-at.at over) at c.loop-at.invariant)
