use Rattle.std.proofs.Common.{◌≡◌, Some, to_z-of_z, sym, ap, ◌∙◌, arith}
use Rattle.std.specs.Prelude.{option_map}
use Rattle.std.specs.Int.{cast_signed, cast_unsigned, w32}
use Rattle.rb_views.specs.Parts.{signed}
use Rattle.rb_views.proofs.Contents.{int_there}
use Rattle.rb_views.proofs.TreeKinds.{uint_is}
use Rattle.rb_views.specs.Trees.{item_tree}
use Rattle.rb_views.proofs.item.Item.int.Goals as goal

pub returns-in-Int : goal.returns-in-Int
returns-in-Int c =
    let s = c.args.self in
    let k = sym c.kind_here.ensures ∙ c.in-Int.is in
    let number = c.item_offset.ensures ∙ sym (int_there s.body.now s.word s.stands k) in
    let same : cast_signed w32 (cast_unsigned w32 c.signed.result) ≡ c.signed.result = grind (arith, to_z-of_z) in
    ap Some (same ∙ c.signed.ensures ∙ ap signed number) ∙ sym (ap (option_map signed) (uint_is (item_tree s.body.now s.word) k))
