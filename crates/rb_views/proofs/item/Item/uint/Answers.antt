use Rattle.std.proofs.Common.{Some, sym, ap, ◌∙◌}
use Rattle.rb_views.proofs.Contents.{int_there}
use Rattle.rb_views.proofs.TreeKinds.{uint_is}
use Rattle.rb_views.specs.Trees.{item_tree}
use Rattle.rb_views.proofs.item.Item.uint.Goals as goal

pub returns-in-Int : goal.returns-in-Int
returns-in-Int c =
    let s = c.args.self in
    let k = sym c.kind_here.ensures ∙ c.in-Int.is in
    ap Some (c.item_offset.ensures ∙ sym (int_there s.body.now s.word s.stands k)) ∙ sym (uint_is (item_tree s.body.now s.word) k)
