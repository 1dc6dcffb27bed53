use Rattle.std.proofs.Common.{◌+◌, ◌<◌, ℕ, List, Some, sym, ap, ◌∙◌, arith}
use Rattle.std.specs.Prelude.{slice_get}
use Rattle.rb_tree.specs.Resource.{Resource}
use Rattle.rb_format.specs.Place.{word_at}
use Rattle.rb_format.specs.Geometry.{key_offset}
use Rattle.rb_views.specs.Trees.{item_tree, key_from}
use Rattle.rb_views.proofs.Values.{values_length, values_at, values_map}
use Rattle.rb_views.proofs.Readings.{laid_room}
use Rattle.rb_views.proofs.Containers.{table_room, table_child}
use Rattle.rb_views.proofs.table.Table.item.Goals as goal

pub item-requires : goal.item-requires
item-requires c =
    let s = c.args.self in
    let h : c.args.i < s.parts.count = rw values_length at c.requires in
    let a = table_room s.body.now s.parts s.stands in
    let r = laid_room s.body.now s.laid in
    omega arith

pub invariant_of-result : goal.invariant_of-result
invariant_of-result c =
    let s = c.args.self in
    let h : c.args.i < s.parts.count = rw values_length at c.requires in
    record { laid = s.laid; marked = s.marked; stands = rw c.item.ensures (table_child s.body.now s.parts c.args.i s.stands h) }

pub returns-clause-tree : goal.returns-clause-tree
returns-clause-tree c =
    let s = c.args.self in
    let h : c.args.i < s.parts.count = rw values_length at c.requires in
    let name = λ (i : ℕ). key_from s.body.now (key_offset s.body.now s.parts.keys i) in
    let tree = λ (i : ℕ). item_tree s.body.now (word_at s.body.now (s.parts.first + i)) in
    ap (λ (w : ℕ). Some (item_tree s.body.now w)) c.item.ensures
    ∙ sym (ap (λ (ts : List Resource). slice_get ts c.args.i) (values_map (λ (e : List ℕ × Resource). e.1) (λ (i : ℕ). (name i, tree i)) 0 s.parts.count)
    ∙ values_at tree s.parts.count c.args.i h)
