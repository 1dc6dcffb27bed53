use Rattle.std.proofs.Common.{◌<◌, length}
use Rattle.rb_format.specs.Geometry.{key_offset}
use Rattle.rb_views.proofs.Values.{values_length, is_some_from}
use Rattle.rb_views.proofs.Containers.{table_key, offset_fits}
use Rattle.rb_views.specs.Trees.{key_from}
use Rattle.rb_views.proofs.table.Table.compare.Goals as goal

pub offset-requires : goal.offset-requires
offset-requires c =
    let s = c.args.self in
    offset_fits s.parts c.args.i (length s.body.now) s.keys (rw values_length at c.requires)

pub compare_key-requires : goal.compare_key-requires
compare_key-requires c =
    let s = c.args.self in
    let h : c.args.i < s.parts.count = rw values_length at c.requires in
    rw c.offset.ensures (is_some_from _ (key_from s.body.now (key_offset s.body.now s.parts.keys c.args.i)) (table_key s.body.now s.parts c.args.i s.stands h))
