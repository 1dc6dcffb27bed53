use Rattle.std.proofs.Common.{◌≡◌, ◌+◌, ◌<◌, ℕ, List, Option, Some, None, length, sym, ◌∙◌}
use Rattle.rb_format.specs.Place.{word_at, key, layout_of}
use Rattle.rb_format.specs.Geometry.{key_offset}
use Rattle.rb_views.specs.Trees.{item_tree, key_from}
use Rattle.rb_views.proofs.Values.{values_length, first_at}
use Rattle.rb_views.proofs.Containers.{table_key, offset_fits}
use Rattle.rb_views.proofs.table.Table.key.Goals as goal

pub offset-requires : goal.offset-requires
offset-requires c =
    let s = c.args.self in
    offset_fits s.parts c.args.i (length s.body.now) s.keys (rw values_length at c.requires)

none_some : (k : List ℕ) → ◌≡◌ {A = Option (List ℕ)} None (Some k) → ⊥
none_some k e = cc

some_is : (a b : List ℕ) → ◌≡◌ {A = Option (List ℕ)} (Some a) (Some b) → a ≡ b
some_is a b e = cc

pub unreachable-requires : goal.unreachable-requires
unreachable-requires c =
    let s = c.args.self in
    let h : c.args.i < s.parts.count = rw values_length at c.requires in
    let t = table_key s.body.now s.parts c.args.i s.stands h in
    let e : ◌≡◌ {A = Option (List ℕ)} None (key (layout_of s.body.now) s.body.now (key_offset s.body.now s.parts.keys c.args.i)) =
    rw (← c.offset.ensures, ← c.of-layout.ensures) c.in-None.ensures in
    none_some _ (e ∙ t)

pub returns-clause-key : goal.returns-clause-key
returns-clause-key c =
    let s = c.args.self in
    let h : c.args.i < s.parts.count = rw values_length at c.requires in
    let t = table_key s.body.now s.parts c.args.i s.stands h in
    let e : ◌≡◌ {A = Option (List ℕ)} (Some c.in-Some.key.now)
    (key (layout_of s.body.now) s.body.now (key_offset s.body.now s.parts.keys c.args.i)) = rw (← c.offset.ensures, ← c.of-layout.ensures)
    c.in-Some.ensures in
    let name = λ (i : ℕ). key_from s.body.now (key_offset s.body.now s.parts.keys i) in
    let tree = λ (i : ℕ). item_tree s.body.now (word_at s.body.now (s.parts.first + i)) in
    e ∙ t ∙ sym (first_at name tree s.parts.count c.args.i h)
