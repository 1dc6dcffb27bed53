use Rattle.std.proofs.Common.{◌+◌, ◌<◌, ℕ, Some, sym, ap, ◌∙◌, arith}
use Rattle.rb_format.specs.Place.{word_at}
use Rattle.rb_views.specs.Trees.{item_tree}
use Rattle.rb_views.proofs.Values.{values_length, values_at}
use Rattle.rb_views.proofs.Readings.{laid_room}
use Rattle.rb_views.proofs.Containers.{array_room, array_child}
use Rattle.rb_views.proofs.array.Array.item.Goals as goal

pub overflow_add-self : goal.overflow_add-self
overflow_add-self c = let h : c.args.i < c.args.self.count = rw values_length at c.requires in omega arith

pub word_at-requires : goal.word_at-requires
word_at-requires c =
    let s = c.args.self in
    let h : c.args.i < c.args.self.count = rw values_length at c.requires in
    let a = array_room s.body.now s.first s.count s.stands in
    let r = laid_room s.body.now s.laid in
    omega arith

pub invariant_of-result : goal.invariant_of-result
invariant_of-result c =
    let s = c.args.self in
    let h : c.args.i < c.args.self.count = rw values_length at c.requires in
    record { laid = s.laid; marked = s.marked; stands = rw c.word_at.ensures (array_child s.body.now s.first s.count c.args.i s.stands h) }

pub returns-clause-tree : goal.returns-clause-tree
returns-clause-tree c =
    let s = c.args.self in
    let h : c.args.i < c.args.self.count = rw values_length at c.requires in
    ap (λ (w : ℕ). Some (item_tree s.body.now w)) c.word_at.ensures
    ∙ sym (values_at (λ (i : ℕ). item_tree s.body.now (word_at s.body.now (s.first + i))) s.count c.args.i h)
