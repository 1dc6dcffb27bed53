use Rattle.std.proofs.Common.{◌+◌, ◌≤◌, ◌<◌, ap, ◌∙◌, arith}
use Rattle.rb_tree.specs.Path.{is_segment_unit}
use Rattle.rb_format.specs.Place.{half_at}
use Rattle.rb_views.proofs.Values.{values_length, values_index}
use Rattle.rb_views.proofs.leaves.Units.segment_run.Goals as goal

pub overflow_add-at : goal.overflow_add-at
overflow_add-at c = let h : c.args.from ≤ c.args.self.count = rw values_length at c.requires.within in omega arith

pub overflow_sub-left : goal.overflow_sub-left
overflow_sub-left c = rw values_length at c.requires.within

pub returns-clause-within : goal.returns-clause-within
returns-clause-within c =
    let h : c.args.from ≤ c.args.self.count = rw values_length at c.requires.within in
    rw values_length (omega (arith, c.min.ensures))

pub returns-clause-run : goal.returns-clause-run
returns-clause-run c = λ i low high.
    let s = c.args.self in
    let h : c.args.from ≤ s.count = rw values_length at c.requires.within in
    let inside : i < s.count = omega (arith, c.min.ensures) in
    ap is_segment_unit (values_index (half_at s.body.now) s.first s.count i inside)
    ∙ c.requires.marked (s.first + i) (c.marked_run.ensures (s.first + i) (omega arith) (omega (arith, c.min.ensures)))
