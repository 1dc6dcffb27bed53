use Rattle.std.proofs.Common.{◌≤◌, length}
use Rattle.rb_json_reader.proofs.Leaves.{Items, number_by}
use Rattle.rb_json_reader.proofs.leaf.read_list.Given as goal

abbrev pub invariant-loop-input : goal.invariant-loop-input
invariant-loop-input g l =
    Items (number_by g.E.Element.number) l.initial.input.reader l.elements.items l.input.reader × (length l.input.reader ≤ length l.initial.input.reader)

abbrev pub decreases-loop-input : goal.decreases-loop-input
decreases-loop-input g l = length l.input.reader
