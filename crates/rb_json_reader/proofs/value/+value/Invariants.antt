use Rattle.std.proofs.Common.{◌+◌, ◌*◌, ◌≤◌, ◌∷◌, All, length}
use Rattle.std.specs.Prelude.{option_map}
use Rattle.json.specs.Token.{key}
use Rattle.rb_json_reader.proofs.Values.{ArraySoFar, TableSoFar, pending}
use Rattle.rb_tree.specs.Keys.{IsKey}
use Rattle.rb_tree.specs.Table.{keys_in}
use Rattle.rb_json_reader.proofs.value.+value.Given as goal

abbrev pub decreases-read_value : goal.decreases-read_value
decreases-read_value l = 4 * l.depth

abbrev pub decreases-read_array : goal.decreases-read_array
decreases-read_array l = 4 * l.depth + 3

abbrev pub decreases-read_object : goal.decreases-read_object
decreases-read_object l = 4 * l.depth + 3

abbrev pub decreases-read_table : goal.decreases-read_table
decreases-read_table l = 4 * l.depth + 2

abbrev pub invariant-read_array-loop-alloc : goal.invariant-read_array-loop-alloc
invariant-read_array-loop-alloc l =
    ArraySoFar l.fn.input.reader l.trees.items l.input.reader × (length l.input.reader ≤ length l.fn.input.reader)

abbrev pub decreases-read_array-loop-alloc : goal.decreases-read_array-loop-alloc
decreases-read_array-loop-alloc l = length l.input.reader

abbrev pub invariant-read_table-loop-next : goal.invariant-read_table-loop-next
invariant-read_table-loop-next l =
    All IsKey (keys_in l.rows.pairs.items)
    × (length l.input.reader ≤ length l.fn.input.reader)
    × TableSoFar (key l.fn.name ∷ l.fn.input.reader) l.rows.pairs.items (pending (option_map (λ s. s.now) l.next) l.input.reader)

abbrev pub decreases-read_table-loop-next : goal.decreases-read_table-loop-next
decreases-read_table-loop-next l = length l.input.reader
