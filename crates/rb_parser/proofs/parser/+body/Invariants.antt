use Rattle.std.proofs.Common.{◌+◌, ◌*◌, length}
use Rattle.rb_parser.proofs.Loops.{EntriesAt, ElementsAt}
use Rattle.rb_parser.proofs.parser.+body.Given as goal

abbrev pub decreases-read_body : goal.decreases-read_body
decreases-read_body l = 4 * l.depth

abbrev pub decreases-read_typed : goal.decreases-read_typed
decreases-read_typed l = 4 * l.depth + 3

abbrev pub decreases-read_untyped : goal.decreases-read_untyped
decreases-read_untyped l = 4 * l.depth + 3

abbrev pub decreases-read_table : goal.decreases-read_table
decreases-read_table l = 4 * l.depth + 2

abbrev pub decreases-read_rows : goal.decreases-read_rows
decreases-read_rows l = 4 * l.depth + 1

abbrev pub decreases-read_array : goal.decreases-read_array
decreases-read_array l = 4 * l.depth + 1

abbrev pub invariant-read_rows-entries : goal.invariant-read_rows-entries
invariant-read_rows-entries l = EntriesAt l.depth l.initial.cursor l.cursor l.rows.pairs.items l.rows.lines.items

abbrev pub decreases-read_rows-entries : goal.decreases-read_rows-entries
decreases-read_rows-entries l = length l.cursor.rest

abbrev pub invariant-read_array-elements : goal.invariant-read_array-elements
invariant-read_array-elements l = ElementsAt l.depth l.initial.cursor l.cursor l.trees.items

abbrev pub decreases-read_array-elements : goal.decreases-read_array-elements
decreases-read_array-elements l = length l.cursor.rest
