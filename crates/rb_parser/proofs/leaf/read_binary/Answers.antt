use Rattle.rb_parser.proofs.Leaves.{bytes_read, no_bytes, bytes_some, bytes_none}
use Rattle.rb_parser.proofs.leaf.read_binary.Goals as goal

pub returns-in-Some-2-clause-exact : goal.returns-in-Some-2-clause-exact
returns-in-Some-2-clause-exact c =
    rw c.from_vec-in-Some-2.ensures (bytes_read c.args.cursor.now.rest c.take_text.new.self.rest c.in-Some.text c.in-Some-2.bytes.items
    (rw c.in-Some.is at c.in_ok-text.ensures.text) (rw c.in-Some.is at c.in_ok-text.ensures.rest)
    (bytes_some c.in_ok-bytes.field-0 c.in-Some-2.bytes c.as_slice.result.now c.in-Some.text c.in_ok-bytes.ensures c.in-Some-2.is c.as_slice.ensures))

pub returns-clause-exact : goal.returns-clause-exact
returns-clause-exact c = λ other.
    no_bytes c.args.cursor.now.end c.args.cursor.now.rest c.in-Some.text c.fault-bad.result (rw c.in-Some.is at c.in_ok-text.ensures.text)
    (bytes_none c.in_ok-bytes.field-0 c.as_slice.result.now c.in-Some.text c.in_ok-bytes.ensures c.in-None.is c.as_slice.ensures)
    c.fault-bad.ensures.kind c.fault-bad.ensures.line
