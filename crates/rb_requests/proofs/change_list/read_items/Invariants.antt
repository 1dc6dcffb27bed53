use Rattle.std.proofs.Common.{◌≡◌, ℕ, ◌≤◌, length}
use Rattle.json.specs.Json.{items, value, parse_map}
use Rattle.serde_json.specs.Data.{Items}
use Rattle.serde_json.specs.Read.{of_items, converted}
use Rattle.rb_requests.specs.inner.ChangesRead.{AreSoFar}
use Rattle.rb_requests.proofs.change_list.read_items.Given as goal

-- `before` prepends the items that were read to the remaining ones, which take at most `turns` turns
abbrev pub invariant-items : goal.invariant-items
invariant-items l = record {
  turns : ℕ;
  before : Items → Items;
  enough : length l.reader ≤ turns;
  read : converted of_items (items (value l.depth) (length l.fn.reader) l.fn.reader)
      ≡ parse_map before (converted of_items (items (value l.depth) turns l.reader));
  seen : AreSoFar l.so_far before;
  shorter : length l.reader ≤ length l.fn.reader;
}

abbrev pub decreases-items : goal.decreases-items
decreases-items l = length l.reader
