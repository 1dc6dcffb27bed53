use Rattle.std.proofs.Common.{◌≡◌, ℕ, ◌+◌, ◌*◌, ◌≤◌, length}
use Rattle.json.specs.Json.{items, members, value, parse_map}
use Rattle.serde_json.specs.Data.{Items, Members, no_members}
use Rattle.serde_json.specs.Read.{of_items, of_members, converted}
use Rattle.rb_requests.proofs.member.+read_value.Given as goal

abbrev pub decreases-read_after : goal.decreases-read_after
decreases-read_after l = 3 * l.depth

abbrev pub decreases-read_value : goal.decreases-read_value
decreases-read_value l = 3 * l.depth + 1

abbrev pub decreases-pass_items : goal.decreases-pass_items
decreases-pass_items l = 3 * l.depth + 2

abbrev pub decreases-pass_members : goal.decreases-pass_members
decreases-pass_members l = 3 * l.depth + 2

-- `before` prepends the items that were skipped to the remaining ones, which take at most `turns` turns
abbrev pub invariant-pass_items-items : goal.invariant-pass_items-items
invariant-pass_items-items l = record {
  turns : ℕ;
  before : Items → Items;
  enough : length l.reader ≤ turns;
  read : converted of_items (items (value l.depth) (length l.initial.reader) l.initial.reader)
      ≡ parse_map before (converted of_items (items (value l.depth) turns l.reader));
  shorter : length l.reader ≤ length l.initial.reader;
}

abbrev pub decreases-pass_items-items : goal.decreases-pass_items-items
decreases-pass_items-items l = length l.reader

-- `found` has the members that were skipped, and the remaining tokens take at most `turns` turns
abbrev pub invariant-pass_members-members : goal.invariant-pass_members-members
invariant-pass_members-members l = record {
  turns : ℕ;
  found : Members;
  enough : length l.reader ≤ turns;
  read : converted (λ ms. of_members ms no_members) (members (value l.depth) (length l.initial.reader) l.initial.reader)
      ≡ converted (λ ms. of_members ms found) (members (value l.depth) turns l.reader);
  shorter : length l.reader ≤ length l.initial.reader;
}

abbrev pub decreases-pass_members-members : goal.decreases-pass_members-members
decreases-pass_members-members l = length l.reader
