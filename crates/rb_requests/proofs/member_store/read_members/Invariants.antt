use Rattle.std.proofs.Common.{◌≡◌, ℕ, ◌≤◌, length}
use Rattle.json.specs.Json.{members, value}
use Rattle.serde_json.specs.Data.{Members, no_members}
use Rattle.serde_json.specs.Read.{converted, of_members}
use Rattle.rb_requests.proofs.member_store.read_members.Given as goal

-- `found` has the members that were read, and the remaining tokens take at most `turns` turns
abbrev pub invariant-members : goal.invariant-members
invariant-members g l = record {
  found : Members;
  turns : ℕ;
  enough : length l.reader ≤ turns;
  holds : g.S.MemberStore.holds l.store found;
  shorter : length l.reader ≤ length l.fn.reader;
  read : converted (λ ms. of_members ms no_members) (members (value l.depth) (length l.fn.reader) l.fn.reader)
      ≡ converted (λ ms. of_members ms found) (members (value l.depth) turns l.reader);
}

abbrev pub decreases-members : goal.decreases-members
decreases-members g l = length l.reader
