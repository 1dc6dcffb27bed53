use Rattle.std.proofs.Common.{◌≡◌, ◌-◌, Some, None, ◌∙◌, arith}
use Rattle.json.specs.Json.{read_key, value}
use Rattle.json.proofs.Grammar.{read_key-shorter}
use Rattle.serde_json.specs.Data.{put}
use Rattle.rb_requests.proofs.MembersRead.{member_read, member_refused, key_refused, members_over}
use Rattle.rb_requests.proofs.member_store.read_members.Goals as goal

pub members-preserved : goal.members-preserved
members-preserved g c =
    let l = c.members in
    let i = l.invariant in
    let k = c.in-Ok-Some.key.now in
    let s = c.next_key.new.self in
    let done = c.in-Ok.ensures in
    let d = done.ok.0 in
    let r = c.read_member.new.reader in
    let named : read_key l.reader ≡ Some (Some k, s) = grind arith in
    let less = read_key-shorter l.reader (Some k) s named in
    let lesser = done.shorter in record {
      found = put k d i.found;
      turns = i.turns - 1;
      enough = omega (arith, i.enough);
      shorter = omega (arith, i.shorter);
      holds = done.ok.2 i.found i.holds;
      read = i.read ∙ member_read (value c.args.depth) i.found i.turns k l.reader s r d (omega (arith, i.enough)) named done.ok.1;
    }

pub returns-in-Err-read_member-clause-err : goal.returns-in-Err-read_member-clause-err
returns-in-Err-read_member-clause-err g c invalid =
    let l = c.members in
    let i = l.invariant in
    let k = c.in-Ok-Some.key.now in
    let s = c.next_key.new.self in
    let named : read_key l.reader ≡ Some (Some k, s) = grind arith in
    i.read ∙ member_refused (value c.args.depth) i.found i.turns k l.reader s named (c.in-Err-read_member.ensures.err invalid)

pub returns-in-Ok-None-clause-ok : goal.returns-in-Ok-None-clause-ok
returns-in-Ok-None-clause-ok g c =
    let l = c.members in
    let i = l.invariant in
    let over : read_key l.reader ≡ Some (None, c.next_key.new.self) = grind arith in
    (i.found, i.holds, i.read ∙ members_over (value c.args.depth) i.found i.turns l.reader c.next_key.new.self i.enough over)

pub returns-in-Err-clause-err : goal.returns-in-Err-clause-err
returns-in-Err-clause-err g c invalid =
    let l = c.members in
    let i = l.invariant in
    let none : read_key l.reader ≡ None = grind arith in
    i.read ∙ key_refused (value c.args.depth) i.found i.turns l.reader none
