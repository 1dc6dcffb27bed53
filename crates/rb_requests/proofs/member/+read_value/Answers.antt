use Rattle.std.proofs.Common.{◌≡◌, ◌-◌, ◌<◌, [], ◌∷◌, length, Some, None, ap, ap₂, ◌∙◌, arith, refl}
use Rattle.json.specs.Json.{parse_map, after_end_array, read_key, value}
use Rattle.json.specs.Reads.{token_of}
use Rattle.json.proofs.Grammar.{value_is, read_key-shorter}
use Rattle.serde_json.specs.Data.{null, boolean, string, array, object, no_items, no_members, item, put}
use Rattle.serde_json.specs.Read.{of_json, converted}
use Rattle.rb_requests.proofs.MembersRead.{item_read, item_refused, items_over, member_read, member_refused, key_refused, members_over}
use Rattle.rb_requests.proofs.Members.{one_more_before, none_before, at_an_error, array_after, object_after, number_in_range, number_out_of_range, boolean_read, null_read}
use Rattle.rb_requests.proofs.member.+read_value.Goals as goal

-- ---- the items of an array

pub pass_items-items-init : goal.pass_items-items-init
pass_items-items-init t c = record {
  turns = length c.args.reader.now;
  before = λ ds. ds;
  enough = omega arith;
  read = none_before _;
  shorter = omega arith;
}

pub pass_items-returns-in_err-_item-clause-err : goal.pass_items-returns-in_err-_item-clause-err
pass_items-returns-in_err-_item-clause-err t c =
    let l = c.items in
    let i = l.invariant in
    let going : (after_end_array l.reader ≡ None) × (c.take_end_array.new.self ≡ l.reader) = grind arith in
    at_an_error c.from_residual.result (i.read ∙ ap (parse_map i.before) (item_refused (value c.args.depth) i.turns l.reader going.0 (rw (← going.1) c.in_err-_item.ensures.err)))

pub pass_items-items-preserved : goal.pass_items-items-preserved
pass_items-items-preserved t c =
    let p = value c.args.depth in
    let l = c.items in
    let i = l.invariant in
    let going : (after_end_array l.reader ≡ None) × (c.take_end_array.new.self ≡ l.reader) = grind arith in
    let done = c.in_ok-_item.ensures in
    let d = done.ok.0 in
    let r = c.read_value.new.reader in
    let less : length r < length l.reader = rw (← going.1) done.shorter in
    let turn = item_read p i.turns l.reader r d (omega (arith, i.enough)) going.0 (rw (← going.1) done.ok.2) in record {
      turns = i.turns - 1;
      before = λ ds. i.before (item d ds);
      enough = omega (arith, i.enough);
      read = i.read ∙ ap (parse_map i.before) turn ∙ one_more_before i.before d _;
      shorter = omega (arith, i.shorter);
    }

pub pass_items-returns-clause-ok : goal.pass_items-returns-clause-ok
pass_items-returns-clause-ok t c =
    let l = c.items in
    let i = l.invariant in
    (i.before no_items, i.read ∙ ap (parse_map i.before) (items_over (value c.args.depth) i.turns l.reader c.take_end_array.new.self i.enough (grind arith)))

-- ---- the members of an object

pub pass_members-members-init : goal.pass_members-members-init
pass_members-members-init t c =
    record { turns = length c.args.reader.now; found = no_members; enough = omega arith; read = refl; shorter = omega arith }

pub pass_members-returns-in_err-next_key-clause-err : goal.pass_members-returns-in_err-next_key-clause-err
pass_members-returns-in_err-next_key-clause-err t c =
    let l = c.members in
    let i = l.invariant in
    at_an_error c.from_residual.result (i.read ∙ key_refused (value c.args.depth) i.found i.turns l.reader c.in_err-next_key.ensures.value)

pub pass_members-returns-in_err-_member-clause-err : goal.pass_members-returns-in_err-_member-clause-err
pass_members-returns-in_err-_member-clause-err t c =
    let l = c.members in
    let i = l.invariant in
    let k = c.in-Some.field-0.now in
    let s = c.next_key.new.self in
    let named : read_key l.reader ≡ Some (Some k, s) = grind arith in
    at_an_error c.from_residual-in_err-_member.result (i.read ∙ member_refused (value c.args.depth) i.found i.turns k l.reader s named c.in_err-_member.ensures.err)

pub pass_members-members-preserved : goal.pass_members-members-preserved
pass_members-members-preserved t c =
    let l = c.members in
    let i = l.invariant in
    let k = c.in-Some.field-0.now in
    let s = c.next_key.new.self in
    let named : read_key l.reader ≡ Some (Some k, s) = grind arith in
    let done = c.in_ok-_member.ensures in
    let d = done.ok.0 in
    let r = c.read_value.new.reader in
    let less = read_key-shorter l.reader (Some k) s named in
    let lesser = done.shorter in record {
      turns = i.turns - 1;
      found = put k d i.found;
      enough = omega (arith, i.enough);
      read = i.read ∙ member_read (value c.args.depth) i.found i.turns k l.reader s r d (omega (arith, i.enough)) named done.ok.2;
      shorter = omega (arith, i.shorter);
    }

pub pass_members-returns-clause-ok : goal.pass_members-returns-clause-ok
pass_members-returns-clause-ok t c =
    let l = c.members in
    let i = l.invariant in
    (i.found, i.read ∙ members_over (value c.args.depth) i.found i.turns l.reader c.next_key.new.self i.enough (grind arith))

-- ---- a value

pub read_value-returns-in_err-token-clause-err : goal.read_value-returns-in_err-token-clause-err
read_value-returns-in_err-token-clause-err t c =
    let empty : c.args.reader.now ≡ [] = grind arith in
    at_an_error c.from_residual.result (ap (converted of_json) (ap (value c.args.depth) empty ∙ value_is c.args.depth []))

pub read_value-returns-clause-ok : goal.read_value-returns-clause-ok
read_value-returns-clause-ok t c =
    let first : c.args.reader.now ≡ token_of c.in_ok-token.token ∷ c.next.new.self = grind arith in
    rw first c.read_after.ensures.ok

pub read_value-returns-clause-err : goal.read_value-returns-clause-err
read_value-returns-clause-err t c =
    let first : c.args.reader.now ≡ token_of c.in_ok-token.token ∷ c.next.new.self = grind arith in
    rw first c.read_after.ensures.err

-- ---- a value after its first token

pub read_after-returns-then-depth-eq0-clause-err : goal.read_after-returns-then-depth-eq0-clause-err
unfolding value
read_after-returns-then-depth-eq0-clause-err t c =
    let none : c.args.depth ≡ 0 = omega arith in
    ap (converted of_json) (ap₂ value none (ap (λ k. token_of k ∷ c.args.reader.now) c.in-BeginArray.is))

pub read_after-returns-then-depth-eq0-2-clause-err : goal.read_after-returns-then-depth-eq0-2-clause-err
unfolding value
read_after-returns-then-depth-eq0-2-clause-err t c =
    let none : c.args.depth ≡ 0 = omega arith in
    ap (converted of_json) (ap₂ value none (ap (λ k. token_of k ∷ c.args.reader.now) c.in-BeginObject.is))

pub read_after-returns-in_err-pass_items-in-BeginArray-clause-err : goal.read_after-returns-in_err-pass_items-in-BeginArray-clause-err
read_after-returns-in_err-pass_items-in-BeginArray-clause-err t c =
    let opened = array_after c.args.depth c.args.token c.args.reader.now (ap token_of c.in-BeginArray.is) (omega arith) in
    at_an_error c.from_residual.result (opened ∙ ap (parse_map array) c.in_err-pass_items-in-BeginArray.ensures.err)

pub read_after-returns-in_err-pass_members-in-BeginObject-clause-err : goal.read_after-returns-in_err-pass_members-in-BeginObject-clause-err
read_after-returns-in_err-pass_members-in-BeginObject-clause-err t c =
    let opened = object_after c.args.depth c.args.token c.args.reader.now (ap token_of c.in-BeginObject.is) (omega arith) in
    at_an_error c.from_residual-in_err-pass_members-in-BeginObject.result (opened ∙ ap (parse_map object) c.in_err-pass_members-in-BeginObject.ensures.err)

pub read_after-returns-in-String-clause-ok : goal.read_after-returns-in-String-clause-ok
read_after-returns-in-String-clause-ok t c =
    let is = ap (λ k. token_of k ∷ c.args.reader.now) c.in-String.is in
    (string c.in-String.text.now, refl, ap (converted of_json) (ap (value c.args.depth) is ∙ value_is c.args.depth _))

pub read_after-returns-then-is_in_range-clause-ok : goal.read_after-returns-then-is_in_range-clause-ok
read_after-returns-then-is_in_range-clause-ok t c =
    let r = c.args.reader.now in
    number_in_range c.args.depth _ r c.in-Number.text.now (ap (λ k. token_of k ∷ r) c.in-Number.is) c.if-is_in_range.ensures

pub read_after-returns-else-is_in_range-clause-err : goal.read_after-returns-else-is_in_range-clause-err
read_after-returns-else-is_in_range-clause-err t c =
    let r = c.args.reader.now in
    number_out_of_range c.args.depth _ r c.in-Number.text.now (ap (λ k. token_of k ∷ r) c.in-Number.is) c.if-is_in_range.ensures

pub read_after-returns-in-Bool-clause-ok : goal.read_after-returns-in-Bool-clause-ok
read_after-returns-in-Bool-clause-ok t c =
    let r = c.args.reader.now in
    (boolean c.in-Bool.flag, refl, boolean_read c.args.depth _ r c.in-Bool.flag (ap (λ k. token_of k ∷ r) c.in-Bool.is))

pub read_after-returns-in-Null-clause-ok : goal.read_after-returns-in-Null-clause-ok
read_after-returns-in-Null-clause-ok t c =
    let r = c.args.reader.now in
    (null, (refl, refl), null_read c.args.depth _ r (ap (λ k. token_of k ∷ r) c.in-Null.is))

pub read_after-returns-in-EndObject-clause-err : goal.read_after-returns-in-EndObject-clause-err
read_after-returns-in-EndObject-clause-err t c =
    let ts = token_of c.args.token ∷ c.args.reader.now in
    let none : value c.args.depth ts ≡ None = rw (value_is c.args.depth ts) (grind arith) in
    ap (converted of_json) none

pub read_after-returns-in_ok-pass_items-in-BeginArray-clause-ok : goal.read_after-returns-in_ok-pass_items-in-BeginArray-clause-ok
read_after-returns-in_ok-pass_items-in-BeginArray-clause-ok t c =
    let opened = array_after c.args.depth c.args.token c.args.reader.now (ap token_of c.in-BeginArray.is) (omega arith) in
    let found = c.in_ok-pass_items-in-BeginArray.ensures.ok in
    (array found.0, (refl, refl), opened ∙ ap (parse_map array) found.1)

pub read_after-returns-in_ok-pass_members-in-BeginObject-clause-ok : goal.read_after-returns-in_ok-pass_members-in-BeginObject-clause-ok
read_after-returns-in_ok-pass_members-in-BeginObject-clause-ok t c =
    let opened = object_after c.args.depth c.args.token c.args.reader.now (ap token_of c.in-BeginObject.is) (omega arith) in
    let found = c.in_ok-pass_members-in-BeginObject.ensures.ok in
    (object found.0, (refl, refl), opened ∙ ap (parse_map object) found.1)
