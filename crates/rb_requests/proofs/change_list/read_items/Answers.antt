use Rattle.std.proofs.Common.{◌≡◌, ◌-◌, ◌<◌, length, None, ap, ◌∙◌, arith}
use Rattle.json.specs.Json.{parse_map, after_end_array, value}
use Rattle.serde_json.specs.Data.{no_items, item}
use Rattle.rb_requests.proofs.Members.{one_more_before}
use Rattle.rb_requests.proofs.MembersRead.{item_read, item_refused, items_over}
use Rattle.rb_requests.proofs.change_list.read_items.Goals as goal

pub returns-in-Err-clause-err : goal.returns-in-Err-clause-err
returns-in-Err-clause-err c invalid =
    let l = c.items in
    let i = l.invariant in
    let going : (after_end_array l.reader ≡ None) × (c.take_end_array.new.self ≡ l.reader) = grind arith in
    i.read ∙ ap (parse_map i.before) (item_refused (value c.args.depth) i.turns l.reader going.0 (rw (← going.1) (c.in-Err.ensures.err invalid)))

pub items-preserved : goal.items-preserved
items-preserved c =
    let p = value c.args.depth in
    let l = c.items in
    let i = l.invariant in
    let going : (after_end_array l.reader ≡ None) × (c.take_end_array.new.self ≡ l.reader) = grind arith in
    let done = c.in-Ok.ensures in
    let d = done.ok.0 in
    let r = c.read_change.new.reader in
    let less : length r < length l.reader = rw (← going.1) done.shorter in
    let turn = item_read p i.turns l.reader r d (omega (arith, i.enough)) going.0 (rw (← going.1) done.ok.2) in record {
      turns = i.turns - 1;
      before = λ ds. i.before (item d ds);
      enough = omega (arith, i.enough);
      read = i.read ∙ ap (parse_map i.before) turn ∙ one_more_before i.before d _;
      seen = c.in-Ok-add.ensures i.before d done.ok.1 i.seen;
      shorter = omega (arith, i.shorter);
    }

pub returns-clause-ok : goal.returns-clause-ok
returns-clause-ok c =
    let l = c.items in
    let i = l.invariant in
    let over = items_over (value c.args.depth) i.turns l.reader c.take_end_array.new.self i.enough (grind arith) in
    (i.before no_items, c.into_changes.ensures i.before i.seen, i.read ∙ ap (parse_map i.before) over)
