use Rattle.std.proofs.Common.{[], rules, take}
use Rattle.json.specs.Print.{escape}
use Rattle.rb_json.proofs.spell.put_front.Goals as goal

pub returns-then-run-eq0-clause-taken : goal.returns-then-run-eq0-clause-taken
returns-then-run-eq0-clause-taken g c =
    let told : g.O.Outlet.takes c.skips.new.self c.put_escape.new.out (escape (take 1 c.args.bytes.now)) = search rules in
    g.met.O.Outlet.joined c.args.out.now c.skips.new.self c.put_escape.new.out [] _ c.if-skips.ensures told

pub returns-clause-taken : goal.returns-clause-taken
returns-clause-taken g c =
    let front = escape (take c.plain_len-run.result c.args.bytes.now) in
    let told : g.O.Outlet.takes c.skips.new.self c.put.new.self front = search rules in
    g.met.O.Outlet.joined c.args.out.now c.skips.new.self c.put.new.self [] front c.if-skips.ensures told
