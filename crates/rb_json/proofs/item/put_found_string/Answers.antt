use Rattle.std.proofs.Common.{◌≤◌, [], length, arith}
use Rattle.serde_json.specs.Written.{compact_text}
use Rattle.rb_json.specs.Item.{found_data}
use Rattle.rb_tree.specs.Parts.{units_of}
use Rattle.rb_json.proofs.AtLeast.{found-le}
use Rattle.rb_json.proofs.OfKinds.{string_len}
use Rattle.rb_json.proofs.Plain.{whole_text, whole_units}
use Rattle.rb_json.proofs.item.put_found_string.Goals as goal

pub returns-then-skips : goal.returns-then-skips
returns-then-skips g c =
    let t = g.N.Node.tree c.args.node in
    let actual = c.args.actual.now in
    let valid = c.args.valid.now in
    c.if-skips.ensures (compact_text (found_data actual valid t)) (omega (arith, found-le actual valid t c.requires, c.len-len.ensures))

pub returns : goal.returns
returns g c =
    g.met.O.Outlet.joined c.args.out.now c.skips.new.self c.put_found_text-2.new.out [] _ c.if-skips.ensures c.put_found_text-2.ensures

pub returns-then-not-is_well_formed : goal.returns-then-not-is_well_formed
returns-then-not-is_well_formed g c =
    g.met.O.Outlet.joined c.args.out.now c.skips.new.self c.put_found_members.new.out [] _ c.if-skips.ensures c.put_found_members.ensures

pub put_found_text-requires-clause-whole : goal.put_found_text-requires-clause-whole
put_found_text-requires-clause-whole g c =
    let t = g.N.Node.tree c.args.node in
    let run = c.plain_run-run in
    let over : length (units_of t) ≤ run.result = omega (arith, string_len t c.requires, c.len-len.ensures, c.if-run-len.true) in
    whole_units (units_of t) run.new.block run.result run.ensures.run over

pub put_found_text-requires-clause-plain : goal.put_found_text-requires-clause-plain
put_found_text-requires-clause-plain g c =
    let t = g.N.Node.tree c.args.node in
    let run = c.plain_run-run in
    let over : length (units_of t) ≤ run.result = omega (arith, string_len t c.requires, c.len-len.ensures, c.if-run-len.true) in
    whole_text (units_of t) run.new.block run.result run.ensures.run over run.ensures.plain

pub returns-then-run-len : goal.returns-then-run-len
returns-then-run-len g c =
    g.met.O.Outlet.joined c.args.out.now c.skips.new.self c.put_found_text.new.out [] _ c.if-skips.ensures c.put_found_text.ensures
