use Rattle.std.proofs.Common.{◌≤◌, drop, length, encode_utf8_all, append-nil, arith, rules, sym, take, zero-le}
use Rattle.std.specs.Char.Utf16.{utf16_lossy_chars}
use Rattle.std.proofs.str.Utf16.{utf16_chars-drop_all}
use Rattle.json.specs.Print.{escape}
use Rattle.rb_tree.specs.Parts.{units_of}
use Rattle.rb_json.specs.inner.Spelled.{Spells}
use Rattle.rb_json.proofs.OfKinds.{units_len}
use Rattle.rb_json.proofs.Runs.{run_front}
use Rattle.rb_json.proofs.Spelling.{spells_on}
use Rattle.rb_json.proofs.spell.put_run.Goals as goal

pub returns-then-skips-clause-spelled : goal.returns-then-skips-clause-spelled
returns-then-skips-clause-spelled g c =
    let t = g.N.Node.tree c.args.node in
    let us = units_of t in
    let text = encode_utf8_all (utf16_lossy_chars (drop c.args.at us)) in
    let over : length us ≤ c.args.len = omega (arith, units_len t c.requires.units, c.requires.len) in
    record {
      text = text;
      taken = c.if-skips.ensures (escape text) zero-le;
      front = rw (utf16_chars-drop_all us c.args.len over) (sym (append-nil text));
    }

pub returns-then-run-gt0-clause-spelled : goal.returns-then-run-gt0-clause-spelled
returns-then-run-gt0-clause-spelled g c =
    let us = units_of (g.N.Node.tree c.args.node) in
    let run = c.ascii_run-run in
    spells_on g.O.Outlet.takes g.met.O.Outlet.joined c.args.out.now c.skips.new.self c.put_escaped.new.out us c.args.at _ c.if-skips.ensures (record {
      text = take run.result run.new.block;
      taken = c.put_escaped.ensures;
      front = run_front us run.new.block c.args.at run.result run.ensures.run;
    })

pub returns-clause-spelled : goal.returns-clause-spelled
returns-clause-spelled g c =
    let us = units_of (g.N.Node.tree c.args.node) in
    let next = c.character_at-character.result.1 in
    let told : Spells (g.O.Outlet.takes c.skips.new.self c.put_character.new.out) us c.args.at next = search rules in
    spells_on g.O.Outlet.takes g.met.O.Outlet.joined c.args.out.now c.skips.new.self c.put_character.new.out us c.args.at next c.if-skips.ensures told
