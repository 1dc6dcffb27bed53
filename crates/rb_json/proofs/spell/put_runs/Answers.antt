use Rattle.std.proofs.Common.{◌≤◌, length, arith}
use Rattle.rb_tree.specs.Parts.{units_of}
use Rattle.rb_json.proofs.OfKinds.{units_len}
use Rattle.rb_json.proofs.Spelling.{spells_more, spells_all}
use Rattle.rb_json.proofs.spell.put_runs.Goals as goal

pub loop-at-preserved : goal.loop-at-preserved
loop-at-preserved g c =
    let us = units_of (g.N.Node.tree c.args.node) in
    spells_more g.O.Outlet.takes g.met.O.Outlet.joined c.args.out.now c.loop-at.out c.put_run-at.new.out us c.loop-at.at c.put_run-at.result
    c.loop-at.invariant c.put_run-at.ensures.spelled

pub returns : goal.returns
returns g c =
    let t = g.N.Node.tree c.args.node in
    let over : length (units_of t) ≤ c.loop-at.at = omega (arith, units_len t c.requires, c.len-len.ensures, c.loop-at-test.false) in
    spells_all g.O.Outlet.takes g.met.O.Outlet.joined c.args.out.now c.loop-at.out (units_of t) c.loop-at.at c.loop-at.invariant over
