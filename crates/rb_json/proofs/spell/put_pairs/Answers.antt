use Rattle.std.proofs.Common.{◌<◌, [], length, arith}
use Rattle.rb_tree.specs.Parts.{bytes_of}
use Rattle.rb_json.proofs.OfKinds.{as_many_bytes}
use Rattle.rb_json.proofs.Spelling.{no_pairs, pairs_more, pairs_skipped}
use Rattle.rb_json.proofs.spell.put_pairs.Goals as goal

pub loop-i-init : goal.loop-i-init
loop-i-init g c =
    no_pairs g.O.Outlet.takes g.met.O.Outlet.joined c.args.out.now (bytes_of (g.N.Node.tree c.args.node)) (g.met.O.Outlet.nothing c.args.out.now)

pub loop-i-preserved : goal.loop-i-preserved
loop-i-preserved g c =
    let t = g.N.Node.tree c.args.node in
    let i = c.loop-i.i in
    let inside : i < length (bytes_of t) = omega (arith, as_many_bytes t c.requires, c.len-len.ensures, c.loop-i-test.true) in
    let two = g.met.O.Outlet.joined c.loop-i.out c.skips.new.self c.put_escaped.new.out [] _ c.if-skips.ensures c.put_escaped.ensures in
    pairs_more g.O.Outlet.takes g.met.O.Outlet.joined c.args.out.now c.loop-i.out c.put_escaped.new.out (bytes_of t) i
    c.loop-i.invariant (rw (c.digit.ensures.is, c.digit-in-loop-i.ensures.is, c.byte-byte.ensures) at two) inside

pub returns-then-skips : goal.returns-then-skips
returns-then-skips g c =
    pairs_skipped g.O.Outlet.takes g.met.O.Outlet.joined c.args.out.now c.loop-i.out c.skips.new.self (bytes_of (g.N.Node.tree c.args.node)) c.loop-i.i
    c.loop-i.invariant c.if-skips.ensures
