use Rattle.std.proofs.Common.{sym, arith}
use Rattle.rb_tree.specs.Parts.{units_of}
use Rattle.rb_locales.proofs.Narrowed.{units_len}
use Rattle.rb_fallback.proofs.Stretches.{plain_both, plain_whole}
use Rattle.rb_fallback.proofs.alias.units_plain.Goals as goal

pub returns-then-stop-len : goal.returns-then-stop-len
returns-then-stop-len g c =
    let t = g.N.Node.tree c.args.node in
    let us = units_of t in
    sym (plain_whole us c.min-stop.result (omega (arith, units_len t c.requires))
    (plain_both us c.stretches.at c.min-stop.result c.stretches.invariant.1 (c.are_plain.ensures.yes c.if-not-are_plain.false)))
