use Rattle.std.proofs.Common.{ap, sym, ◌∙◌}
use Rattle.std.specs.Result.{result_ok}
use Rattle.rb_fallback.proofs.Texts.{located_named}
use Rattle.rb_fallback.proofs.alias.located.Goals as goal

pub returns-in-Ok : goal.returns-in-Ok
returns-in-Ok g c =
    let end = c.segment_end-past.ensures in
    let is = sym c.read_part.ensures ∙ ap result_ok c.in-Ok.is in
    c.with_path.ensures
    ∙ sym (located_named (g.N.Node.tree c.args.node) c.args.icudata c.args.from _ _ c.requires.units end.place end.within c.if-past-from.false is)

pub returns-in-Err : goal.returns-in-Err
returns-in-Err g c =
    let end = c.segment_end-past.ensures in
    let is = sym c.read_part.ensures ∙ ap result_ok c.in-Err.is in
    sym (located_named (g.N.Node.tree c.args.node) c.args.icudata c.args.from _ _ c.requires.units end.place end.within c.if-past-from.false is)
