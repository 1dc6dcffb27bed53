use Rattle.std.proofs.Common.{sym, ap, ◌∙◌, arith}
use Rattle.rb_tree.specs.Path.{is_slash}
use Rattle.rb_tree.proofs.Paths.{both_true}
use Rattle.rb_fallback.proofs.AliasScans.{locale_path, not_true}
use Rattle.rb_fallback.proofs.alias.leads_to_path.Goals as goal

pub returns : goal.returns
returns g c = λ yes valid.
    let len = c.len-len.result in
    let both = both_true _ _ yes in
    locale_path (g.N.Node.tree c.args.node) c.requires len c.len-len.ensures (omega (arith, c.if-len-lt24.false))
    (sym c.is_word.ensures ∙ c.if-not-is_word.false)
    (λ i l h. c.blocks_ok-followed.ensures both.0 i l (omega (arith, c.len-len.ensures, h)))
    (ap is_slash (sym c.unit.ensures) ∙ not_true (is_slash c.unit.result) both.1)
    valid
