use Rattle.std.proofs.Common.{◌∙◌, ℤ, subst, rules, FitsSigned, w32, w64}
use Rattle.std.proofs.lemmas.Int.{to_z-of_z}
use Rattle.serde_json.specs.Data.{number}
use Rattle.serde_json.specs.Find.{of_integer}
use Rattle.serde_json.specs.Written.{number_text}
use Rattle.rb_tree.specs.Parts.{numbers_of}
use Rattle.rb_json.specs.inner.Lines.{item_at}
use Rattle.rb_json.proofs.Laid.{number_told}
use Rattle.rb_json.proofs.Lists.{list_more, list_skipped}
use Rattle.rb_json.proofs.list.put_number_items.Goals as goal

pub loop-i-preserved : goal.loop-i-preserved
loop-i-preserved g c =
    let z = c.number.result in
    let fits : FitsSigned w32 z = search rules in
    let fits_long : FitsSigned w64 c.from.result = search rules in
    let same = to_z-of_z w64 c.from.result fits_long ∙ (c.from.ensures ∙ to_z-of_z w32 z fits) in
    let spelled = subst (λ (n : ℤ). g.O.Outlet.takes c.put_line.new.out c.spell_integer.new.out (number_text (of_integer n))) same c.spell_integer.ensures in
    let told = number_told g.O.Outlet.takes g.met.O.Outlet.joined c.skips_items.new.out c.put_line.new.out c.spell_integer.new.out c.args.layout c.args.depth
    (of_integer z) c.put_line.ensures spelled in
    list_more g.O.Outlet.takes g.met.O.Outlet.joined c.args.out.now c.loop-i.out c.skips_items.new.out c.spell_integer.new.out
    (λ n. item_at c.args.layout c.args.depth (number (of_integer n))) (numbers_of (g.N.Node.tree c.args.node)) c.loop-i.i z c.loop-i.invariant c.if-skips_items.ensures told c.number.ensures

pub returns-then-skips_items : goal.returns-then-skips_items
returns-then-skips_items g c =
    list_skipped g.O.Outlet.takes g.met.O.Outlet.joined c.args.out.now c.loop-i.out c.skips_items.new.out
    (λ n. item_at c.args.layout c.args.depth (number (of_integer n))) (numbers_of (g.N.Node.tree c.args.node)) c.loop-i.i c.loop-i.invariant c.if-skips_items.ensures
