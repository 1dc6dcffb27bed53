use Rattle.std.proofs.Common.{[], ◌∙◌, codes, sym, subst, arith}
use Rattle.serde_json.specs.Data.{Data}
use Rattle.rb_tree.specs.Parts.{units_of}
use Rattle.rb_json.specs.Laid.{laid_at}
use Rattle.rb_json.specs.Leaf.{units_data}
use Rattle.rb_json.specs.Value.{value_of}
use Rattle.rb_json.proofs.Laid.{laid_long, string_laid, tagged_taken}
use Rattle.rb_json.proofs.Leaves.{ascii_value, ill_formed_value, string_long, well_formed_value}
use Rattle.rb_json.proofs.OfKinds.{string_len}
use Rattle.rb_json.proofs.value.put_string.Goals as goal

pub returns-then-skips : goal.returns-then-skips
returns-then-skips g c =
    let t = g.N.Node.tree c.args.node in
    let d = value_of t in
    c.if-skips.ensures (laid_at c.args.layout c.args.depth d)
    (omega (arith, string_long t c.requires.string, laid_long c.args.layout c.args.depth d, string_len t c.requires.string, c.len-len.ensures))

pub returns-then-is_well_formed : goal.returns-then-is_well_formed
returns-then-is_well_formed g c =
    let well = sym c.is_well_formed.ensures ∙ c.if-is_well_formed.true in
    subst (λ (d : Data). g.O.Outlet.takes c.args.out.now c.spell_units.new.out (laid_at c.args.layout c.args.depth d))
    (sym (well_formed_value (g.N.Node.tree c.args.node) c.requires.string well))
    (string_laid g.O.Outlet.takes g.met.O.Outlet.joined c.args.out.now c.skips.new.self c.spell_units.new.out c.args.layout c.args.depth _ c.if-skips.ensures c.spell_units.ensures)

pub returns : goal.returns
returns g c =
    let t = g.N.Node.tree c.args.node in
    let ill = sym c.is_well_formed.ensures ∙ c.if-is_well_formed.false in
    let told =
    tagged_taken g.O.Outlet.takes g.met.O.Outlet.joined c.skips.new.self c.begin_tagged.new.out c.put_units.new.out c.end_tagged.new.out c.args.layout c.args.depth
    (codes ":units") (units_data (units_of t)) c.begin_tagged.ensures c.put_units.ensures c.end_tagged.ensures in
    rw (ill_formed_value t c.requires.string ill) (g.met.O.Outlet.joined c.args.out.now c.skips.new.self c.end_tagged.new.out [] _ c.if-skips.ensures told)

pub returns-then-run-len : goal.returns-then-run-len
returns-then-run-len g c =
    let t = g.N.Node.tree c.args.node in
    subst (λ (d : Data). g.O.Outlet.takes c.args.out.now c.spell_bytes.new.out (laid_at c.args.layout c.args.depth d))
    (sym (ascii_value t c.ascii_run-run.new.block c.ascii_run-run.result c.requires.string c.ascii_run-run.ensures.run (omega arith)))
    (string_laid g.O.Outlet.takes g.met.O.Outlet.joined c.args.out.now c.skips.new.self c.spell_bytes.new.out c.args.layout c.args.depth _ c.if-skips.ensures c.spell_bytes.ensures)
