use Rattle.std.proofs.Common.{◌≡◌, length, take, ◌∙◌, arith}
use Rattle.rb_tree.specs.Parts.{units_of, len_of}
use Rattle.rb_locales.proofs.Narrowed.{name_narrow, units_len}
use Rattle.rb_locales.proofs.name.Name.read_part.Goals as goal

pub returns : goal.returns
returns g c =
    let t = g.N.Node.tree c.args.node in
    let len : length (units_of t) ≡ len_of t = units_len t c.requires.units in
    c.read.ensures.name ∙ name_narrow c.args.from c.args.past c.units_before_at-len.result (units_of t)
    (take c.units_before_at-len.result c.fill_front.new.field) c.units_before_at-len.ensures.first c.units_before_at-len.ensures.within
    (omega (arith, c.requires.within)) c.fill_front.ensures.front
