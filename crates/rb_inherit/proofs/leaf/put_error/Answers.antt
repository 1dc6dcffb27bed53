use Rattle.std.proofs.Common.{codes}
use Rattle.serde_json.specs.Data.{string}
use Rattle.json.specs.Print.{escape_byte}
use Rattle.rb_json.proofs.Laid.{tagged_taken}
use Rattle.rb_json.specs.declared.layout.Layout.TheVariants.{Compact}
use Rattle.rb_inherit.proofs.leaf.put_error.Goals as goal

pub returns : goal.returns
unfolding escape_byte
returns g c =
    tagged_taken g.O.Outlet.takes g.met.O.Outlet.joined c.args.out.now c.put.new.self c.spell_text.new.out c.put-2.new.self
    Compact 0 (codes ":error") (string c.args.code.now) c.put.ensures c.spell_text.ensures c.put-2.ensures
