use Rattle.std.proofs.Common.{codes, sym}
use Rattle.hex.specs.Hex.{encode_lower}
use Rattle.serde_json.specs.Data.{string}
use Rattle.rb_tree.specs.Parts.{bytes_of, numbers_of, units_of}
use Rattle.rb_json.specs.Leaf.{numbers_data}
use Rattle.rb_json.specs.Value.{text_or_units}
use Rattle.rb_json.proofs.Laid.{string_at, tagged_taken}
use Rattle.rb_json.proofs.Leaves.{alias_value, binary_value, ints_value}
use Rattle.rb_json.proofs.value.put_leaf.Goals as goal

pub returns-in-Ints : goal.returns-in-Ints
returns-in-Ints g c =
    let t = g.N.Node.tree c.args.node in
    rw (ints_value t (sym c.in-Ints.ensures))
    (tagged_taken g.O.Outlet.takes g.met.O.Outlet.joined c.args.out.now c.begin_tagged.new.out c.put_numbers.new.out c.end_tagged.new.out c.args.layout c.args.depth
    (codes ":intvector") (numbers_data (numbers_of t)) c.begin_tagged.ensures c.put_numbers.ensures c.end_tagged.ensures)

pub returns-in-Binary : goal.returns-in-Binary
returns-in-Binary g c =
    let t = g.N.Node.tree c.args.node in
    rw (binary_value t (sym c.in-Binary.ensures))
    (tagged_taken g.O.Outlet.takes g.met.O.Outlet.joined c.args.out.now c.begin_tagged-in-Binary.new.out c.spell_hex.new.out c.end_tagged-in-Binary.new.out c.args.layout c.args.depth
    (codes ":bin") (string (encode_lower (bytes_of t))) c.begin_tagged-in-Binary.ensures (string_at (g.O.Outlet.takes c.begin_tagged-in-Binary.new.out c.spell_hex.new.out) c.args.layout c.args.depth (encode_lower (bytes_of t)) c.spell_hex.ensures) c.end_tagged-in-Binary.ensures)

pub returns-in-Alias : goal.returns-in-Alias
returns-in-Alias g c =
    let t = g.N.Node.tree c.args.node in
    rw (alias_value t (sym c.in-Alias.ensures))
    (tagged_taken g.O.Outlet.takes g.met.O.Outlet.joined c.args.out.now c.begin_tagged-in-Alias.new.out c.put_text_or_units.new.out c.end_tagged-in-Alias.new.out c.args.layout c.args.depth
    (codes ":alias") (text_or_units (units_of t)) c.begin_tagged-in-Alias.ensures c.put_text_or_units.ensures c.end_tagged-in-Alias.ensures)
