use Rattle.std.proofs.Common.{codes, sym, true}
use Rattle.std.specs.Prelude.{option_map}
use Rattle.std.specs.Map.{keys_of}
use Rattle.hex.specs.Hex.{encode_lower}
use Rattle.serde_json.specs.Data.{member, no_members, number, string, unsigned}
use Rattle.rb_tree.specs.Parts.{bytes_of, len_of, numbers_of, pairs_of}
use Rattle.rb_json.specs.Item.{numbers_data, of_type, texts_data}
use Rattle.rb_json.specs.Parts.{with_valid}
use Rattle.rb_json.proofs.ItemKinds.{array_members, binary_members, ints_members, table_members}
use Rattle.rb_json.proofs.Objects.{before, first_taken, member_taken, valid_taken}
use Rattle.rb_json.proofs.item.put_members.Goals as goal

pub returns-in-Ints : goal.returns-in-Ints
returns-in-Ints g c =
    let t = g.N.Node.tree c.args.node in
    let valid = option_map (λ v. v.now) c.args.valid in
    let numbers = numbers_data (numbers_of t) in
    let last = member (codes "values") numbers no_members in
    let end = c.put.new.self in
    first_taken g.O.Outlet.takes g.met.O.Outlet.joined c.args.out.now c.put_name.new.out c.spell_text.new.out end c.args.later (codes "type") (string (codes "intvector"))
    (before valid last) _ (ints_members t valid (sym c.in-Ints.ensures)) c.put_name.ensures c.spell_text.ensures
    (valid_taken g.O.Outlet.takes g.met.O.Outlet.joined c.spell_text.new.out c.put_valid.new.out end valid last c.put_valid.ensures
    (member_taken g.O.Outlet.takes g.met.O.Outlet.joined c.put_valid.new.out c.put_name-in-Ints.new.out c.put_numbers.new.out end true (codes "values") numbers no_members
    c.put_name-in-Ints.ensures c.put_numbers.ensures c.put.ensures))

pub returns-in-Binary : goal.returns-in-Binary
returns-in-Binary g c =
    let t = g.N.Node.tree c.args.node in
    let valid = option_map (λ v. v.now) c.args.valid in
    first_taken g.O.Outlet.takes g.met.O.Outlet.joined c.args.out.now c.put_name-in-Binary.new.out c.spell_hex.new.out c.put_type_last.new.out c.args.later (codes "hex")
    (string (encode_lower (bytes_of t))) (with_valid valid (of_type (codes "bin"))) _ (binary_members t valid (sym c.in-Binary.ensures))
    c.put_name-in-Binary.ensures c.spell_hex.ensures c.put_type_last.ensures

pub returns-in-Array : goal.returns-in-Array
returns-in-Array g c =
    let t = g.N.Node.tree c.args.node in
    let valid = option_map (λ v. v.now) c.args.valid in
    first_taken g.O.Outlet.takes g.met.O.Outlet.joined c.args.out.now c.put_name-in-Array.new.out c.spell_unsigned.new.out c.put_type_last-in-Array.new.out c.args.later (codes "len")
    (number (unsigned (len_of t))) (with_valid valid (of_type (codes "array"))) _ (array_members t valid (sym c.in-Array.ensures))
    c.put_name-in-Array.ensures (rw c.len.ensures at c.spell_unsigned.ensures) c.put_type_last-in-Array.ensures

pub returns-in-Table : goal.returns-in-Table
returns-in-Table g c =
    let t = g.N.Node.tree c.args.node in
    let valid = option_map (λ v. v.now) c.args.valid in
    first_taken g.O.Outlet.takes g.met.O.Outlet.joined c.args.out.now c.put_name-in-Table.new.out c.put_keys.new.out c.put_type_last-in-Table.new.out c.args.later (codes "keys")
    (texts_data (keys_of (pairs_of t))) (with_valid valid (of_type (codes "table"))) _ (table_members t valid (sym c.in-Table.ensures))
    c.put_name-in-Table.ensures c.put_keys.ensures c.put_type_last-in-Table.ensures
