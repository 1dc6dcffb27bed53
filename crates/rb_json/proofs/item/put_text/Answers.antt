use Rattle.std.proofs.Common.{◌≡◌, [], arith, codes, encode_utf8_all, false, rules, true}
use Rattle.std.specs.Prelude.{option_map}
use Rattle.std.specs.Char.Utf16.{has_unpaired_surrogate, utf16_lossy_chars}
use Rattle.serde_json.specs.Data.{member, no_members, string}
use Rattle.rb_tree.specs.Parts.{units_of}
use Rattle.rb_json.specs.Item.{of_type, units_data, with_text}
use Rattle.rb_json.specs.Parts.{rest_text}
use Rattle.rb_json.proofs.AtLeast.{text-le}
use Rattle.rb_json.proofs.Objects.{before, first_taken, member_taken, units_members, valid_taken, value_members}
use Rattle.rb_json.proofs.OfKinds.{units_len}
use Rattle.rb_json.proofs.item.put_text.Goals as goal

pub returns-then-skips : goal.returns-then-skips
returns-then-skips g c =
    let t = g.N.Node.tree c.args.node in
    let us = units_of t in
    let valid = option_map (λ v. v.now) c.args.valid in
    let word = c.args.word.now in
    c.if-skips.ensures (rest_text c.args.later valid (with_text us (of_type word)))
    (omega (arith, text-le c.args.later valid us word, units_len t c.requires, c.len.ensures))

pub returns-then-is_well_formed : goal.returns-then-is_well_formed
returns-then-is_well_formed g c =
    let us = units_of (g.N.Node.tree c.args.node) in
    let valid = option_map (λ v. v.now) c.args.valid in
    let value = string (encode_utf8_all (utf16_lossy_chars us)) in
    let last = member (codes "value") value no_members in
    let name = c.put_name-then-is_well_formed in
    let end = c.put.new.self in
    let whole : has_unpaired_surrogate us ≡ false = search rules in
    let told =
    first_taken g.O.Outlet.takes g.met.O.Outlet.joined c.skips.new.self c.put_name.new.out c.spell_text.new.out end c.args.later (codes "type") (string c.args.word.now)
    (before valid last) _ (value_members valid value c.args.word.now) c.put_name.ensures c.spell_text.ensures
    (valid_taken g.O.Outlet.takes g.met.O.Outlet.joined c.spell_text.new.out c.put_valid.new.out end valid last c.put_valid.ensures
    (member_taken g.O.Outlet.takes g.met.O.Outlet.joined c.put_valid.new.out name.new.out c.spell_units.new.out end true (codes "value") value no_members
    name.ensures c.spell_units.ensures c.put.ensures)) in
    rw whole (g.met.O.Outlet.joined c.args.out.now c.skips.new.self end [] _ c.if-skips.ensures told)

pub returns-else-is_well_formed : goal.returns-else-is_well_formed
returns-else-is_well_formed g c =
    let us = units_of (g.N.Node.tree c.args.node) in
    let valid = option_map (λ v. v.now) c.args.valid in
    let last = before valid no_members in
    let name = c.put_name-else-is_well_formed in
    let valids = c.put_valid-else-is_well_formed in
    let end = c.put-else-is_well_formed.new.self in
    let broken : has_unpaired_surrogate us ≡ true = search rules in
    let told =
    first_taken g.O.Outlet.takes g.met.O.Outlet.joined c.skips.new.self c.put_name.new.out c.spell_text.new.out end c.args.later (codes "type") (string c.args.word.now)
    (member (codes "units") (units_data us) last) _ (units_members valid (units_data us) c.args.word.now) c.put_name.ensures c.spell_text.ensures
    (member_taken g.O.Outlet.takes g.met.O.Outlet.joined c.spell_text.new.out name.new.out c.put_units.new.out end true (codes "units") (units_data us) last
    name.ensures c.put_units.ensures
    (valid_taken g.O.Outlet.takes g.met.O.Outlet.joined c.put_units.new.out valids.new.out end valid no_members valids.ensures c.put-else-is_well_formed.ensures)) in
    rw broken (g.met.O.Outlet.joined c.args.out.now c.skips.new.self end [] _ c.if-skips.ensures told)
