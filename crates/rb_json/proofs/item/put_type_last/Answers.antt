use Rattle.std.proofs.Common.{codes, true}
use Rattle.std.specs.Prelude.{option_map}
use Rattle.serde_json.specs.Data.{no_members, string}
use Rattle.rb_json.proofs.Objects.{before, first_taken, type_members, valid_taken}
use Rattle.rb_json.proofs.item.put_type_last.Goals as goal

pub returns : goal.returns
returns g c =
    let valid = option_map (λ v. v.now) c.args.valid in
    let end = c.put.new.self in
    first_taken g.O.Outlet.takes g.met.O.Outlet.joined c.args.out.now c.put_name.new.out c.spell_text.new.out end true (codes "type") (string c.args.word.now)
    (before valid no_members) _ (type_members valid c.args.word.now) c.put_name.ensures c.spell_text.ensures
    (valid_taken g.O.Outlet.takes g.met.O.Outlet.joined c.spell_text.new.out c.put_valid.new.out end valid no_members c.put_valid.ensures c.put.ensures)
