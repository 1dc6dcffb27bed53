use Rattle.std.proofs.Common.{codes, subst, true, ◌∙◌, ℤ, rules, FitsSigned, w64}
use Rattle.std.specs.Prelude.{option_map}
use Rattle.std.proofs.lemmas.Int.{to_z-of_z}
use Rattle.serde_json.specs.Data.{member, no_members, number, string, unsigned}
use Rattle.serde_json.specs.Find.{of_integer}
use Rattle.serde_json.specs.Written.{number_text}
use Rattle.rb_json.specs.Leaf.{signed_of}
use Rattle.rb_json.proofs.Objects.{before, first_taken, int_members, member_taken, valid_taken}
use Rattle.rb_json.proofs.item.put_int.Goals as goal

pub returns : goal.returns
returns g c =
    let fits : FitsSigned w64 c.signed.result = search rules in
    let same = to_z-of_z w64 c.signed.result fits ∙ c.signed.ensures in
    let signs = subst (λ (n : ℤ). g.O.Outlet.takes c.put_name.new.out c.spell_integer.new.out (number_text (of_integer n))) same c.spell_integer.ensures in
    let taken = member_taken g.O.Outlet.takes g.met.O.Outlet.joined in
    let valid = option_map (λ v. v.now) c.args.valid in
    let word = codes "int" in
    let s = number (of_integer (signed_of c.args.bits)) in
    let u = number (unsigned c.args.bits) in
    let m2 = member (codes "unsigned") u (before valid no_members) in
    let m1 = member (codes "type") (string word) m2 in
    let end = c.put.new.self in
    first_taken g.O.Outlet.takes g.met.O.Outlet.joined c.args.out.now c.put_name.new.out c.spell_integer.new.out end c.args.later (codes "signed") s m1 _
    (int_members valid s u word) c.put_name.ensures signs
    (taken c.spell_integer.new.out c.put_name-2.new.out c.spell_text.new.out end true (codes "type") (string word) m2 c.put_name-2.ensures c.spell_text.ensures
    (taken c.spell_text.new.out c.put_name-3.new.out c.spell_unsigned.new.out end true (codes "unsigned") u (before valid no_members) c.put_name-3.ensures (rw c.from.ensures at c.spell_unsigned.ensures)
    (valid_taken g.O.Outlet.takes g.met.O.Outlet.joined c.spell_unsigned.new.out c.put_valid.new.out end valid no_members c.put_valid.ensures c.put.ensures)))
