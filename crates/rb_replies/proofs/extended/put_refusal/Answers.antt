use Rattle.std.proofs.Common.{◌≡◌, ◌∙◌, Bool, Option, Some, None, List, ℕ, codes, is_some, option_map, refl, subst, sym}
use Rattle.std.specs.Borrow.{Bor}
use Rattle.rb_json.specs.Parts.{name_text}
use Rattle.rb_replies.proofs.Lines.{refusal_taken}
use Rattle.rb_replies.proofs.extended.put_refusal.Goals as goal

same_some : (o : Option (Bor (List ℕ))) → is_some o ≡ is_some (option_map (λ s. s.now) o)
same_some None = refl
same_some (Some s) = refl

pub returns : goal.returns
returns g c =
    let code = option_map (λ s. s.now) c.args.detail.code in
    let name = subst (λ (b : Bool). g.O.Outlet.takes c.put_code.new.out c.put_name.new.out (name_text b (codes "error")))
    (c.is_some.ensures ∙ same_some c.args.detail.code) c.put_name.ensures in
    refusal_taken g.O.Outlet.takes g.met.O.Outlet.joined c.args.out.now c.put.new.self c.put_code.new.out c.put_name.new.out c.spell_text.new.out c.put_number.new.out c.put_number-2.new.out c.put-2.new.self c.put-3.new.self
    c.args.code.now code c.args.detail.index c.args.detail.line
    c.put.ensures c.put_code.ensures name c.spell_text.ensures c.put_number.ensures c.put_number-2.ensures c.put-2.ensures c.put-3.ensures
