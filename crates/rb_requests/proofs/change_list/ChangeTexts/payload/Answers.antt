use Rattle.std.proofs.Common.{◌≡◌, ℕ, List, Option, Some, None, option_map, false, refl, ◌∙◌, arith}
use Rattle.rb_engine.specs.declared.request.Payload.{Payload}
use Rattle.rb_requests.specs.ExtendedAsked.{PutsAt}
use Rattle.rb_requests.specs.inner.Line.{payload_by}
use Rattle.rb_requests.proofs.change_list.ChangeTexts.payload.Goals as goal

twice : (locale : List ℕ) (o : Option Payload)
    → option_map (λ p. Some (PutsAt locale p)) o ≡ option_map Some (option_map (PutsAt locale) o)
twice locale None = refl
twice locale (Some p) = refl

pub returns-then-not-is_removal : goal.returns-then-not-is_removal
returns-then-not-is_removal c locale =
    let is : c.args.is_removal ≡ false = grind arith in
    rw is (c.incoming.ensures locale ∙ twice locale (payload_by c.args.self.now.text c.args.self.now.file))
