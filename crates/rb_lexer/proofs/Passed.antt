-- Proves what the parts of a piece pass.
use Rattle.std.proofs.Common.{◌≡◌, ℕ, Bool, false, List, [], ◌∷◌, refl}
use Rattle.rb_lexer.specs.declared.pieces.TextPart.{TextPart}
use Rattle.rb_lexer.specs.declared.pieces.TextPart.TheVariants.{Plain, Escape}
use Rattle.rb_lexer.specs.Pieces.{IsFirstPart, Passes, closes}

-- Whatever the rest passes, the text passes too.
abbrev pub PassesOn : (TextPart → List ℕ → Bool) → List ℕ → List ℕ → Type 0
PassesOn ends text rest = (end : List ℕ) → Passes ends rest end → Passes ends text end

pub passes_more : (ends : TextPart → List ℕ → Bool) (text rest : List ℕ) → PassesOn ends text rest → (p : TextPart) (after : List ℕ)
    → IsFirstPart p rest after → ends p after ≡ false → PassesOn ends text after
passes_more ends text rest so_far p after is stays = λ end more. so_far end (p ∷ more.0, (after, is, stays, more.1))

-- What follows a part says nothing of whether it closes a quoted piece.
pub closes_alike : (p : TextPart) (after other : List ℕ) → closes p after ≡ closes p other
closes_alike (Plain c) after other = refl
closes_alike (Escape x) after other = refl
