-- A line within the limit on replies, or above it.
use Rattle.std.proofs.Common.{◌≡◌, ◌⊎◌, ◌∙◌, ℕ, Bool, true, false, inl, inr, List, length, nat_lt, Option, Some, None, is_some, refl, sym, codes}
use Rattle.std.proofs.lemmas.Bool.{false≢true}
use Rattle.rb_replies.specs.Within.{IsAbove}
use Rattle.rb_requests.specs.Within.{error_line, limited_line}
use Rattle.rb_requests.proofs.Stepping.{above_over, over, within}

pub limited_above : (most : Option ℕ) (text : List ℕ) → IsAbove (length text) most → error_line (codes "ReplyTooLong") ≡ limited_line most text
limited_above most text h = rw (over most (length text) h) refl

pub limited_within : (most : Option ℕ) (text : List ℕ) → (IsAbove (length text) most → ⊥) → text ≡ limited_line most text
limited_within most text h = rw (within most (length text) h) refl

-- a text that is a line under a limit
pub limited_by : (most : Option ℕ) (line text : List ℕ) → text ≡ limited_line most line
    → ((text ≡ line) × (IsAbove (length text) most → ⊥)) ⊎ ((is_some most ≡ true) × (text ≡ error_line (codes "ReplyTooLong")))
limited_by None line text told = inl (told, λ above. above)
limited_by (Some most) line text told = by (nat_lt most (length line)) refl
  where
    by : (b : Bool) → nat_lt most (length line) ≡ b
        → ((text ≡ line) × (IsAbove (length text) (Some most) → ⊥)) ⊎ ((true ≡ true) × (text ≡ error_line (codes "ReplyTooLong")))
    by true long = inr (refl, rw long at told)
    by false short = let whole = rw short at told in inl (whole, λ above. false≢true (sym short ∙ above_over most (length line) (rw whole at above)))
