-- Defines where a part of a message is, and what one step of reading gives: ICU's `MessagePattern` has the same parts.
use Rattle.std.specs.Prelude.{ℕ, ◌+◌, ◌<◌, ◌≤◌, ◌≡◌, Option, Some, None, Result, IfSome, MatchOption, MatchResult}
use Rattle.rb_messages.specs.declared.fault.MessageError.{MessageError}
use Rattle.rb_messages.specs.declared.part.Part.{Part}
use Rattle.rb_messages.specs.declared.part.Part.TheVariants.{Quoted, Hash, Argument, Branch, End, Stray}
use Rattle.rb_messages.specs.declared.part.Argument.{Argument as Arg}
use Rattle.rb_messages.specs.declared.part.Span.{Span}

abbrev pub first_of : Part → ℕ
first_of (Quoted s) = s.first
first_of (Hash at) = at
first_of (Argument a) = a.name.first
first_of (Branch s) = s.first
first_of (End at) = at
first_of (Stray at) = at

-- the end of an argument's style, or of its name
abbrev pub style_past : Option Span → ℕ → ℕ
style_past None past = past
style_past (Some s) past = s.past

abbrev pub past_of : Part → ℕ
past_of (Quoted s) = s.past
past_of (Argument a) = style_past a.style a.name.past
past_of (Branch s) = s.past
past_of other = first_of other + 1

-- The spans of a part don't end before they begin.
abbrev pub IsOrdered : Part → Type 0
IsOrdered (Quoted s) = s.first ≤ s.past
IsOrdered (Argument a) =
    (a.name.first ≤ a.name.past) × IfSome a.style (λ s. (a.name.past ≤ s.first) × (s.first ≤ s.past))
IsOrdered (Branch s) = s.first ≤ s.past
IsOrdered other = Unit {0}

-- A part begins at one offset or later, and ends at another one or before it.
abbrev pub IsBetween : ℕ → ℕ → Part → Type 0
IsBetween low high p = (low ≤ first_of p) × (past_of p ≤ high) × IsOrdered p

-- An argument is between its brace and the offset at which reading continues.
abbrev pub IsArgument : ℕ → ℕ → Arg → Type 0
IsArgument brace past a = (brace < past) × IsBetween brace past (Argument a)

-- A step from one offset to another advances, and its part is between them. An error is in the text, of this length, or
-- at its end.
abbrev pub Reads : ℕ → ℕ → ℕ → Result (Option Part) MessageError → Type 0
Reads len low high r = MatchResult r (λ p. (low < high) × IfSome p (IsBetween low high)) (λ e. e.at ≤ len)

-- Without a part the text is at its end.
abbrev pub ReadsNext : ℕ → ℕ → ℕ → Result (Option Part) MessageError → Type 0
ReadsNext len low high r =
    MatchResult r (λ p. MatchOption p (high ≡ len) (λ q. (low < high) × IsBetween low high q)) (λ e. e.at ≤ len)
