-- Defines when an outlet needs no more of a text, so that the writer may stop.
use Rattle.std.specs.Prelude.{ℕ, List, [], ◌≤◌, length, Bool, true, false}

-- it needs no text of at least this many bytes, whatever they are; or it has taken nothing
abbrev pub Skips : (List ℕ → Type 0) → ℕ → Bool → Type 0
Skips Takes least true = (bytes : List ℕ) → least ≤ length bytes → Takes bytes
Skips Takes least false = Takes []
