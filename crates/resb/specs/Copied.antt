-- Defines bytes or units that are copied to a C program's buffer, a rule of this project.
use Rattle.std.specs.Prelude.{◌≡◌, ◌⊎◌, ◌<◌, ℕ, List, length}

-- a copy of bytes or units, or their number if there isn't room for them
abbrev pub CopiesBytes : List ℕ → ℕ → ℕ → ℕ → List ℕ → Type 0
CopiesBytes bytes n count room copy = ((n ≡ 0) × (copy ≡ bytes)) ⊎ ((n ≡ 5) × (count ≡ length bytes) × (room < count))
