-- Defines texts of the library that C programs read, a rule of this project.
use Rattle.std.specs.Prelude.{◌≡◌, ◌-◌, ℕ, List, Some, length, slice_get}
use Rattle.std.specs.Ptr.{Ptr, as_ptr}
use denote.Ref.{Bor}

-- the last byte is zero
abbrev pub IsZeroEnded : List ℕ → Type 0
IsZeroEnded bytes = slice_get bytes (length bytes - 1) ≡ Some 0

-- a pointer to bytes that a reference of the library also borrows, and whose last one is zero
abbrev pub IsAtText : Ptr → Type 0
IsAtText at = (text : Bor (List ℕ)) × (at ≡ as_ptr text) × IsZeroEnded text.now
