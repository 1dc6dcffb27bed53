-- Defines the numbers and bytes that a text spells, after genrb's `int`, `intvector` and `bin`.
use Rattle.std.specs.Prelude.{◌≡◌, ◌<◌, ◌≤◌, ◌+◌, ◌-◌, ◌*◌, ◌%◌, ◌^◌, ℕ, ℤ, pos, neg_ℤ, Bool, true, false, List, []}
use Rattle.std.specs.Prelude.{◌∷◌, length, filter, not, ◌||◌, ◌==◌}
use Rattle.std.specs.Prelude.{if◌then◌else◌, nat_lt}
use Rattle.std.specs.Char.{digit_value}
use Rattle.std.specs.Str.Parse.{digits_value, AllDigits}

pub data Sign : Type 0 where
  bare : Sign
  plus : Sign
  minus : Sign

-- The digits of a number, by its base: after `0x` or `0X` (upper), after `0`, or alone.
pub data Numeral : Type 0 where
  hexadecimal : Bool → List ℕ → Numeral
  octal : List ℕ → Numeral
  decimal : List ℕ → Numeral

abbrev pub sign_units : Sign → List ℕ → List ℕ
sign_units bare rest = rest
sign_units plus rest = 0x2B ∷ rest
sign_units minus rest = 0x2D ∷ rest

abbrev pub numeral_units : Numeral → List ℕ
numeral_units (hexadecimal upper ds) = 0x30 ∷ (if upper then 0x58 else 0x78) ∷ ds
numeral_units (octal ds) = 0x30 ∷ ds
numeral_units (decimal ds) = ds

-- at least one digit, the first of them not 0
abbrev pub BeginsAbove0 : List ℕ → Type 0
BeginsAbove0 [] = ⊥
BeginsAbove0 (d ∷ ds) = 0 < digit_value d

abbrev pub IsNumeral : Numeral → Type 0
IsNumeral (hexadecimal upper ds) = (0 < length ds) × AllDigits 16 ds
IsNumeral (octal ds) = AllDigits 8 ds
IsNumeral (decimal ds) = BeginsAbove0 ds × AllDigits 10 ds

abbrev pub numeral_value : Numeral → ℕ
numeral_value (hexadecimal upper ds) = digits_value 16 ds
numeral_value (octal ds) = digits_value 8 ds
numeral_value (decimal ds) = digits_value 10 ds

-- A number is given by whether it is negative, and its distance from zero.
abbrev pub is_minus : Sign → Bool
is_minus bare = false
is_minus plus = false
is_minus minus = true

-- the units spell this number
pub record Writes (units : List ℕ) (negative : Bool) (size : ℕ) : Type 0 where
  pub sign : Sign
  pub numeral : Numeral
  pub good : IsNumeral numeral
  pub spelled : units ≡ sign_units sign (numeral_units numeral)
  pub negative_is : negative ≡ is_minus sign
  pub size_is : size ≡ numeral_value numeral

-- a number from -least up to below a modulus
abbrev pub IsWithin : ℕ → ℕ → Bool → ℕ → Type 0
IsWithin least modulus false size = size < modulus
IsWithin least modulus true size = size ≤ least

-- ---- an Int, stored modulo 2^28
abbrev pub IsIntSize : Bool → ℕ → Type 0
IsIntSize = IsWithin (2 ^ 27) (2 ^ 28)

abbrev pub int_kept : Bool → ℕ → ℕ
int_kept false size = size
int_kept true size = (2 ^ 28 - size) % 2 ^ 28

abbrev pub IsIntText : List ℕ → ℕ → Type 0
IsIntText units n = (negative : Bool) × (size : ℕ) × Writes units negative size × IsIntSize negative size
    × (n ≡ int_kept negative size)

-- ---- an element of a vector, stored modulo 2^32 as a signed number
abbrev pub IsElementSize : Bool → ℕ → Type 0
IsElementSize = IsWithin (2 ^ 31) (2 ^ 32)

abbrev pub element_kept : Bool → ℕ → ℤ
element_kept false size = if nat_lt size (2 ^ 31) then pos size else neg_ℤ (pos (2 ^ 32 - size))
element_kept true size = neg_ℤ (pos size)

abbrev pub IsElementText : List ℕ → ℤ → Type 0
IsElementText units z = (negative : Bool) × (size : ℕ) × Writes units negative size × IsElementSize negative size
    × (z ≡ element_kept negative size)

-- ---- bytes: two hexadecimal digits each; four kinds of space are ignored
abbrev pub is_gap : ℕ → Bool
is_gap u = (u == 0x09) || (u == 0x0A) || (u == 0x0D) || (u == 0x20)

abbrev pub pairs_digits : List (ℕ × ℕ) → List ℕ
pairs_digits [] = []
pairs_digits (p ∷ ps) = p.0 ∷ p.1 ∷ pairs_digits ps

abbrev pub pairs_bytes : List (ℕ × ℕ) → List ℕ
pairs_bytes [] = []
pairs_bytes (p ∷ ps) = (16 * digit_value p.0 + digit_value p.1) ∷ pairs_bytes ps

abbrev pub ArePairs : List (ℕ × ℕ) → Type 0
ArePairs [] = Unit {0}
ArePairs (p ∷ ps) = (digit_value p.0 < 16) × (digit_value p.1 < 16) × ArePairs ps

abbrev pub IsHexText : List ℕ → List ℕ → Type 0
IsHexText units bytes = (ps : List (ℕ × ℕ)) × ArePairs ps × (filter (λ u. not (is_gap u)) units ≡ pairs_digits ps)
    × (bytes ≡ pairs_bytes ps)
