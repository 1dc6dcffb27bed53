-- Defines the lengths of keys, for proofs only.
use Rattle.std.specs.Prelude.{◌≡◌, ℕ, ◌+◌, ◌-◌, ◌*◌, ◌<◌, ◌==◌, ◌&&◌, Bool, true, if◌then◌else◌, nat_lt, nat_le}
use Rattle.std.specs.Prelude.{List, length, slice_index, Option, None, Some}
use Rattle.rb_format.specs.declared.layout.Layout.{Layout}

-- 1 at a NUL, 0 where no key is, and elsewhere one more than the next length
abbrev pub is_counted : List ℕ → List ℕ → ℕ → Bool
is_counted run lengths p =
    let byte = slice_index run p in
    let n = slice_index lengths p in
    let rest = slice_index lengths (p + 1) in
    if byte == 0 then n == 1 else (if nat_le 32 byte && nat_le byte 126 && nat_lt 0 rest then n == rest + 1 else n == 0)

-- all lengths are valid
pub record AreCounted (run lengths : List ℕ) : Type 0 where
  pub long : length lengths ≡ length run
  pub each : (p : ℕ) → p < length run → is_counted run lengths p ≡ true

-- the length that a list has for an offset of the body
abbrev pub length_at : Layout → List ℕ → ℕ → ℕ
length_at y lengths k = if nat_lt k (4 * (1 + y.indexes)) then 0 else slice_index lengths (k - 4 * (1 + y.indexes))

-- the index of an offset among the key bytes, past their end if it is before them
abbrev pub place_of : Layout → List ℕ → ℕ → ℕ
place_of y run k = if nat_lt k (4 * (1 + y.indexes)) then length run else k - 4 * (1 + y.indexes)

-- the index of the previous key, by its offset, or past the end if there is none
abbrev pub previous_place : Layout → List ℕ → Option ℕ → ℕ
previous_place y run None = length run
previous_place y run (Some k) = place_of y run k
