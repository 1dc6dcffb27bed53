-- Defines how marks are packed in bytes, for proofs only.
use Rattle.std.specs.Prelude.{◌≡◌, ℕ, ◌+◌, ◌-◌, ◌*◌, ◌/◌, ◌%◌, ◌<◌, ◌≤◌, ◌==◌, ◌⊎◌, if◌then◌else◌, List, length, map}
use Rattle.std.specs.Prelude.{slice_index}
use Rattle.std.specs.List.{range_with_len}

-- the index of the mark of a slot, if another slot was set first
abbrev pub other : ℕ → ℕ → ℕ → ℕ
other o s t = 2 * o + (s + 2 - t) % 3

-- the mark of an offset and a slot
abbrev pub mark_in : List ℕ → List ℕ → ℕ → ℕ → ℕ
mark_in first rest o s =
    let code = slice_index first o in
    if code == 0 then 0 else (if code / 66 == s then code % 66 else slice_index rest (other o s (code / 66)))

-- all marks, three for each offset
abbrev pub cells_of : List ℕ → List ℕ → List ℕ
cells_of first rest = map (λ n. mark_in first rest (n / 3) (n % 3)) (range_with_len 0 (3 * length first))

pub record IsPacked (first rest : List ℕ) (room : ℕ) : Type 0 where
  pub small : length first < 4294967296
  pub low : (o : ℕ) → slice_index first o < 198
  pub none : (o i : ℕ) → slice_index first o ≡ 0 → i < 2 → slice_index rest (2 * o + i) ≡ 0
  pub long : (length rest ≡ 2 * length first) ⊎ ((length rest ≡ 0) × (2 * length first ≤ room))

-- n bytes, of which the last ones are stored in reverse
abbrev pub upwards : List ℕ → ℕ → List ℕ
upwards kept n = map (λ i. slice_index kept (n - 1 - i)) (range_with_len 0 n)
