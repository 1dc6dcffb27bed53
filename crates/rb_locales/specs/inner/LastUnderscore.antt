-- Defines the index of a name's last underscore, for proofs only.
use Rattle.std.specs.Prelude.{◌≡◌, ◌<◌, ◌+◌, ℕ, List, length, Option, Some, None, slice_index, false}
use Rattle.rb_locales.specs.Locale.{is_underscore}

-- there is no underscore from index k on
abbrev pub NoneFrom : List ℕ → ℕ → Type 0
NoneFrom bs k = (j : ℕ) → k < j + 1 → j < length bs → is_underscore (slice_index bs j) ≡ false

-- the index of the last underscore
abbrev pub IsLastIndex : List ℕ → Option ℕ → Type 0
IsLastIndex bs None = NoneFrom bs 0
IsLastIndex bs (Some i) = (i < length bs) × (slice_index bs i ≡ 95) × NoneFrom bs (i + 1)
