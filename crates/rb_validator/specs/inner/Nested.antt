-- Defines what is stored of spans with a common end, for proofs only.
use Rattle.std.specs.Prelude.{◌≡◌, ◌≢◌, ℕ, ◌+◌, ◌*◌, ◌/◌, ◌%◌, ◌≤◌, ◌==◌, if◌then◌else◌, List, slice_index, min, max}
use Rattle.rb_format.specs.declared.layout.Layout.{Layout}
use Rattle.rb_validator.specs.inner.Marks.{IsRun}

-- a span of the slot: an even slot's begin at the first word of a page of 64, an odd one's end before it
abbrev pub IsAnchored : ℕ → ℕ → ℕ → Type 0
IsAnchored slot first count = (if slot % 2 == 0 then first else first + count) ≡ 64 * (slot / 2)

-- the least and the greatest number of items of each slot's spans, and their height
abbrev pub AreNested : Layout → List ℕ → List ℕ → List ℕ → List ℕ → List ℕ → Type 0
AreNested y body cells lows highs heights = (slot first count : ℕ) → slice_index heights slot ≢ 0 → IsAnchored slot first count
    → slice_index lows slot ≤ count → count ≤ slice_index highs slot → IsRun y body cells first count (slice_index heights slot)

-- the span is one of those of a slot with this height
pub record IsBetween (lows highs heights : List ℕ) (first count height : ℕ) : Type 0 where
  pub slot : ℕ
  pub at : IsAnchored slot first count
  pub low : slice_index lows slot ≤ count
  pub high : count ≤ slice_index highs slot
  pub is : height ≡ slice_index heights slot

-- the slot has spans of this height, and these numbers are its bounds with a further span's number of items
pub record IsWidened (lows highs heights : List ℕ) (slot count height low high : ℕ) : Type 0 where
  pub same : slice_index heights slot ≡ height
  pub some : slice_index lows slot ≤ slice_index highs slot
  pub first : ℕ
  pub there : IsAnchored slot first (slice_index highs slot)
  pub least : low ≡ min (slice_index lows slot) count
  pub most : high ≡ max (slice_index highs slot) count
