-- Defines the invariant of the stored spans of items, for proofs only.
use Rattle.std.specs.Prelude.{◌≡◌, ◌≢◌, ℕ, ◌+◌, ◌-◌, ◌*◌, ◌/◌, ◌%◌, ◌<◌, ◌==◌, nat_lt, if◌then◌else◌, List, [], length, slice_index}
use Rattle.rb_format.specs.declared.layout.Layout.{Layout}
use Rattle.rb_validator.specs.inner.Leaves.{AreLeaves}
use Rattle.rb_validator.specs.inner.Marks.{IsRun}
use Rattle.rb_validator.specs.inner.Nested.{AreNested}

-- the heights of stored spans by their slots, for each unit how many units from it on consist of leaves, and spans with a common end
pub record CachedSpans : Type 0 where
  pub heights : List ℕ
  pub pages : ℕ
  pub blocks : List ℕ
  pub leaves : List ℕ
  pub lows : List ℕ
  pub highs : List ℕ
  pub nested : List ℕ

-- the word of a slot, at which its span begins or ends, and the number of its block's length
abbrev pub word_of : ℕ → ℕ → ℕ → ℕ
word_of pages lengths slot = if nat_lt slot (pages * 64) then slot / 4 * 4 else (slot - pages * 64) / lengths * 64

abbrev pub level_of : ℕ → ℕ → ℕ → ℕ
level_of pages lengths slot = if nat_lt slot (pages * 64) then slot % 4 else (slot - pages * 64) % lengths

-- the span of a block from its start to a word in its second half, or from a word in its first half to its end
abbrev pub start_of : ℕ → ℕ → ℕ
start_of word block = if word % block == 0 then word - block else
    (if nat_lt block (2 * (word % block)) then word - word % block else word)

abbrev pub count_of : ℕ → ℕ → ℕ
count_of word block = if word % block == 0 then block else
    (if nat_lt block (2 * (word % block)) then word % block else block - word % block)

-- the span is the one of the slot
pub record IsSpanAt (runs : CachedSpans) (slot first count : ℕ) : Type 0 where
  pub start : first ≡ start_of (word_of runs.pages (length runs.blocks) slot)
      (slice_index runs.blocks (level_of runs.pages (length runs.blocks) slot))
  pub long : count ≡ count_of (word_of runs.pages (length runs.blocks) slot)
      (slice_index runs.blocks (level_of runs.pages (length runs.blocks) slot))

-- no span is known
abbrev pub SaysNothing : List ℕ → Type 0
SaysNothing heights = (slot : ℕ) → slice_index heights slot ≡ 0

-- the invariant
pub record AreRuns (y : Layout) (body cells : List ℕ) (runs : CachedSpans) : Type 0 where
  pub kept : (slot first count : ℕ) → slice_index runs.heights slot ≢ 0 → IsSpanAt runs slot first count
      → IsRun y body cells first count (slice_index runs.heights slot)
  pub leaves : AreLeaves y body runs.leaves
  pub nested : AreNested y body cells runs.lows runs.highs runs.nested

-- nothing was entered, and nothing is known
pub record IsFresh (y : Layout) (cells : List ℕ) (runs : CachedSpans) : Type 0 where
  pub long : length cells ≡ 3 * y.top
  pub fresh : (n : ℕ) → slice_index cells n ≡ 0
  pub kept : SaysNothing runs.heights
  pub leaves : runs.leaves ≡ []
  pub nested : SaysNothing runs.nested
