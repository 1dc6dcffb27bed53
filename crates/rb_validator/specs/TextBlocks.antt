-- Defines which blocks of a file's data are marked, so that lookups skip them in long texts.
use Rattle.std.specs.Prelude.{◌≡◌, ℕ, ◌/◌, List, Bool, true, Some, slice_get}
use Rattle.rb_tree.specs.Path.{is_segment_unit}
use Rattle.rb_format.specs.Place.{half_at}

-- blocks of 1,024 half words: in a marked block each half word is a unit of a path segment
abbrev pub AreSegmentBlocks : List ℕ → List Bool → Type 0
AreSegmentBlocks body blocks = (h : ℕ) → slice_get blocks (h / 1024) ≡ Some true → is_segment_unit (half_at body h) ≡ true
