-- Defines the invariant of a bundle, for proofs only.
use Rattle.std.specs.Prelude.{ℕ, List, Bool, drop}
use Rattle.rb_format.specs.File.{Denotes, source_tree_of}
use Rattle.rb_format.specs.Place.{half_at}
use Rattle.rb_validator.specs.TextBlocks.{AreSegmentBlocks}
use Rattle.rb_validator.specs.Visits.{HasVisits}

-- the bytes denote a bundle with this many places, and the marks of blocks are valid
pub record IsAccepted (bytes : List ℕ) (visits : ℕ) (blocks : List Bool) : Type 0 where
  pub denoted : Denotes bytes (source_tree_of bytes)
  pub counted : HasVisits bytes visits
  pub marked : AreSegmentBlocks (drop (half_at bytes 0) bytes) blocks
