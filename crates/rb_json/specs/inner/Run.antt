-- For the contracts of this crate's own functions: ASCII units as bytes.
use Rattle.std.specs.Prelude.{◌≡◌, ℕ, List, take, drop}
use Rattle.std.specs.Str.{IsAscii}

-- the first n bytes of the block are the n units from an index on, all of them ASCII
pub record IsRun (block units : List ℕ) (at n : ℕ) : Type 0 where
  pub ascii : IsAscii (take n block)
  pub is : take n block ≡ take n (drop at units)
