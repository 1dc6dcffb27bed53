-- For private contracts: defines plain units as bytes.
use Rattle.std.specs.Prelude.{◌≡◌, ◌&&◌, ℕ, Bool, true, List, take, drop}
use Rattle.std.specs.List.{list_all}
use Rattle.rb_printer.specs.Sign.{is_shown, is_ascii}

-- an ASCII unit that needs no escape between quotes
abbrev pub is_plain : ℕ → Bool
is_plain u = is_shown u && is_ascii u

-- the first n bytes of the block are the n units from an index on, all of them plain
pub record IsRun (block units : List ℕ) (at n : ℕ) : Type 0 where
  pub plain : list_all is_plain (take n block) ≡ true
  pub is : take n block ≡ take n (drop at units)
