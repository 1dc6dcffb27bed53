-- Defines the effect of reading a span of bytes from an input: the bytes that calls of `pull` would read one by one.
use Rattle.std.specs.Prelude.{◌≡◌, ◌<◌, ◌≤◌, ℕ, length, List, [], ◌∷◌, ◌++◌, Option, Result, Ok, Err}
use Rattle.std.specs.Io.KnownBytes.{Consumes, Keeps, IsAtEnd}
use Rattle.rb_requests.specs.Lines.{feeds}
use Rattle.rb_requests.specs.declared.device.Failed.{Failed}
use Rattle.rb_requests.specs.declared.device.Run.{Run}
use Rattle.rb_requests.specs.declared.device.Run.TheVariants.{Feed, Part, End, Memory}

-- some bytes without a line feed are read and appended to the line, and `last` is read after them
pub record Moves (old new : Option (List ℕ)) (line line' : List ℕ) (most : ℕ) (last : List ℕ) : Type 0 where
  pub bytes : List ℕ
  pub read : Consumes old new (bytes ++ last)
  pub plain : feeds bytes ≡ 0
  pub short : length bytes ≤ most
  pub moved : line' ≡ line ++ bytes

-- the end is reached
pub record Ends (old new : Option (List ℕ)) (line line' : List ℕ) : Type 0 where
  pub end : IsAtEnd old
  pub kept : Keeps old new
  pub same : line' ≡ line

-- if memory runs out, and if a call fails, nothing is read
abbrev pub RunRead : Option (List ℕ) → Option (List ℕ) → List ℕ → List ℕ → ℕ → Result Run Failed → Type 0
RunRead old new line line' most (Ok Feed) = Moves old new line line' most (10 ∷ [])
RunRead old new line line' most (Ok Part) = Moves old new line line' most [] × (length line < length line')
RunRead old new line line' most (Ok End) = Ends old new line line'
RunRead old new line line' most (Ok Memory) = Keeps old new × (line' ≡ line)
RunRead old new line line' most (Err e) = Keeps old new × (line' ≡ line)
