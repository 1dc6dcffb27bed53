-- For what is private. Defines the effect of reading a line of at most this many bytes from an input.
use Rattle.std.specs.Prelude.{◌≡◌, ◌<◌, ◌≤◌, ◌+◌, ℕ, true, false, List, length, ◌∷◌, ◌++◌, []}
use Rattle.std.specs.Prelude.{Option, IfSome, Result, Ok, Err}
use Rattle.std.specs.Io.KnownBytes.{Consumes, Keeps, IsAtEnd}
use Rattle.rb_requests.specs.Lines.{feeds}
use Rattle.rb_requests.specs.Served.{IsShort}
use Rattle.rb_requests.specs.declared.device.Failed.{Failed}
use Rattle.rb_requests.specs.declared.limits.Limits.{Limits}
use Rattle.rb_requests.specs.declared.lines.Served.{Served}
use Rattle.rb_requests.specs.declared.lines.ServeFault.{ServeFault}
use Rattle.rb_requests.specs.declared.lines.ServeFault.TheVariants as fault
use Rattle.rb_requests.specs.declared.reading.Held.{Held}
use Rattle.rb_requests.specs.declared.reading.Held.TheVariants.{Whole, Front, Starved}
use Rattle.rb_requests.specs.declared.reading.NextLine.{NextLine}
use Rattle.rb_requests.specs.declared.reading.NextLine.TheVariants.{Ended, Last, End, TooLong, Memory}
use Rattle.rb_requests.specs.declared.reading.Longest.{Longest}
use Rattle.rb_requests.specs.declared.reading.Progress.{Progress}

-- bytes without a line feed are read
pub record ReadsPlain (old new : Option (List ℕ)) (bytes : List ℕ) : Type 0 where
  pub read : Consumes old new bytes
  pub plain : feeds bytes ≡ 0

-- a part of a line is read, no longer than a line may be
pub record ReadsPart (limit : ℕ) (old new : Option (List ℕ)) : Type 0 where
  pub bytes : List ℕ
  pub part : ReadsPlain old new bytes
  pub short : IsShort limit bytes

-- a part of a line is read, shorter than a line may be
pub record ReadsFewer (limit : ℕ) (old new : Option (List ℕ)) : Type 0 where
  pub bytes : List ℕ
  pub part : ReadsPlain old new bytes
  pub fewer : length bytes < limit

-- a part is read that is one byte longer than a line may be
pub record ReadsLong (limit : ℕ) (old new : Option (List ℕ)) : Type 0 where
  pub bytes : List ℕ
  pub part : ReadsPlain old new bytes
  pub long : length bytes ≡ limit + 1

-- a line and its line feed are read
pub record ReadsEnded (limit : ℕ) (line : List ℕ) (old new : Option (List ℕ)) : Type 0 where
  pub read : Consumes old new (line ++ 10 ∷ [])
  pub plain : feeds line ≡ 0
  pub short : IsShort limit line

-- all remaining bytes are read, a line without a line feed
pub record ReadsLast (limit : ℕ) (line : List ℕ) (old new : Option (List ℕ)) : Type 0 where
  pub part : ReadsPlain old new line
  pub some : 0 < length line
  pub all : IfSome old (λ xs. line ≡ xs)
  pub short : IsShort limit line

-- the input was at its end
abbrev pub ReadsEnd : Option (List ℕ) → Option (List ℕ) → Type 0
ReadsEnd old new = IsAtEnd old × Keeps old new

-- `progress` bytes of a line are read, no more than a line may have, and all of them are stored, unless memory ran out
-- or they are more than are kept
pub record IsSoFar (longest : Longest) (progress : Progress) (line held : List ℕ) : Type 0 where
  pub many : length line ≡ progress.count
  pub short : progress.count ≤ longest.limit
  pub whole : progress.starved ≡ false → progress.count ≤ longest.kept → held ≡ line
  pub passed : progress.starved ≡ true → longest.passes_starved ≡ true

-- the stored part of a line: at most its front, if it has more bytes than are kept, otherwise all of it; or a part, if
-- memory ran out
abbrev pub IsHeld : Longest → List ℕ → List ℕ → Held → Type 0
IsHeld longest line held Whole = (held ≡ line) × IsShort longest.kept line
IsHeld longest line held Front = longest.kept < length line
IsHeld longest line held Starved = (longest.passes_starved ≡ true) × IsShort longest.kept line

-- `IsHeld` under limits: a line for which memory runs out is skipped only with `keep_serving`
abbrev pub IsHeldUnder : Limits → Longest → List ℕ → List ℕ → Held → Type 0
IsHeldUnder limits longest line held what =
    IsHeld longest line held what × (longest.passes_starved ≡ true → limits.keep_serving ≡ true)

abbrev pub Holds : Longest → Progress → Held → Type 0
Holds longest progress what = (line held : List ℕ) → IsSoFar longest progress line held → IsHeld longest line held what

-- a line is read, and a part of it is stored
abbrev pub ReadsHeld : (ℕ → List ℕ → Option (List ℕ) → Option (List ℕ) → Type 0) → Longest → List ℕ → Held
    → Option (List ℕ) → Option (List ℕ) → Type 0
ReadsHeld Reads longest held what old new =
    (line : List ℕ) × Reads longest.limit line old new × IsHeld longest line held what

-- the effect of reading a line, and its stored part
abbrev pub ReadsLine : Longest → List ℕ → Option (List ℕ) → Option (List ℕ) → Result NextLine Failed → Type 0
ReadsLine longest held old new (Ok (Ended what)) = ReadsHeld ReadsEnded longest held what old new
ReadsLine longest held old new (Ok (Last what)) = ReadsHeld ReadsLast longest held what old new
ReadsLine longest held old new (Ok End) = ReadsEnd old new
ReadsLine longest held old new (Ok TooLong) = ReadsLong longest.limit old new
ReadsLine longest held old new (Ok Memory) = ReadsFewer longest.limit old new
ReadsLine longest held old new (Err e) = ReadsPart longest.limit old new

-- after as many lines as may be served: nothing is left, or one byte is read, or a call failed
abbrev pub EndsAfter : Option (List ℕ) → Option (List ℕ) → ℕ → Result Served ServeFault → Type 0
EndsAfter old new lines (Ok served) = ReadsEnd old new × (served.lines ≡ lines)
EndsAfter old new lines (Err fault.LineLimit) = (byte : ℕ) × Consumes old new (byte ∷ [])
EndsAfter old new lines (Err fault.Read) = Keeps old new
EndsAfter old new lines other = ⊥
