-- For what is private. Defines the bytes of a text that were put so far, and the remaining ones.
use Rattle.std.specs.Prelude.{◌≡◌, ℕ, List, [], ◌++◌, Option, Bool, true, false, Result, Ok, Err}
use Rattle.std.specs.Io.KnownBytes.{Appends}
use Rattle.rb_requests.specs.Device.{risen}
use Rattle.rb_requests.specs.declared.device.Failed.{Failed}
use Rattle.rb_requests.specs.declared.device.Sink.{Ghosts}
use Rattle.rb_requests.specs.inner.OneLine.{WrotePart}

-- a writer at a moment
pub record Writer : Type 0 where
  pub written : Option (List ℕ)
  pub faults : ℕ
  pub settled : ℕ

abbrev pub writer : Option (List ℕ) → ℕ → ℕ → Writer
writer written faults settled = record { written = written; faults = faults; settled = settled }

abbrev pub writer_of : {S : Type 0} → Ghosts S → S → Writer
writer_of g sink = writer (g.written sink) (g.faults sink) (g.settled sink)

-- the front is put, and no call has failed
pub record PutSoFar (before now : Writer) (rest bytes : List ℕ) : Type 0 where
  pub front : List ℕ
  pub text : Appends before.written now.written front
  pub all : front ++ rest ≡ bytes
  pub quiet : now.faults ≡ before.faults
  pub held : now.settled ≡ before.settled

-- a part is put, and then a call has failed
pub record Broke (before now : Writer) (bytes : List ℕ) : Type 0 where
  pub part : WrotePart before.written now.written bytes
  pub fault : now.faults ≡ risen before.faults
  pub held : now.settled ≡ before.settled

-- the part of a text that was put by a stream, which has failed or not and stores the remaining bytes
abbrev pub Streams : (failed : Bool) → (before now : Writer) → (rest bytes : List ℕ) → Type 0
Streams false before now rest bytes = PutSoFar before now rest bytes
Streams true before now rest bytes = Broke before now bytes

-- bytes that were left are put, unless a call had failed
abbrev pub Passes : (old_failed : Bool) (old : Writer) (failed : Bool) (now : Writer) (bytes : List ℕ) → Type 0
Passes old_failed old failed now bytes =
    (before : Writer) (text : List ℕ) → Streams old_failed before old bytes text → Streams failed before now [] text

-- all bytes are put, or a call has failed and a part is
abbrev pub Puts : Result (Unit {0}) Failed → (before now : Writer) → List ℕ → Type 0
Puts (Ok x) before now bytes = PutSoFar before now [] bytes
Puts (Err e) before now bytes = Broke before now bytes
