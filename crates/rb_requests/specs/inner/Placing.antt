-- For what is private. Defines the place of the reply to a line.
use Rattle.std.specs.Prelude.{◌≡◌, ℕ, List, Result, Ok, Err}
use Rattle.std.specs.Io.KnownBytes.{Appends}
use Rattle.rb_requests.specs.Device.{risen}
use Rattle.rb_requests.specs.declared.device.Failed.{Failed}
use Rattle.rb_requests.specs.declared.device.Sink.{Ghosts}
use Rattle.rb_requests.specs.inner.OneLine.{WrotePart}
use Rattle.rb_requests.specs.declared.answer.Placed.{Placed}
use Rattle.rb_requests.specs.declared.answer.Placed.TheVariants as placed
use Rattle.rb_requests.specs.inner.Putting.{Writer, writer_of, Puts}

-- a text is made a line and nothing is put, or the text is put, or a part of it
abbrev pub Places : Placed → (line : List ℕ) → (before now : Writer) → (text : List ℕ) → Type 0
Places placed.Held line before now text = (line ≡ text) × (now ≡ before)
Places (placed.Put put) line before now text = Puts put before now text

-- `Places` for a text that is a reply; if memory runs out nothing is put
abbrev pub PlacesReply : {E : Type 0} → Result Placed E → (line : List ℕ) → (before now : Writer)
    → (List ℕ → Type 0) → Type 0
PlacesReply (Ok at) line before now Is = (text : List ℕ) × Is text × Places at line before now text
PlacesReply (Err e) line before now Is = now ≡ before

-- `PlacesReply` by a sink before and after
abbrev pub PlacesOn : {S E : Type 0} → Ghosts S → Result Placed E → (line : List ℕ) → (old new : S) → (List ℕ → Type 0)
    → Type 0
PlacesOn g result line old new Is = PlacesReply result line (writer_of g old) (writer_of g new) Is

-- a reply is put whole and flushed, or a part of it is put and a call has failed
abbrev pub Done : (text : List ℕ) → (before now : Writer) → Result (Unit {0}) Failed → Type 0
Done text before now (Ok x) =
    Appends before.written now.written text × (now.faults ≡ before.faults) × (now.settled ≡ risen before.settled)
Done text before now (Err e) =
    WrotePart before.written now.written text × (now.faults ≡ risen before.faults) × (now.settled ≡ before.settled)

-- a reply that was placed is finished
abbrev pub Finishes : Placed → (line : List ℕ) → (mid now : Writer) → Result (Unit {0}) Failed → Type 0
Finishes at line mid now result =
    (before : Writer) (text : List ℕ) → Places at line before mid text → Done text before now result
