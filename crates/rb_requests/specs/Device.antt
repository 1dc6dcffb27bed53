-- Defines the effect of a reader's and a writer's calls on the bytes, as in std's `Read` and `Write`, and on the counts
-- of failed calls and of flushes.
use Rattle.std.specs.Prelude.{ℕ, zero, suc, ◌+◌, ◌-◌, ◌^◌, min, List, [], ◌∷◌, Option, Some, None, Result, Ok, Err}
use Rattle.std.specs.Io.KnownBytes.{Keeps, Consumes, IsAtEnd}
use Rattle.rb_requests.specs.declared.device.Failed.{Failed}

-- a byte is the first that was left; none is, only at the end; a failed call takes none
abbrev pub Pulls : Option (List ℕ) → Option (List ℕ) → Result (Option ℕ) Failed → Type 0
Pulls old new (Ok (Some byte)) = Consumes old new (byte ∷ [])
Pulls old new (Ok None) = IsAtEnd old × Keeps old new
Pulls old new (Err e) = Keeps old new

-- a count that rises by one, up to the largest number of 64 bits
abbrev pub risen : ℕ → ℕ
risen count = min (count + 1) (2 ^ 64 - 1)

-- a failed call raises the count
abbrev pub counted : {T : Type 0} → ℕ → Result T Failed → ℕ
counted old (Ok x) = old
counted old (Err e) = risen old

-- a count that has risen this many times
abbrev pub risen_by : ℕ → ℕ → ℕ
risen_by count zero = count
risen_by count (suc n) = risen (risen_by count n)

-- a call that succeeds raises the count
abbrev pub settles : {T : Type 0} → ℕ → Result T Failed → ℕ
settles old (Ok x) = risen old
settles old (Err e) = old
