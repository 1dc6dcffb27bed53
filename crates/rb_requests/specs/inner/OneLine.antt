-- For what is private. Defines the results of answering one line; `Reply` gives its reply and the state after it.
use Rattle.std.specs.Prelude.{◌≡◌, ◌++◌, ◌⊎◌, ℕ, List, [], Option, Result, Ok, Err}
use Rattle.std.specs.Io.KnownBytes.{Appends}
use Rattle.rb_requests.specs.Device.{risen}
use Rattle.rb_requests.specs.Served.{TakesEffect}
use Rattle.rb_requests.specs.declared.lines.ServeFault.{ServeFault}
use Rattle.rb_requests.specs.declared.lines.ServeFault.TheVariants.{Write, Memory}

-- a part of bytes is written
pub record WrotePart (written written' : Option (List ℕ)) (bytes : List ℕ) : Type 0 where
  pub part : List ℕ
  pub missing : List ℕ
  pub whole : part ++ missing ≡ bytes
  pub wrote : Appends written written' part

module _ {S : Type 0} (Reply : S → List ℕ → List ℕ → S → Type 0) where
  -- a line's reply is written, and the line has taken effect
  abbrev pub Wrote : S → List ℕ → Option (List ℕ) → Option (List ℕ) → S → Type 0
  Wrote old line written written' new = (text : List ℕ) × Reply old line text new × Appends written written' text

  -- a line has taken effect, and a part of its reply is written
  pub record WroteSome (old : S) (line : List ℕ) (written written' : Option (List ℕ)) (new : S) : Type 0 where
    pub reply : List ℕ
    pub answers : Reply old line reply new
    pub wrote : WrotePart written written' reply

  -- a line has taken effect or has not
  abbrev pub MayTakeEffect : S → List ℕ → S → Type 0
  MayTakeEffect old line new = (new ≡ old) ⊎ TakesEffect Reply old line new

  -- a line has taken effect or has not, and nothing is written
  pub record WroteNone (old : S) (line : List ℕ) (written written' : Option (List ℕ)) (new : S) : Type 0 where
    pub effect : MayTakeEffect old line new
    pub kept : Appends written written' []

  -- why a line is not answered: memory ran out, or its reply could not be written
  abbrev pub FailsLine : ServeFault → S → List ℕ → Option (List ℕ) → Option (List ℕ) → S → Type 0
  FailsLine fault old line written written' new = ((fault ≡ Memory) × WroteNone old line written written' new)
      ⊎ ((fault ≡ Write) × WroteSome old line written written' new)

-- a line that is answered raises the count of flushed replies
abbrev pub line_settled : {T : Type 0} → ℕ → Result T ServeFault → ℕ
line_settled count (Ok x) = risen count
line_settled count (Err fault) = count
