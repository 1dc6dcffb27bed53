-- Defines the status of a command over many files by theirs.
use Rattle.std.specs.Prelude.{◌≡◌, ◌==◌, ℕ, List, [], ◌∷◌, MatchBool}
use Rattle.std.specs.Process.{exit_status}
use Rattle.std.specs.declared.process.ExitCode.{ExitCode}
use Rattle.rb_console.specs.Status.{later_status}

-- The command runs on each file in order, until the status is 2. `Runs` says which status a file may have; `before` is
-- the status of the files before these, and `after` that of all.
abbrev pub AreRun : {T : Type 0} → (T → ExitCode → Type 0) → List T → ℕ → ℕ → Type 0
AreRun Runs [] before after = after ≡ before
AreRun Runs (x ∷ xs) before after =
    (one : ExitCode) × Runs x one
    × (let later = later_status before (exit_status one) in MatchBool (later == 2) (after ≡ 2) (AreRun Runs xs later after))
