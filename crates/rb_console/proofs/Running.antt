-- The status of a command over many files, one by one.
use Rattle.std.proofs.Common.{◌≡◌, ◌==◌, ◌+◌, ◌<◌, ◌∙◌, ℕ, List, ◌∷◌, false, MatchBool, length, drop, get_or}
use Rattle.std.proofs.Common.{sym, ap, subst}
use Rattle.std.proofs.lemmas.List.{drop_more}
use Rattle.std.specs.declared.process.ExitCode.{ExitCode}
use Rattle.std.specs.Process.{exit_status}
use Rattle.rb_console.specs.Status.{later_status}
use Rattle.rb_console.specs.Each.{AreRun}

one_more : {T : Type 0} (Runs : T → ExitCode → Type 0) (x : T) (xs : List T) (before now after : ℕ) (one : ExitCode)
    → Runs x one → now ≡ later_status before (exit_status one) → false ≡ (now == 2) → AreRun Runs xs now after
    → AreRun Runs (x ∷ xs) before after
one_more Runs x xs before now after one runs is more rest =
    let later = later_status before (exit_status one) in
    let others : AreRun Runs xs later after = subst (λ n. AreRun Runs xs n after) is rest in
    let goes_on : false ≡ (later == 2) = more ∙ ap (λ n. n == 2) is in
    (one, runs, subst (λ b. MatchBool b (after ≡ 2) (AreRun Runs xs later after)) goes_on others)

-- a file is run, and those after it
pub step_back : {T : Type 0} (Runs : T → ExitCode → Type 0) (xs : List T) (i : ℕ) (x : T) (before now after : ℕ) (one : ExitCode)
    → i < length xs → Runs (get_or xs i x) one → now ≡ later_status before (exit_status one) → false ≡ (now == 2)
    → AreRun Runs (drop (i + 1) xs) now after → AreRun Runs (drop i xs) before after
step_back Runs xs i x before now after one lt runs is more rest =
    subst (λ ys. AreRun Runs ys before after) (sym (drop_more xs i x lt))
    (one_more Runs (get_or xs i x) (drop (i + 1) xs) before now after one runs is more rest)
