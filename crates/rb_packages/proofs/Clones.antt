-- The files of cloned packages.
use Rattle.std.proofs.Common.{◌≡◌, ℕ, List, [], ◌∷◌, refl, ap₂}
use Rattle.std.specs.List.{AllZip}
use Rattle.rb_packages.specs.Index.{Rows, files_by_app}

pub cloned_rows : {S : Type 0} (rows cloned : Rows S) → AllZip (λ p q. (q.0 ≡ p.0) × (q.1.entries ≡ p.1.entries)) rows cloned
    → files_by_app cloned ≡ files_by_app rows
cloned_rows [] [] h = refl
cloned_rows [] (q ∷ qs) h = absurd h
cloned_rows (p ∷ ps) [] h = absurd h
cloned_rows (p ∷ ps) (q ∷ qs) h = ap₂ (λ e es. e ∷ es) (ap₂ (λ app files. (app, files)) h.0.0 h.0.1) (cloned_rows ps qs h.1)
