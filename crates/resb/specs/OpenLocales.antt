-- Defines the error in C of a locale that can't be opened, a rule of this project.
use Rattle.std.specs.Prelude.{◌≡◌, ℕ, List}
use Rattle.rb_engine.specs.Kept.{Kept}
use Rattle.rb_engine.specs.OpenLocale.{RefusesAll}
use Rattle.rb_engine.specs.declared.request.LookFault.{LookFault}
use Rattle.resb.specs.Numbers.{look_number}

-- the number of the error with which each lookup from there ends
abbrev pub RefusesWith : Kept → List ℕ → List ℕ → ℕ → Type 0
RefusesWith engine app locale n = (fault : LookFault) × (n ≡ look_number fault) × RefusesAll engine app locale fault
