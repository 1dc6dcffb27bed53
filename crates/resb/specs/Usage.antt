-- Defines how much an application stores, in C, a rule of this project.
use Rattle.std.specs.Prelude.{◌≡◌, ◌-◌, ◌^◌, ℕ, List, MatchResult, length, min}
use Rattle.rb_packages.specs.App.{app_of}
use Rattle.rb_packages.specs.Packages.{files_of}
use Rattle.rb_packages.specs.Usage.{bytes_of}
use Rattle.rb_engine.specs.Kept.{Kept}
use Rattle.resb.specs.Numbers.{app_number}

-- the total length of the files that an application stores, at most 2^64 - 1, and their number
abbrev pub Uses : Kept → List ℕ → ℕ → ℕ → ℕ → Type 0
Uses e app n bytes bundles = MatchResult (app_of app) (λ a. (n ≡ 0)
    × (bytes ≡ min (bytes_of (files_of a e.packages)) (2 ^ 64 - 1)) × (bundles ≡ length (files_of a e.packages)))
    (λ fault. n ≡ app_number fault)
