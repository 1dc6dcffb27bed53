-- Defines the copy of a bundle's file in C, a rule of this project.
use Rattle.std.specs.Prelude.{◌≡◌, ℕ, List, MatchOption, MatchResult}
use Rattle.rb_locales.specs.Locale.{name}
use Rattle.rb_packages.specs.App.{app_of}
use Rattle.rb_packages.specs.Packages.{file_at}
use Rattle.rb_engine.specs.Kept.{Kept}
use Rattle.resb.specs.Looks.{IsCopied}
use Rattle.resb.specs.Numbers.{app_number}

-- a copy of the file that an application stores under a locale's name, if both are valid
abbrev pub Exports : Kept → List ℕ → List ℕ → ℕ → ℕ → ℕ → List ℕ → Type 0
Exports engine app locale n count room copy = MatchResult (app_of app) (λ a. MatchOption (name locale) (n ≡ 13)
    (λ own. IsCopied 17 (file_at a own engine.packages) n count room copy)) (λ fault. n ≡ app_number fault)
