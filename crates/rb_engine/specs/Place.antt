-- Defines the name under which a bundle is stored, an application and a locale, a rule of this project.
use Rattle.std.specs.Prelude.{ℕ, List, Option, Some, None, Result, Ok, Err}
use Rattle.rb_locales.specs.Locale.{name}
use Rattle.rb_packages.specs.App.{app_of}
use Rattle.rb_packages.specs.declared.app.AppFault.{AppFault}
use Rattle.rb_packages.specs.declared.app.AppFault.TheVariants as app
use Rattle.rb_engine.specs.declared.place.Place.{Place}
use Rattle.rb_engine.specs.declared.place.PlaceFault.{PlaceFault}
use Rattle.rb_engine.specs.declared.place.PlaceFault.TheVariants as place

abbrev pub app_refusal : AppFault → PlaceFault
app_refusal app.BadApp = place.BadApp
app_refusal app.Reserved = place.Reserved

-- the application's name is checked before the locale
abbrev pub place_by : Result (List ℕ) AppFault → Option (List ℕ) → Result Place PlaceFault
place_by (Err e) n = Err (app_refusal e)
place_by (Ok a) None = Err place.BadLocale
place_by (Ok a) (Some n) = Ok (record { app = a; name = n })

abbrev pub place_of : List ℕ → List ℕ → Result Place PlaceFault
place_of app locale = place_by (app_of app) (name locale)
