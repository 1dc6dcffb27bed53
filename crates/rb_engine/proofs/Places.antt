-- The names of a place lead to it.
use Rattle.std.proofs.Common.{◌≡◌, ℕ, List, Bool, true, false, Result, Ok, Err, Option, Some, None, not, cond, codes, refl, ◌∙◌, ap, subst}
use Rattle.std.specs.Str.{bytes_eq}
use Rattle.rb_locales.specs.Locale.{name}
use Rattle.rb_packages.specs.App.{app_of, is_app}
use Rattle.rb_packages.specs.declared.app.AppFault.{AppFault}
use Rattle.rb_packages.specs.declared.app.AppFault.TheVariants.{BadApp, Reserved}
use Rattle.rb_engine.specs.Place.{place_by, place_of}
use Rattle.rb_engine.specs.declared.place.Place.{Place}

same_app : (bad own : Bool) (bytes app : List ℕ) → cond bad (Err BadApp) (cond own (Err Reserved) (Ok bytes)) ≡ Ok app → bytes ≡ app
same_app true own bytes app e = cc
same_app false true bytes app e = cc
same_app false false bytes app e = cc

app_again : (bytes app : List ℕ) → app_of bytes ≡ Ok app → app_of app ≡ Ok app
app_again bytes app e =
    let same : bytes ≡ app = same_app (not (is_app bytes)) (bytes_eq bytes (codes "ICUDATA")) bytes app e in
    subst (λ (x : List ℕ). app_of x ≡ Ok app) same e

pub own_app : (app locale : List ℕ) (place : Place) → place_of app locale ≡ Ok place → app_of place.app ≡ Ok place.app
own_app app locale place e = by (app_of app) (name locale) refl e
  where
    by : (a : Result (List ℕ) AppFault) (n : Option (List ℕ)) → app_of app ≡ a → place_by a n ≡ Ok place → app_of place.app ≡ Ok place.app
    by (Err f) n h k = cc
    by (Ok a) None h k = cc
    by (Ok a) (Some n) h k =
        let same : a ≡ place.app = cc in
        app_again app place.app (subst (λ (x : List ℕ). app_of app ≡ Ok x) same h)

pub own_place : (place : Place) → app_of place.app ≡ Ok place.app → name place.name ≡ Some place.name → place_of place.app place.name ≡ Ok place
own_place place a n = ap (λ (x : Result (List ℕ) AppFault). place_by x (name place.name)) a ∙ ap (place_by (Ok place.app)) n
