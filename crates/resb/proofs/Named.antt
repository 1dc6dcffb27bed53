-- Proves that a bundle with valid names is the one that a change with its file reads.
use Rattle.std.proofs.Common.{◌≡◌, ◌∙◌, ℕ, List, Some, Ok, refl, sym, ap}
use Rattle.rb_format.specs.File.{Denotes, source_tree_of}
use Rattle.rb_locales.specs.Locale.{name}
use Rattle.rb_packages.specs.App.{app_of}
use Rattle.rb_engine.specs.Place.{place_of}
use Rattle.rb_engine.specs.Source.{Reads}
use Rattle.rb_engine.specs.declared.place.Place.{Place}
use Rattle.rb_engine.specs.declared.request.Payload.TheVariants.{File}

placed : (app locale a n : List ℕ) (p : Place) → app_of app ≡ Ok a → name locale ≡ Some n → p.app ≡ a → p.name ≡ n
    → place_of app locale ≡ Ok p
placed app locale a n p h k u v = rw (h ∙ ap (λ (x : List ℕ). Ok x) (sym u), k ∙ ap (λ (x : List ℕ). Some x) (sym v)) refl

pub reads : (app locale a n file : List ℕ) (r : Place × List ℕ) → app_of app ≡ Ok a → name locale ≡ Some n → r.0.app ≡ a → r.0.name ≡ n
    → r.1 ≡ file → Denotes file (source_tree_of file) → Reads app locale (File file) (Ok r)
reads app locale a n file r h k u v w d = (placed app locale a n r.0 h k u v, rw w d)
