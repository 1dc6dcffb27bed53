-- For private contracts and proofs only: the stops that an open locale has so far.
use Rattle.std.specs.Prelude.{◌≡◌, ℕ, List, map}
use Rattle.rb_parents.specs.Trail.{stops}
use Rattle.rb_fallback.specs.Stops.{with_tree}
use Rattle.rb_packages.specs.Shelf.{bundle_at}
use Rattle.rb_packages.specs.Packages.{Files, shelf_of}
use Rattle.rb_engine.specs.OpenLocale.{named_tree, stop_indices}
use Rattle.rb_engine.specs.declared.open_locale.OpenLocale.{OpenLocale}

-- the indices are those of the stops among these names, with their trees
abbrev pub HasStops : OpenLocale → Files → List (List ℕ) → Type 0
HasStops opened files ns = map (named_tree files) (stop_indices opened)
    ≡ map (with_tree (bundle_at (shelf_of files))) (stops (bundle_at (shelf_of files)) ns)
