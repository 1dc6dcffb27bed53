-- Defines which lookups take too many steps, a rule of this project.
use Rattle.std.specs.Prelude.{ℕ, Bool, false, ◌&&◌, nat_lt, List, Option, Some, None, Result, Ok, Err}
use Rattle.rb_tree.specs.Path.{is_path, segments}
use Rattle.rb_parents.specs.Trail.{Bundles, ParentsOf}
use Rattle.rb_fallback.specs.Steps.{look_steps}
use Rattle.rb_packages.specs.Shelf.{Shelf, bundle_at}
use Rattle.rb_engine.specs.Answer.{Start}
use Rattle.rb_engine.specs.declared.place.Place.{Place}
use Rattle.rb_engine.specs.declared.place.PlaceFault.{PlaceFault}

-- a limit is less than this number of steps; `None` is no limit
abbrev pub is_less : Option ℕ → ℕ → Bool
is_less None taken = false
is_less (Some steps) taken = nat_lt steps taken

-- a lookup takes more steps than a limit; an invalid path is rejected before the first step
abbrev pub exceeds_from : Option ℕ → Bundles → Bundles → ParentsOf → List ℕ → List ℕ → Bool
exceeds_from left own icu parents name path = is_path path
    && is_less left (look_steps own icu parents name (segments path))

-- a lookup by names takes more steps than a limit; invalid names are rejected before the first step
abbrev pub exceeds : Option ℕ → Start → Shelf → Result Place PlaceFault → List ℕ → Bool
exceeds left start shelf (Err e) path = false
exceeds left start shelf (Ok p) path = exceeds_from left (bundle_at shelf)
    (bundle_at start.icudata) start.parents p.name path

-- a lookup takes more than this many steps
abbrev pub takes_more_from : ℕ → Bundles → Bundles → ParentsOf → List ℕ → List ℕ → Bool
takes_more_from steps own icu parents name path = exceeds_from (Some steps) own icu parents name path

abbrev pub takes_more : ℕ → Start → Shelf → Result Place PlaceFault → List ℕ → Bool
takes_more steps start shelf place path = exceeds (Some steps) start shelf place path
