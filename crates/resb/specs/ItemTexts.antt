-- Defines items as JSON in C, a rule of this project: an item that a lookup finds is `found_data` of rb_json, a tree with
-- inheritance is that of rb_inherit.
use Rattle.std.specs.Prelude.{◌≡◌, ◌⊎◌, ◌<◌, ◌≤◌, ℕ, List, Ok, length}
use Rattle.serde_json.specs.Written.{compact_text}
use Rattle.rb_json.specs.Item.{found_data}
use Rattle.rb_parents.specs.Family.{parent_in}
use Rattle.rb_parents.specs.Trail.{Bundles, ParentsOf}
use Rattle.rb_fallback.specs.Search.{Hit}
use Rattle.rb_inherit.specs.Lookups.{IsTreeOf}
use Rattle.rb_packages.specs.Packages.{list_of}
use Rattle.rb_packages.specs.Shelf.{bundle_at}
use Rattle.rb_engine.specs.Answer.{Response}
use Rattle.rb_engine.specs.Kept.{Kept}
use Rattle.rb_engine.specs.Place.{place_of}
use Rattle.rb_engine.specs.declared.place.Place.{Place}
use Rattle.resb.specs.Copied.{CopiesBytes}
use Rattle.resb.specs.Looks.{IfFound}

-- a text is above a limit, which is error 79, or is copied
abbrev pub CopiesWithin : ℕ → List ℕ → ℕ → ℕ → ℕ → List ℕ → Type 0
CopiesWithin limit text n count room copy =
    ((n ≡ 79) × (limit < length text)) ⊎ ((length text ≤ limit) × CopiesBytes text n count room copy)

-- a copy of the item that is found, unless it is above a limit
abbrev pub CopiesItemWithin : ℕ → Response → ℕ → ℕ → ℕ → List ℕ → Type 0
CopiesItemWithin limit response n count room copy =
    IfFound response n (λ hit valid. CopiesWithin limit (compact_text (found_data hit.actual valid hit.tree))
    n count room copy)

-- a copy of the item that is found
abbrev pub CopiesItem : Response → ℕ → ℕ → ℕ → List ℕ → Type 0
CopiesItem response n count room copy =
    IfFound response n (λ hit valid. CopiesBytes (compact_text (found_data hit.actual valid hit.tree)) n count room copy)

-- a copy of the tree of an item; or the tree's own error, that it is too large or takes too many steps: when is left open
abbrev pub CopiesTreeOf : Bundles → ParentsOf → (name path : List ℕ) → Hit → ℕ → ℕ → ℕ → List ℕ → Type 0
CopiesTreeOf bundles parents name path hit n count room copy = (n ≡ 20) ⊎ ((n ≡ 30) ⊎ ((tree : List ℕ)
    × IsTreeOf bundles parents name path (λ written. tree ≡ written) hit × CopiesBytes tree n count room copy))

-- a copy of the tree of the item that is found
abbrev pub CopiesTree : Kept → (app locale path : List ℕ) → Response → ℕ → ℕ → ℕ → List ℕ → Type 0
CopiesTree engine app locale path response n count room copy = IfFound response n (λ hit valid. (p : Place)
    × (place_of app locale ≡ Ok p) × CopiesTreeOf (bundle_at (list_of p.app engine.packages)) (parent_in engine.parents)
    p.name path hit n count room copy)
