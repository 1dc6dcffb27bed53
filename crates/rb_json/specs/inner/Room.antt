-- For what is private. Defines the remainder of a limit of weight.
use Rattle.std.specs.Prelude.{◌≡◌, ◌+◌, ◌≤◌, ℕ, Option, MatchOption}
use Rattle.rb_tree.specs.Resource.{Resource, height, weight}

-- the tree has at most this many levels, and its weight leaves `l` of the room; or it has more, or is too heavy
abbrev pub IsRoomAfter : Resource → ℕ → ℕ → Option ℕ → Type 0
IsRoomAfter t levels room left = MatchOption left ((height t ≤ levels) → (weight t ≤ room) → ⊥)
    (λ l. (height t ≤ levels) × (weight t + l ≡ room))
