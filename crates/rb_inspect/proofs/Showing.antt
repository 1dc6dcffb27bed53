-- The units of an alias's text as a trace shows them, one by one.
use Rattle.std.proofs.Common.{◌≡◌, ◌+◌, ◌-◌, ◌<◌, ◌≤◌, ℕ, suc, List, [], ◌∷◌, ◌++◌, length, map, slice_index, slice_range}
use Rattle.std.proofs.Common.{refl, ap, sym, ◌∙◌}
use Rattle.rb_tree.specs.Resource.{Resource}
use Rattle.rb_tree.specs.Parts.{HasUnits, kind_of, len_of, units_of}
use Rattle.rb_fallback.proofs.AppendedUnits.{unit_on, unit_count}
use Rattle.rb_inspect.specs.inner.ShownUnits.{shown_unit}

map_on : {A B : Type 0} (f : A → B) (xs : List A) (y : A) → map f (xs ++ y ∷ []) ≡ map f xs ++ f y ∷ []
map_on f [] y = refl
map_on f (x ∷ xs) y = ap (λ l. f x ∷ l) (map_on f xs y)

map_count : {A B : Type 0} (f : A → B) (xs : List A) → length (map f xs) ≡ length xs
map_count f [] = refl
map_count f (x ∷ xs) = ap suc (map_count f xs)

pub shown_on : (t : Resource) (from i : ℕ) (xs : List ℕ) → HasUnits (kind_of t) → from ≤ i → i < len_of t
    → xs ≡ map shown_unit (slice_range (units_of t) from i)
    → xs ++ shown_unit (slice_index (units_of t) i) ∷ [] ≡ map shown_unit (slice_range (units_of t) from (i + 1))
shown_on t from i xs u l h e =
    ap (λ ys. ys ++ shown_unit (slice_index (units_of t) i) ∷ []) e
    ∙ sym (map_on shown_unit (slice_range (units_of t) from i) (slice_index (units_of t) i))
    ∙ ap (map shown_unit) (unit_on t from i (slice_range (units_of t) from i) u l h refl)

pub shown_count : (t : Resource) (from i : ℕ) (xs : List ℕ) → HasUnits (kind_of t) → i ≤ len_of t
    → xs ≡ map shown_unit (slice_range (units_of t) from i) → length xs ≡ i - from
shown_count t from i xs u h e =
    ap length e
    ∙ map_count shown_unit (slice_range (units_of t) from i)
    ∙ unit_count t from i (slice_range (units_of t) from i) u h refl

pub ruleset shown_steps = (shown_on, shown_count)
