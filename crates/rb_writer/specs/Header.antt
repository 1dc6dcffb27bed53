-- Defines the header that is written (ICU's `UDataInfo`): the header's size, the magic bytes, the info block's size,
-- little-endian numbers, ASCII keys, units of two bytes, `ResB`, the format version, and the data version 0. A bundle
-- without fallback has version 1.2, which added attributes.
use Rattle.std.specs.Prelude.{Bool, if◌then◌else◌, ℕ, List, [], ◌∷◌}

abbrev pub header : Bool → List ℕ
header no_fallback =
    32 ∷ 0 ∷ 218 ∷ 39 ∷ 20 ∷ 0 ∷ 0 ∷ 0 ∷ 0 ∷ 0 ∷ 2 ∷ 0 ∷ 82 ∷ 101 ∷ 115 ∷ 66
    ∷ 1 ∷ (if no_fallback then 2 else 1) ∷ 0 ∷ 0 ∷ 0 ∷ 0 ∷ 0 ∷ 0 ∷ 0 ∷ 0 ∷ 0 ∷ 0 ∷ 0 ∷ 0 ∷ 0 ∷ 0 ∷ []
